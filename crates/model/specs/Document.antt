-- Document 002, section 3.1: Definitions 1 and 2 and the condition of Lemma 1, for a list of jobs.
use Rattle.std.specs.Prelude.{ℕ, zero, suc, ◌+◌, ◌*◌, ◌-◌, ◌≤◌, ◌<◌, min, cond, List, leb, length, get_or}
use Rattle.model.specs.Lists.{All, total}
use Rattle.model.specs.Jobs.{Job, run_length, whole_work}
use Rattle.model.specs.Boundaries.{boundaries}

-- "0 = τ_0 < τ_1 < .. < τ_L = d", the deadlines of the list
unfoldable pub tau : List Job → ℕ → ℕ
tau jobs m = get_or (boundaries jobs) m 0

unfoldable pub last_index : List Job → ℕ
last_index jobs = length (boundaries jobs) - 1

-- what document 002 takes for granted of a task: deadline and bound are positive
abbrev pub Tasks : List Job → Type 0
Tasks jobs = All (λ j. (1 ≤ j.deadline) × (1 ≤ j.bound)) jobs

-- Definition 1, β of one task at τ: nothing if d ≤ τ; all of D if its run length is at most d − τ; else k × (d − τ)
unfoldable pub beta : ℕ → Job → ℕ
beta τ j =
    cond (leb j.deadline τ) 0
    (cond (leb (run_length j.work j.bound) (j.deadline - τ)) j.work (j.bound * (j.deadline - τ)))

-- Definition 1: λ_m, "Initially .. zero", then the sum of the β at τ_(L − m)
abbrev pub lambda : List Job → ℕ → ℕ
lambda jobs zero = 0
lambda jobs (suc m) = total (beta (tau jobs (last_index jobs - suc m))) jobs

-- Definition 2: λ^C_m
abbrev pub lambda_c : ℕ → List Job → ℕ → ℕ
lambda_c C jobs zero = 0
lambda_c C jobs (suc m) =
    lambda_c C jobs m
    + min (lambda jobs (suc m) - lambda_c C jobs m) (C * (tau jobs (last_index jobs - suc m + 1) - tau jobs (last_index jobs - suc m)))

-- "μ_m = Σ D_i − λ^C_(L − m)"
unfoldable pub mu : ℕ → List Job → ℕ → ℕ
mu C jobs m = whole_work jobs - lambda_c C jobs (last_index jobs - m)

-- Lemma 1, the boundary condition: μ_m ≤ C × τ_m for all m from 0 to L − 1
abbrev pub BoundaryCondition : ℕ → List Job → Type 0
BoundaryCondition C jobs = (m : ℕ) → m < last_index jobs → mu C jobs m ≤ C * tau jobs m
