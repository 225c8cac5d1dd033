-- How the code writes a plan: slot by slot, one number in each row.
use Rattle.std.specs.Prelude.{ℕ, suc, ◌+◌, ◌*◌, ◌-◌, ◌≤◌, List, [], ◌∷◌, set}
use Rattle.model.specs.Lists.{All, Distinct}
use Rattle.model.specs.Jobs.{numbers}
use Rattle.model.specs.Rule as Model
use Rattle.figures.specs.declared.Job.{Job}
use Rattle.figures.specs.Jobs.{as_jobs}
use Rattle.rule.specs.declared.Share.{Share}
use Rattle.rule.specs.Shares.{as_shares}

-- slot t of the shares written, the first of them into row i
abbrev pub column_of : ℕ → ℕ → List Model.Share → List ℕ → List ℕ
column_of t i [] plan = plan
column_of t i (p ∷ ps) plan = column_of t (suc i) ps (set plan (168 * i + t - 1) p.given)

-- the machines of each share fit 16 bits
abbrev pub Slim : List Share → Type 0
Slim shares = All (λ p. p.given ≤ 65535) (as_shares shares)

-- jobs that can be planned: numbers that differ, bounds up to 64, deadlines up to 168
pub record Plannable (jobs : List Job) : Type 0 where
  pub apart : Distinct (numbers (as_jobs jobs))
  pub bounds : All (λ j. j.bound ≤ 64) (as_jobs jobs)
  pub deadlines : All (λ j. j.deadline ≤ 168) (as_jobs jobs)
