-- 01, "The rule of the plan", as functions that compute it. That they mean what 01 says is theorem R2, through Follows.
use Rattle.std.specs.Prelude.{ℕ, zero, suc, ◌+◌, ◌*◌, ◌-◌, Bool, cond, ◌&&◌, ◌||◌, leb, ltb, eqb}
use mathlib.Core.List.{List, [], ◌∷◌, map, zip_with}
use Rattle.std.proofs.Math.Option.{Option, some, none}
use Rattle.model.specs.Lists.{total}
use Rattle.model.specs.Jobs.{Job, run_length, greatest_deadline}

-- a job while a plan is made: what is left of its work, and the machines given to it in the slot at hand
pub record Share : Type 0 where
  pub job : Job
  pub left : ℕ
  pub given : ℕ

-- before any slot is filled
unfoldable pub fresh : Job → Share
fresh j = record { job = j; left = j.work; given = 0 }

-- the "run length of what remains of its work"
unfoldable pub run_left : Share → ℕ
run_left p = run_length p.left p.job.bound

-- "deadline at or after this slot, work remaining, and fewer than k machines in this slot"
unfoldable pub qualifies : ℕ → Share → Bool
qualifies t p = leb t p.job.deadline && ltb 0 p.left && ltb p.given p.job.bound

-- p goes before q: "the greatest run length", "Equal run lengths go to the smaller job number."
unfoldable pub before : Share → Share → Bool
before p q = ltb (run_left q) (run_left p) || (eqb (run_left q) (run_left p) && ltb p.job.number q.job.number)

-- of p and the choice so far, the one that goes before the other
abbrev pub choose : Share → Option Share → Option Share
choose p none = some p
choose p (some q) = some (cond (before p q) p q)

-- the share that the next machine of slot t goes to, if one qualifies
abbrev pub next : ℕ → List Share → Option Share
next t [] = none
next t (p ∷ ps) = cond (qualifies t p) (choose p (next t ps)) (next t ps)

-- one more machine, one unit less of work
unfoldable pub bump : Share → Share
bump p = record { job = p.job; left = p.left - 1; given = p.given + 1 }

-- a machine for job number n
abbrev pub give : ℕ → List Share → List Share
give n ps = map (λ p. cond (eqb p.job.number n) (bump p) p) ps

-- a machine for the chosen share, if there is one
abbrev pub give_to : Option Share → List Share → List Share
give_to none ps = ps
give_to (some p) ps = give p.job.number ps

-- "machines are handed out one at a time, at most" c
abbrev pub hand_out : ℕ → ℕ → List Share → List Share
hand_out zero t ps = ps
hand_out (suc c) t ps = hand_out c t (give_to (next t ps) ps)

-- a new slot: nothing is given in it yet
unfoldable pub clear : Share → Share
clear p = record { job = p.job; left = p.left; given = 0 }

-- slot t filled with at most c machines
unfoldable pub fill : ℕ → ℕ → List Share → List Share
fill c t ps = hand_out c t (map clear ps)

-- the share of job number n
unfoldable pub nobody : Share
nobody = fresh (record { number = 0; work = 0; deadline = 0; bound = 0 })

abbrev pub share_of : ℕ → List Share → Share
share_of n [] = nobody
share_of n (p ∷ ps) = cond (eqb p.job.number n) p (share_of n ps)

-- the machines of job number n in slot s, where the slots from t down to 1 are still to be filled, each with its own count
abbrev pub cell : (ℕ → ℕ) → ℕ → List Share → ℕ → ℕ → ℕ
cell count zero ps n s = 0
cell count (suc t) ps n s =
    cond (eqb s (suc t))
    (share_of n (fill (count (suc t)) (suc t) ps)).given
    (cell count t (fill (count (suc t)) (suc t) ps) n s)

-- the machines of job number n in slot s, the slots filled from `last` down to 1
unfoldable pub plan_from : ℕ → (ℕ → ℕ) → List Job → ℕ → ℕ → ℕ
plan_from last count jobs n s = cell count last (map fresh jobs) n s

-- "Slots are filled from the greatest deadline down to 1."
unfoldable pub plan_in : (ℕ → ℕ) → List Job → ℕ → ℕ → ℕ
plan_in count jobs = plan_from (greatest_deadline jobs) count jobs

-- the plan in a room of C machines
unfoldable pub plan : ℕ → List Job → ℕ → ℕ → ℕ
plan C jobs = plan_in (λ t. C) jobs

-- the same in one pass: each slot filled puts its machines in front of the rows
abbrev pub rows_from : (ℕ → ℕ) → ℕ → List Share → List (List ℕ) → List (List ℕ)
rows_from count zero ps rows = rows
rows_from count (suc t) ps rows =
    rows_from count t (fill (count (suc t)) (suc t) ps) (zip_with (λ p row. p.given ∷ row) (fill (count (suc t)) (suc t) ps) rows)

-- the plan as a row of 168 slots for each job, in the list's order
unfoldable pub plan_rows : ℕ → List Job → List (List ℕ)
plan_rows C jobs = rows_from (λ t. C) 168 (map fresh jobs) (map (λ j. []) jobs)

-- the work above L full slots, over the shares that may still use slot t: what the slot lemma speaks of
unfoldable pub excess_of : ℕ → ℕ → Share → ℕ
excess_of t L p = cond (leb t p.job.deadline) (p.left - p.job.bound * L) 0

unfoldable pub excess : ℕ → ℕ → List Share → ℕ
excess t L ps = total (excess_of t L) ps
