-- How great the figures of a list that no test refuses can be: the forced work, a boundary, the shortage.
use Prim.Native.Nat.{ℕ, zero, suc, ◌*◌, ◌-◌, ◌≤◌, ◌<◌}
use native.Mathlib.Omega.{arith}
use mathlib.Core.Path.{◌≡◌, refl, ◌∙◌, ap}
use mathlib.Core.Logic.{inl, inr}
use mathlib.Core.List.{List, [], ◌∷◌}
use lib.IntN.{pos, neg_ℤ}
use lib.ListN.{length, length-map}
use Rattle.model.specs.Lists.{All}
use Rattle.model.specs.Jobs.{Job, forced_of, forced, counted}
use Rattle.model.specs.Boundaries.{Boundary, Short, LeastShort}
use Rattle.model.proofs.Lists.{All-at}
use Rattle.model.proofs.Signed.{room_short, room_over}
use Rattle.promise.specs.Rows.{row_count, job_rows, jobs_of, list_order}
use Rattle.promise.specs.Lists.{planned}
use Rattle.promise.proofs.Sound.{InRange, Passes, planned_in_range, few_rows}

-- each job forces at most its work
pub forced_le : (jobs : List Job) (b : ℕ) → All InRange jobs → forced jobs b ≤ 60000 * length jobs
unfolding forced forced_of
forced_le [] b h = omega arith
forced_le (j ∷ jobs) b h = omega (arith, h.0.0, forced_le jobs b h.1)

rows_length : (rows : List ℕ) (i n : ℕ) → length (job_rows rows i n) ≡ n
rows_length rows i zero = refl
rows_length rows i (suc n) = ap suc (rows_length rows (suc i) n)

planned_length : (machines : ℕ) (rows : List ℕ) → length (planned machines rows) ≡ row_count rows
unfolding planned counted jobs_of
planned_length machines rows = length-map (jobs_of rows) _ ∙ rows_length rows 0 (row_count rows)

-- 32 jobs of 60,000 hours
pub planned_forced : (machines : ℕ) (rows : List ℕ) → Passes machines rows (list_order rows) → (b : ℕ) → forced (planned machines rows) b ≤ 1920000
planned_forced machines rows h b =
    omega (arith, forced_le (planned machines rows) b (planned_in_range machines rows h), planned_length machines rows, few_rows machines rows h)

pub boundary_le : (L : ℕ) (jobs : List Job) → All (λ j. j.deadline ≤ L) jobs → (b : ℕ) → Boundary jobs b → b ≤ L
boundary_le L jobs h b (inl e) = omega arith
boundary_le L jobs h b (inr j) = omega (arith, All-at (λ i. i.deadline ≤ L) j.0 h j.1)

-- a shortage is a part of the forced work
pub shortage_le : (C : ℕ) (jobs : List Job) (s : Short) → LeastShort C jobs s → s.amount ≤ forced jobs s.place
shortage_le C jobs s l = omega (arith, amount, over)
  where
    over : C * s.place < forced jobs s.place
    over = room_over C jobs s.place l.short

    negated : pos s.amount ≡ pos (suc (forced jobs s.place - suc (C * s.place)))
    negated = l.amount ∙ ap neg_ℤ (room_short C jobs s.place over)

    amount : s.amount ≡ suc (forced jobs s.place - suc (C * s.place))
    amount = let e = negated in cc
