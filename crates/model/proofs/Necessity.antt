-- M1, one half: where a valid schedule exists, the forced work is at most C × b at each b.
use Prim.Native.Nat.{ℕ, zero, suc, ◌+◌, ◌*◌, ◌-◌, ◌≤◌}
use native.Mathlib.Nat.{add-zero, add-suc, le_trans}
use native.Mathlib.Decide.{dec_le}
use native.Mathlib.Omega.{arith}
use mathlib.Core.Path.{◌≡◌, ap}
use mathlib.Core.List.{List}
use Rattle.model.specs.Lists.{total, upto}
use Rattle.model.specs.Jobs.{Job, forced_of, forced}
use Rattle.model.specs.Schedules.{Serves, Valid}
use Rattle.model.proofs.Lists.{total_add, total_zero, total_le, All-map}

-- at most k machines in each of the n slots after b
upto_le : (y : ℕ → ℕ) (k : ℕ) → ((t : ℕ) → 1 ≤ t → y t ≤ k) → (b n : ℕ) → upto y (b + n) ≤ upto y b + k * n
upto_le y k h b zero = rw add-zero (omega arith)
upto_le y k h b (suc n) = rw add-suc (omega (arith, upto_le y k h b n, h (suc (b + n)) (omega arith)))

upto_mono : (y : ℕ → ℕ) (b n : ℕ) → upto y b ≤ upto y (b + n)
upto_mono y b zero = rw add-zero (omega arith)
upto_mono y b (suc n) = rw add-suc (omega (arith, upto_mono y b n))

pub forced_upto : (b : ℕ) (j : Job) (y : ℕ → ℕ) → Serves y j → forced_of b j ≤ upto y b
unfolding forced_of
forced_upto b j y s = go (dec_le b j.deadline)
  where
    go : Dec (b ≤ j.deadline) → forced_of b j ≤ upto y b
    go (yes h) =
        let d : b + (j.deadline - b) ≡ j.deadline = omega arith in
        omega (arith, s.whole, ap (upto y) d, upto_le y j.bound s.within b (j.deadline - b))
    go (no h) =
        let d : j.deadline + (b - j.deadline) ≡ b = omega arith in
        omega (arith, s.whole, ap (upto y) d, upto_mono y j.deadline (b - j.deadline))

sum_upto : (C : ℕ) (jobs : List Job) (y : ℕ → ℕ → ℕ) → ((t : ℕ) → 1 ≤ t → total (λ j. y j.number t) jobs ≤ C)
    → (b : ℕ) → total (λ j. upto (y j.number) b) jobs ≤ C * b
sum_upto C jobs y h zero = omega (arith, total_zero jobs)
sum_upto C jobs y h (suc b) =
    omega (arith, h (suc b) (omega arith), sum_upto C jobs y h b, total_add (λ j. upto (y j.number) b) (λ j. y j.number (suc b)) jobs)

pub necessary : (C : ℕ) (jobs : List Job) (y : ℕ → ℕ → ℕ) → Valid C jobs y → (b : ℕ) → forced jobs b ≤ C * b
unfolding forced
necessary C jobs y v b =
    le_trans
    (total_le (forced_of b) (λ j. upto (y j.number) b) jobs (All-map (λ j s. forced_upto b j (y j.number) s) jobs v.serves))
    (sum_upto C jobs y v.fits b)
