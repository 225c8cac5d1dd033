-- The first-column law: with slot 1 of any valid schedule done, the rest of that schedule is valid for what is left.
use Prim.Native.Nat.{ℕ, zero, suc, ◌+◌, ◌-◌, ◌≤◌, ◌<◌}
use native.Mathlib.Omega.{arith}
use mathlib.Core.Path.{◌≡◌, refl}
use mathlib.Core.Bool.{Bool, true, false, cond}
use mathlib.Core.List.{List, [], ◌∷◌}
use lib.Dec.{leb}
use borrow.Author.Tests.{leb-false}
use Rattle.model.specs.Lists.{All, total, upto}
use Rattle.model.specs.Jobs.{Job}
use Rattle.model.specs.Schedules.{Serves, less_first, after_first}
use Rattle.model.specs.Claims.{FirstColumnLeavesRoom}

-- the first slot of a sum taken out
upto_first : (y : ℕ → ℕ) (d : ℕ) → upto y (suc d) ≡ y 1 + upto (λ t. y (suc t)) d
upto_first y zero = omega arith
upto_first y (suc d) = omega (arith, upto_first y d)

-- a job with work left over after slot 1 has a second slot
two_slots : (y : ℕ → ℕ) (d : ℕ) → y 1 < upto y d → (e : ℕ) × (d ≡ suc (suc e))
two_slots y zero h = absurd (omega arith)
two_slots y (suc zero) h = absurd (omega arith)
two_slots y (suc (suc e)) h = (e, refl)

module _ (y : ℕ → ℕ) (j : Job) (s : Serves y j) (h : y 1 < j.work) where
  second : (e : ℕ) × (j.deadline ≡ suc (suc e))
  second = two_slots y j.deadline (omega (arith, s.whole))

  served_on : Serves (λ t. y (suc t)) (less_first j (y 1))
  unfolding less_first
  served_on = record {
    within = λ t l. s.within (suc t) (omega arith);
    late = λ t l. s.late (suc t) (omega arith);
    whole = go second.0 second.1 s.whole;
  }
    where
      go : (e : ℕ) → j.deadline ≡ suc (suc e) → upto y j.deadline ≡ j.work → upto (λ t. y (suc t)) (j.deadline - 1) ≡ j.work - y 1
      go e d w =
          let c : j.deadline - 1 ≡ suc e = omega arith in
          rw c (omega (arith, upto_first y (suc e), rw d at w))

  still_due : 1 ≤ (less_first j (y 1)).deadline
  unfolding less_first
  still_due = omega (arith, second.1)

module _ (y : ℕ → ℕ → ℕ) where
  abbrev left_over : List Job → List Job
  left_over jobs = after_first (λ n. y n 1) jobs

  serves_on : (jobs : List Job) → All (λ j. Serves (y j.number) j) jobs
      → All (λ j. Serves (λ t. y j.number (suc t)) j) (left_over jobs) × All (λ j. 1 ≤ j.deadline) (left_over jobs)
  unfolding less_first
  serves_on [] v = (tt, tt)
  serves_on (j ∷ jobs) v = go (leb j.work (y j.number 1)) refl (serves_on jobs v.1)
    where
      go : (x : Bool) → leb j.work (y j.number 1) ≡ x
          → All (λ j. Serves (λ t. y j.number (suc t)) j) (left_over jobs) × All (λ j. 1 ≤ j.deadline) (left_over jobs)
          → All (λ j. Serves (λ t. y j.number (suc t)) j) (cond x (left_over jobs) (less_first j (y j.number 1) ∷ left_over jobs))
          × All (λ j. 1 ≤ j.deadline) (cond x (left_over jobs) (less_first j (y j.number 1) ∷ left_over jobs))
      go true e i = i
      go false e i =
          let h = leb-false j.work (y j.number 1) e in
          ((served_on (y j.number) j v.0 h, i.0), (still_due (y j.number) j v.0 h, i.1))

  fewer : (t : ℕ) (jobs : List Job) → total (λ j. y j.number t) (left_over jobs) ≤ total (λ j. y j.number t) jobs
  unfolding less_first
  fewer t [] = omega arith
  fewer t (j ∷ jobs) = go (leb j.work (y j.number 1)) (fewer t jobs)
    where
      go : (x : Bool) → total (λ j. y j.number t) (left_over jobs) ≤ total (λ j. y j.number t) jobs
          → total (λ j. y j.number t) (cond x (left_over jobs) (less_first j (y j.number 1) ∷ left_over jobs)) ≤ y j.number t + total (λ j. y j.number t) jobs
      go true i = omega arith
      go false i = omega arith

pub first_column_leaves_room : FirstColumnLeavesRoom
first_column_leaves_room count jobs y v =
    let on = serves_on y jobs v.serves in
    (record { serves = on.0; fits = λ t l. omega (arith, fewer y (suc t) jobs, v.fits (suc t) (omega arith)) }, on.1)
