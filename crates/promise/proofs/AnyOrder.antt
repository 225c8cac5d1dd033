-- Jobs in any order: what two lists with the same members have in common, and a list without one number.
use Prim.Native.Nat.{ℕ}
use mathlib.Core.Path.{◌≡◌, refl, ap}
use mathlib.Core.Logic.{◌≢◌}
use mathlib.Core.Bool.{Bool, true, false, cond}
use mathlib.Core.List.{List, [], ◌∷◌}
use lib.Dec.{leb, eqb}
use borrow.Author.Tests.{ne_eqb}
use Rattle.model.specs.Lists.{All, Perm, done, keep, swap, then}
use Rattle.model.specs.Jobs.{Job}
use Rattle.model.specs.Schedules.{Serves, Possible, less_first, after_first}
use Rattle.model.proofs.Lists.{total_perm, perm_all}
use Rattle.promise.proofs.DeskSeats.{perm_same}

-- a schedule of some jobs is one of the same jobs in another order
pub possible_perm : (C : ℕ) {js ks : List Job} → Perm js ks → Possible C js → Possible C ks
possible_perm C p s =
    let y = s.0 in (
      y,
      record {
        serves = perm_all (λ j. Serves (y j.number) j) p s.1.serves;
        fits = λ t l. rw (← total_perm (λ (j : Job). y j.number t) p) (s.1.fits t l);
      },
    )

-- the jobs of other numbers
abbrev pub others : ℕ → List Job → List Job
others n [] = []
others n (j ∷ js) = cond (eqb j.number n) (others n js) (j ∷ others n js)

pub others_perm : (n : ℕ) {js ks : List Job} → Perm js ks → Perm (others n js) (others n ks)
others_perm n done = done
others_perm n (keep j {xs} {ys} p) = go (eqb j.number n) (others_perm n p)
  where
    go : (t : Bool) → Perm (others n xs) (others n ys) → Perm (cond t (others n xs) (j ∷ others n xs)) (cond t (others n ys) (j ∷ others n ys))
    go true i = i
    go false i = keep j i
others_perm n (swap i j js) = go (eqb i.number n) (eqb j.number n)
  where
    go : (s t : Bool)
        → Perm (cond s (cond t (others n js) (j ∷ others n js)) (i ∷ cond t (others n js) (j ∷ others n js)))
        (cond t (cond s (others n js) (i ∷ others n js)) (j ∷ cond s (others n js) (i ∷ others n js)))
    go true true = perm_same (others n js)
    go true false = perm_same (j ∷ others n js)
    go false true = perm_same (i ∷ others n js)
    go false false = swap i j (others n js)
others_perm n (then p q) = then (others_perm n p) (others_perm n q)

pub all_others : (n : ℕ) (js : List Job) → All (λ j. j.number ≢ n) js → others n js ≡ js
all_others n [] h = refl
all_others n (j ∷ js) h = rw (ne_eqb j.number n h.0) (ap (λ (ks : List Job). j ∷ ks) (all_others n js h.1))

-- slot 1 done leaves the same jobs in either order
pub first_perm : (c : ℕ → ℕ) {js ks : List Job} → Perm js ks → Perm (after_first c js) (after_first c ks)
first_perm c done = done
first_perm c (keep j {xs} {ys} p) = go (leb j.work (c j.number)) (first_perm c p)
  where
    go : (t : Bool) → Perm (after_first c xs) (after_first c ys)
        → Perm (cond t (after_first c xs) (less_first j (c j.number) ∷ after_first c xs))
        (cond t (after_first c ys) (less_first j (c j.number) ∷ after_first c ys))
    go true i = i
    go false i = keep (less_first j (c j.number)) i
first_perm c (swap i j js) = go (leb i.work (c i.number)) (leb j.work (c j.number))
  where
    i' : Job
    i' = less_first i (c i.number)

    j' : Job
    j' = less_first j (c j.number)

    rest : List Job
    rest = after_first c js

    go : (s t : Bool)
        → Perm (cond s (cond t rest (j' ∷ rest)) (i' ∷ cond t rest (j' ∷ rest))) (cond t (cond s rest (i' ∷ rest)) (j' ∷ cond s rest (i' ∷ rest)))
    go true true = perm_same rest
    go true false = perm_same (j' ∷ rest)
    go false true = perm_same (i' ∷ rest)
    go false false = swap i' j' rest
first_perm c (then p q) = then (first_perm c p) (first_perm c q)

-- and so does another column that gives each job the same
pub first_same : (c c' : ℕ → ℕ) (js : List Job) → All (λ j. c j.number ≡ c' j.number) js → after_first c js ≡ after_first c' js
first_same c c' [] h = refl
first_same c c' (j ∷ js) h = rw (h.0, first_same c c' js h.1)
