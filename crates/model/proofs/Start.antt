-- A slot past all deadlines hands out nothing: the plan does not depend on the slot at which it starts.
use Prim.Native.Nat.{ℕ, zero, suc, ◌+◌, ◌-◌, ◌≤◌, ◌<◌}
use native.Mathlib.Nat.{add-zero, add-suc, le-max_left, le-max_right, max-le, le_trans}
use native.Mathlib.Decide.{ℕ_discrete}
use native.Mathlib.Omega.{arith}
use mathlib.Core.Path.{◌≡◌, refl, sym, ◌∙◌, ap}
use mathlib.Core.Bool.{Bool, true, false, cond}
use mathlib.Core.List.{List, [], ◌∷◌, map}
use mathlib.Core.Option.{none}
use lib.Dec.{eqb}
use borrow.Author.Tests.{lt-leb}
use Rattle.model.specs.Lists.{All}
use Rattle.model.specs.Jobs.{Job, greatest_deadline}
use Rattle.model.specs.Rule.{Share, fresh, qualifies, next, hand_out, clear, fill, nobody, share_of, cell, plan_from, plan_in, plan}
use Rattle.model.specs.Claims.{StartPlaysNoPart}
use Rattle.model.proofs.Lists.{All-map}
use Rattle.model.proofs.Shares.{at_slot, under_slot, beyond}

pub deadlines_le : (jobs : List Job) → All (λ j. j.deadline ≤ greatest_deadline jobs) jobs
deadlines_le [] = tt
deadlines_le (j ∷ jobs) = (
  le-max_left j.deadline (greatest_deadline jobs),
  All-map (λ i l. le_trans l (le-max_right j.deadline (greatest_deadline jobs))) jobs (deadlines_le jobs),
)

pub greatest_le : (last : ℕ) (jobs : List Job) → All (λ j. j.deadline ≤ last) jobs → greatest_deadline jobs ≤ last
greatest_le last [] h = omega arith
greatest_le last (j ∷ jobs) h = max-le h.0 (greatest_le last jobs h.1)

none_qualify : (t : ℕ) (ps : List Share) → All (λ p. p.job.deadline < t) ps → next t ps ≡ none
unfolding qualifies
none_qualify t [] h = refl
none_qualify t (p ∷ ps) h = rw (lt-leb t p.job.deadline h.0) (none_qualify t ps h.1)

hand_none : (c t : ℕ) (ps : List Share) → All (λ p. p.job.deadline < t) ps → hand_out c t ps ≡ ps
hand_none zero t ps h = refl
hand_none (suc c) t ps h = rw (none_qualify t ps h) (hand_none c t ps h)

all_past : (t : ℕ) (jobs : List Job) → All (λ j. j.deadline ≤ t) jobs → All (λ p. p.job.deadline < suc t) (map clear (map fresh jobs))
unfolding clear fresh
all_past t [] h = tt
all_past t (j ∷ jobs) h = (omega (arith, h.0), all_past t jobs h.1)

clear_fresh : (jobs : List Job) → map clear (map fresh jobs) ≡ map fresh jobs
unfolding clear fresh
clear_fresh [] = refl
clear_fresh (j ∷ jobs) = ap (λ (ps : List Share). clear (fresh j) ∷ ps) (clear_fresh jobs)

fill_none : (c t : ℕ) (jobs : List Job) → All (λ j. j.deadline ≤ t) jobs → fill c (suc t) (map fresh jobs) ≡ map fresh jobs
unfolding fill
fill_none c t jobs h = hand_none c (suc t) (map clear (map fresh jobs)) (all_past t jobs h) ∙ clear_fresh jobs

none_given : (n : ℕ) (jobs : List Job) → (share_of n (map fresh jobs)).given ≡ 0
unfolding fresh nobody
none_given n [] = refl
none_given n (j ∷ jobs) = go (eqb j.number n) (none_given n jobs)
  where
    go : (x : Bool) → (share_of n (map fresh jobs)).given ≡ 0 → (cond x (fresh j) (share_of n (map fresh jobs))).given ≡ 0
    go true e = refl
    go false e = e

module _ (count : ℕ → ℕ) (jobs : List Job) where
  one_later : (last : ℕ) → All (λ j. j.deadline ≤ last) jobs → (n s : ℕ) → plan_from (suc last) count jobs n s ≡ plan_from last count jobs n s
  unfolding plan_from
  one_later last h n s = go (ℕ_discrete s (suc last))
    where
      go : Dec (s ≡ suc last) → cell count (suc last) (map fresh jobs) n s ≡ cell count last (map fresh jobs) n s
      go (yes e) =
          rw e
          (at_slot count n last (map fresh jobs) ∙ ap (λ (ps : List Share). (share_of n ps).given) (fill_none (count (suc last)) last jobs h)
          ∙ none_given n jobs ∙ sym (beyond count n last (map fresh jobs) (suc last) (omega arith)))
      go (no d) =
          under_slot count n last (map fresh jobs) s d ∙ ap (λ (ps : List Share). cell count last ps n s) (fill_none (count (suc last)) last jobs h)

  later : (last m : ℕ) → All (λ j. j.deadline ≤ last) jobs → (n s : ℕ) → plan_from (last + m) count jobs n s ≡ plan_from last count jobs n s
  later last zero h n s = rw add-zero
  later last (suc m) h n s =
      rw add-suc
      (one_later (last + m) (All-map (λ j (l : j.deadline ≤ last). omega arith) jobs h) n s ∙ later last m h n s)

  pub start_anywhere : (last : ℕ) → All (λ j. j.deadline ≤ last) jobs → (n s : ℕ) → plan_from last count jobs n s ≡ plan_in count jobs n s
  unfolding plan_in
  start_anywhere last h n s =
      let e : greatest_deadline jobs + (last - greatest_deadline jobs) ≡ last = omega (arith, greatest_le last jobs h) in
      ap (λ (t : ℕ). plan_from t count jobs n s) (sym e) ∙ later (greatest_deadline jobs) (last - greatest_deadline jobs) (deadlines_le jobs) n s

pub start_plays_no_part : StartPlaysNoPart
unfolding plan
start_plays_no_part C last jobs h n t = start_anywhere (λ s. C) jobs last h n t
