-- The jobs on a desk as they stand at its clock, and what a seat freed and a slot run make of them.
use Prim.Native.Nat.{ℕ, ◌+◌, ◌-◌, ◌≤◌}
use native.Mathlib.Omega.{arith}
use mathlib.Core.Path.{◌≡◌, refl, sym, ap, ap₂}
use mathlib.Core.Logic.{◌≢◌}
use mathlib.Core.Bool.{Bool, true, false, cond}
use mathlib.Core.List.{List, [], ◌∷◌, map}
use lib.Dec.{leb, eqb}
use borrow.Author.Tests.{eq-eqb, ne_eqb, eqb-true}
use Rattle.model.specs.Lists.{All, Distinct}
use Rattle.model.specs.Jobs.{Job}
use Rattle.model.specs.Schedules.{less_first, after_first}
use Rattle.model.proofs.Lists.{All-both, All-map, All-under, All-over}
use Rattle.promise.specs.declared.Held.{Held}
use Rattle.promise.specs.declared.Desk.{Desk}
use Rattle.promise.specs.Desk.{held_of, desk_of, as_planned, SoundSeat, Sound}
use Rattle.promise.specs.DeskCalls.{seat_of, without, lowered, after_run}
use Rattle.promise.proofs.DeskSeats.{numbered, held_again, rising_distinct}
use Rattle.promise.proofs.AnyOrder.{others, all_others}

-- the jobs of a desk, each with its work left and the slots to its deadline
unfoldable pub standing : Desk → List Job
standing desk = map (as_planned desk.clock) (held_of desk)

pub standing_all : (desk : Desk) (P : Job → Type 0) → All (λ h. P (as_planned desk.clock h)) (held_of desk) → All P (standing desk)
unfolding standing
standing_all desk P h = All-under (as_planned desk.clock) P (held_of desk) h

module _ (desk : Desk) (s : Sound desk) where
  pub sound_distinct : Distinct (numbered (held_of desk))
  sound_distinct = rising_distinct (numbered (held_of desk)) s.rising

  -- a seat in use has a number
  pub sound_numbered : All (λ h. 1 ≤ h.number) (held_of desk)
  sound_numbered = All-map (λ h (t : SoundSeat desk.clock h). t.number.0) (held_of desk) s.seats

-- the held job of a number, where no number stands twice
pub seat_found : (hs : List Held) → Distinct (numbered hs) → All (λ h. seat_of h.number hs ≡ h) hs
seat_found [] d = tt
seat_found (h ∷ hs) d =
    let apart = All-over (λ (g : Held). g.number) (λ m. h.number ≢ m) hs d.0 in
    (rw (eq-eqb h.number h.number refl), All-both tail hs apart (seat_found hs d.1))
  where
    tail : (g : Held) → h.number ≢ g.number → seat_of g.number hs ≡ g → seat_of g.number (h ∷ hs) ≡ g
    tail g m e = rw (ne_eqb h.number g.number m) e

-- a desk made of some held jobs holds just those
pub standing_of : (machines clock : ℕ) (hs : List Held) → All (λ h. 1 ≤ h.number) hs → standing (desk_of machines clock hs) ≡ map (as_planned clock) hs
unfolding standing desk_of
standing_of machines clock hs n = ap (map (as_planned clock)) (held_again machines clock hs n)

-- a seat freed
pub without_others : (clock n : ℕ) (hs : List Held) → Distinct (numbered hs)
    → map (as_planned clock) (without n hs) ≡ others n (map (as_planned clock) hs)
unfolding as_planned
without_others clock n [] d = refl
without_others clock n (h ∷ hs) d = go (eqb h.number n) refl (without_others clock n hs d.1)
  where
    jobs : List Job
    jobs = map (as_planned clock) hs

    -- no number stands twice, so the rest has others
    rest : h.number ≡ n → All (λ j. j.number ≢ n) jobs
    rest e =
        All-under (as_planned clock) (λ j. j.number ≢ n) hs
        (All-map (λ g (m : h.number ≢ g.number). omega arith) hs (All-over (λ (g : Held). g.number) (λ m. h.number ≢ m) hs d.0))

    go : (t : Bool) → eqb h.number n ≡ t → map (as_planned clock) (without n hs) ≡ others n jobs
        → map (as_planned clock) (cond t hs (h ∷ without n hs)) ≡ cond t (others n jobs) (as_planned clock h ∷ others n jobs)
    go true e i = sym (all_others n jobs (rest (eqb-true h.number n e)))
    go false e i = ap (λ (js : List Job). as_planned clock h ∷ js) i

-- a slot run
pub run_first : (clock : ℕ) (c : ℕ → ℕ) (hs : List Held) → map (as_planned (clock + 1)) (after_run c hs) ≡ after_first c (map (as_planned clock) hs)
unfolding as_planned lowered less_first
run_first clock c [] = refl
run_first clock c (h ∷ hs) = go (leb h.left (c h.number)) (run_first clock c hs)
  where
    nearer : as_planned (clock + 1) (lowered (c h.number) h) ≡ less_first (as_planned clock h) (c h.number)
    nearer =
        ap (λ (d : ℕ). record { number = h.number; work = h.left - c h.number; deadline = d; bound = h.bound }) (omega arith)

    go : (t : Bool) → map (as_planned (clock + 1)) (after_run c hs) ≡ after_first c (map (as_planned clock) hs)
        → map (as_planned (clock + 1)) (cond t (after_run c hs) (lowered (c h.number) h ∷ after_run c hs))
        ≡ cond t (after_first c (map (as_planned clock) hs)) (less_first (as_planned clock h) (c h.number) ∷ after_first c (map (as_planned clock) hs))
    go true i = i
    go false i = ap₂ ◌∷◌ nearer i
