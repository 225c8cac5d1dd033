-- Open, and what Admit, Withdraw and Look do to the seats, written out.
use Prim.Native.Nat.{◌<◌}
use native.Mathlib.Omega.{arith}
use mathlib.Core.Path.{◌≡◌, refl, ◌∙◌, ap}
use mathlib.Core.Logic.{◌≢◌, ◌⊎◌, inl, inr}
use mathlib.Core.Bool.{Bool, true, false, cond}
use mathlib.Core.List.{List, [], ◌∷◌, ◌++◌, Memᴰ}
use lib.Dec.{ltb}
use borrow.Author.Tests.{eq-eqb, ne_eqb, lt-ltb, le-ltb}
use Rattle.model.specs.Lists.{All, Distinct}
use Rattle.model.proofs.Lists.{All-at}
use Rattle.promise.specs.declared.Held.{Held}
use Rattle.promise.specs.declared.Desk.{Desk}
use Rattle.promise.specs.Answers.{yes, refusal}
use Rattle.promise.specs.Rows.{count_fault}
use Rattle.promise.specs.Desk.{held_of, desk_of, leeway, Sound}
use Rattle.promise.specs.DeskCalls.{seat_of, without, seated, new_held, with_new, open_of, admit_answer, admit_of, withdraw_of, look_of}
use Rattle.promise.specs.DeskClaims.{OpenAnswersByTheTable, SeatBySeat, SeatsAreToldAndKept}
use Rattle.promise.proofs.DeskSeats.{numbered}
use Rattle.promise.proofs.Standing.{sound_distinct, seat_found}
use Rattle.promise.proofs.CallAnswers.{held_found}

pub open_answers_by_the_table : OpenAnswersByTheTable
unfolding open_of count_fault
open_answers_by_the_table machines = ((λ r. rw (le-ltb machines 1 r.0, le-ltb 64 machines r.1) refl), refused)
  where
    refused : (machines < 1) ⊎ (64 < machines) → open_of machines ≡ record { answer = refusal 1 0 0; desk = desk_of 1 0 [] }
    refused (inl l) = rw (lt-ltb machines 1 l) refl
    refused (inr l) = rw (le-ltb machines 1 (omega arith), lt-ltb 64 machines l) refl

-- a new job stands between those with smaller and those with greater numbers
between : (h : Held) (gs : List Held) → (front back : List Held) × (gs ≡ front ++ back) × (seated h gs ≡ front ++ h ∷ back)
between h [] = ([], [], refl, refl)
between h (g ∷ gs) = go (ltb h.number g.number) (between h gs)
  where
    go : (t : Bool) → (front back : List Held) × (gs ≡ front ++ back) × (seated h gs ≡ front ++ h ∷ back)
        → (front back : List Held) × (g ∷ gs ≡ front ++ back) × (cond t (h ∷ g ∷ gs) (g ∷ seated h gs) ≡ front ++ h ∷ back)
    go true r = ([], g ∷ gs, refl, refl)
    go false r = (g ∷ r.0, r.1, ap (λ (l : List Held). g ∷ l) r.2, ap (λ (l : List Held). g ∷ l) r.3)

in_the_middle : (front back : List Held) (h : Held) → Memᴰ h (front ++ h ∷ back)
in_the_middle [] back h = mathlib.Core.List.Memᴰ.head refl
in_the_middle (g ∷ front) back h = mathlib.Core.List.Memᴰ.tail (in_the_middle front back h)

-- the others, where numbers differ
closes : (front back : List Held) (h : Held) → Distinct (numbered (front ++ h ∷ back)) → without h.number (front ++ h ∷ back) ≡ front ++ back
closes [] back h d = rw (eq-eqb h.number h.number refl) refl
closes (g ∷ front) back h d =
    rw (ne_eqb g.number h.number (middle front d.0)) (ap (λ (l : List Held). g ∷ l) (closes front back h d.1))
  where
    middle : (front : List Held) → All (λ n. g.number ≢ n) (numbered (front ++ h ∷ back)) → g.number ≢ h.number
    middle [] a = a.0
    middle (f ∷ front) a = middle front a.1

module _ (desk : Desk) (s : Sound desk) where
  its_seat : (h : Held) → Memᴰ h (held_of desk) → seat_of h.number (held_of desk) ≡ h
  its_seat h m = All-at (λ g. seat_of g.number (held_of desk) ≡ g) h (seat_found (held_of desk) (sound_distinct desk s)) m

  seat_by_seat : SeatBySeat desk
  unfolding admit_of with_new new_held withdraw_of look_of leeway
  seat_by_seat = record {
    admit = λ j z.
        let r = between (new_held desk.clock j) (held_of desk) in
        (r.0, r.1, r.2, rw (eq-eqb (admit_answer desk j).number 0 z) (ap (desk_of desk.machines desk.clock) r.3));
    withdraw = λ front back h e.
        let m : Memᴰ h (held_of desk) = rw e (in_the_middle front back h) in
        let d : Distinct (numbered (front ++ h ∷ back)) = rw e at (sound_distinct desk s) in
        rw (held_found desk s h.number (h, m, refl), its_seat h m) (ap (λ (l : List Held). record { answer = yes; left = h.left; desk = desk_of desk.machines desk.clock l }) (ap (without h.number) e ∙ closes front back h d));
    look = λ h m. rw (held_found desk s h.number (h, m, refl), its_seat h m) refl;
  }

pub seats_are_told_and_kept : SeatsAreToldAndKept
seats_are_told_and_kept = seat_by_seat
