-- A desk call's promise leaves one outcome, with all 32 seats and all 32 pairs.
use Prim.Native.Nat.{◌-◌, ◌≤◌}
use native.Mathlib.Omega.{arith}
use mathlib.Core.Path.{◌≡◌, refl, sym, ◌∙◌, ap}
use mathlib.Core.Logic.{◌≢◌}
use mathlib.Core.Bool.{Bool, true, false, cond}
use mathlib.Core.List.{List, []}
use lib.Dec.{eqb}
use lib.ListN.{length, replicate, length-map, length-append, length-replicate}
use borrow.Author.Tests.{ne_eqb}
use Rattle.promise.specs.declared.Answer.{Answer}
use Rattle.promise.specs.declared.Desk.{Desk}
use Rattle.promise.specs.declared.Given.{Given}
use Rattle.promise.specs.Answers.{first}
use Rattle.promise.specs.Desk.{held_of, column, Sound}
use Rattle.promise.specs.DeskCalls.{is_sound, sound_fault, admit_answer, admit_of, find_answer, withdraw_of, look_of, run_answer, run_of, pairs, given_of}
use Rattle.promise.specs.DeskClaims.{Has32Seats, WholeOutcome, DeskCallsLeaveOne}
use Rattle.promise.proofs.DeskSound.{sound_is_tested}
use Rattle.promise.proofs.DeskSeats.{sound_seated}
use Rattle.promise.proofs.DeskKept.{soundness_is_kept, refusal_hands_the_desk_back}

one : {A : Type 0} {x : A} (r r' : A) → r ≡ x → r' ≡ x → r ≡ r'
one r r' e e' = e ∙ sym e'

pairs_whole : (given : List Given) → length given ≤ 32 → length (pairs given) ≡ 32
unfolding pairs
pairs_whole given l =
    omega (
      arith,
      length-append given (replicate (32 - length given) (record { number = 0; machines = 0 })),
      length-replicate {A = Given} (32 - length given) (record { number = 0; machines = 0 }),
    )

module _ (desk : Desk) (seated : Has32Seats desk) where
  whole_sound : Sound desk → WholeOutcome desk
  unfolding run_of given_of look_of
  whole_sound s =
      let k = soundness_is_kept.1 desk s in
      record {
        admit = λ j. sound_seated _ (k.admit j);
        withdraw = λ n. sound_seated _ (k.withdraw n);
        look = λ n. seated;
        run = sound_seated _ k.run;
        pairs = go (eqb (run_answer desk).number 0);
      }
    where
      go : (t : Bool) → length (cond t (pairs (given_of (column desk) (held_of desk))) (pairs [])) ≡ 32
      go true = pairs_whole (given_of (column desk) (held_of desk)) (omega (arith, s.few, length-map {B = Given} (held_of desk) (λ h. record { number = h.number; machines = column desk h.number })))
      go false = pairs_whole [] (omega arith)

  -- a record that is not sound is refused by every call
  module _ (e : is_sound desk ≡ false) where
    twelve : (rest : Answer) → (first (sound_fault desk) rest).number ≢ 0
    unfolding sound_fault
    twelve rest = rw e (λ z. omega arith)

    whole_unsound : WholeOutcome desk
    unfolding admit_of admit_answer withdraw_of find_answer look_of run_of run_answer
    whole_unsound =
        let back = refusal_hands_the_desk_back desk in
        record {
          admit = λ j. ap (λ (d : Desk). length d.seats) (back.admit j (twelve _)) ∙ seated;
          withdraw = λ n. ap (λ (d : Desk). length d.seats) (back.withdraw n (twelve _)) ∙ seated;
          look = λ n. seated;
          run = ap (λ (d : Desk). length d.seats) (back.run (twelve _)) ∙ seated;
          pairs = rw (ne_eqb (run_answer desk).number 0 (twelve _)) (pairs_whole [] (omega arith));
        }

  whole : WholeOutcome desk
  whole = go (is_sound desk) refl
    where
      go : (t : Bool) → is_sound desk ≡ t → WholeOutcome desk
      go true e = whole_sound ((sound_is_tested desk seated).0 e)
      go false e = whole_unsound e

pub desk_calls_leave_one : DeskCallsLeaveOne
desk_calls_leave_one =
    ((λ machines. one), λ desk seated. (record { admit = λ j. one; withdraw = λ n. one; look = λ n. one; run = one }, whole desk seated))
