-- The desk at the host window: its answers pack without loss.
use Prim.Native.Nat.{ℕ, ◌*◌, ◌≤◌}
use native.Mathlib.Omega.{arith}
use mathlib.Core.Path.{◌≡◌, refl}
use mathlib.Core.Logic.{◌≢◌}
use mathlib.Core.Bool.{not}
use mathlib.Core.List.{List, [], ◌∷◌}
use mathlib.Core.Option.{Option, some, none}
use lib.Dec.{leb, ltb, eqb}
use lib.ListN.{length}
use borrow.Author.Tests.{eq-eqb, ne_eqb}
use Rattle.model.specs.Lists.{All}
use Rattle.model.specs.Jobs.{Job}
use Rattle.model.specs.Boundaries.{Short, least_short}
use Rattle.promise.specs.declared.Desk.{Desk}
use Rattle.promise.specs.Desk.{held_of, Sound}
use Rattle.promise.specs.Rows.{Field, the_number, the_work, the_deadline, the_bound, fields_fault}
use Rattle.promise.specs.DeskCalls.{jobs_with, is_sound, sound_fault, is_held, admit_dues, desk_fit, open_of, admit_answer, admit_of, find_answer, withdraw_of, look_of, run_answer, run_of, DeskTest, asked, DeskHolds, desk_answer_of}
use Rattle.promise.specs.DeskClaims.{Has32Seats}
use Rattle.promise.specs.Window.{pack, Packs}
use Rattle.promise.specs.DeskWindow.{desk_read, record_fault, output_fault, open_bytes_answer, admit_bytes_answer, withdraw_bytes_answer, withdraw_packed, look_bytes_answer, run_bytes_answer}
use Rattle.promise.specs.DeskWindowClaims.{DeskWindowPacks}
use Rattle.promise.proofs.Ladder.{first_zero, first_zero_front, zero_none}
use Rattle.promise.proofs.DeskTable.{gives_fields, desk_refuses}
use Rattle.promise.proofs.Packing.{yes_small, small_packs, first_keeps, whole_small, count_small, fields_small}
use Rattle.promise.proofs.DeskBounds.{seven_bounds, held_left}
use Rattle.promise.proofs.DeskRecord.{from_seated}
use Rattle.promise.proofs.DeskWindowing.{clear_sound}

-- what Admit says packs: its place is at most 168 past the clock
module _ (desk : Desk) (seated : Has32Seats desk) where
  twelve_packs : Packs (sound_fault desk)
  unfolding sound_fault
  twelve_packs = small_packs (whole_small (not (is_sound desk)) 12 (omega arith))

  fit_packs : Sound desk → (j : Job) → ((f : Field) → ¬ DeskHolds desk j (asked f)) → (o : Option Short) → least_short desk.machines (jobs_with desk j) ≡ o → Packs (desk_fit desk.clock o)
  fit_packs s j f none e = small_packs yes_small
  fit_packs s j f (some o) e = let b = seven_bounds desk s j f o e in record { number = omega arith; place = omega (arith, s.clock); amount = omega arith }

  fields_clear : (j : Job) → (fields_fault (admit_dues desk.clock) 0 j).number ≡ 0 → (f : Field) → ¬ DeskHolds desk j (asked f)
  fields_clear j z = each
    where
      fields : List DeskTest
      fields = asked the_number ∷ asked the_work ∷ asked the_deadline ∷ asked the_bound ∷ []

      passes : All (λ x. ¬ DeskHolds desk j x) fields
      passes = zero_none (DeskHolds desk j) (desk_answer_of desk j) (desk_refuses desk j) fields (fields_fault (admit_dues desk.clock) 0 j) z (gives_fields desk j)

      each : (f : Field) → ¬ DeskHolds desk j (asked f)
      each the_number = passes.0
      each the_work = passes.1.0
      each the_deadline = passes.1.1.0
      each the_bound = passes.1.1.1.0

  admit_packs : (j : Job) → Packs (admit_answer desk j)
  unfolding admit_answer
  admit_packs j =
      first_keeps Packs _ _ twelve_packs
      (λ z. first_keeps Packs _ _ (small_packs (fields_small (admit_dues desk.clock) 0 j (omega arith)))
      (λ y. first_keeps Packs _ _ (small_packs (whole_small (is_held j.number (held_of desk)) 5 (omega arith)))
      (λ _. first_keeps Packs _ _ (small_packs (whole_small (leb 32 (length (held_of desk))) 8 (omega arith)))
      (λ _. fit_packs (clear_sound desk seated z) j (fields_clear j y) (least_short desk.machines (jobs_with desk j)) refl))))

  find_packs : (n : ℕ) → Packs (find_answer desk n)
  unfolding find_answer
  find_packs n = first_keeps Packs _ _ twelve_packs (λ _. small_packs (whole_small (not (is_held n (held_of desk))) 10 (omega arith)))

  run_packs : Packs (run_answer desk)
  unfolding run_answer
  run_packs = first_keeps Packs _ _ twelve_packs (λ _. small_packs (whole_small (eqb desk.clock 100000) 11 (omega arith)))

  left_small : (n : ℕ) → (find_answer desk n).number ≡ 0 → (withdraw_of desk n).left ≤ 60000
  unfolding withdraw_of find_answer
  left_small n z = rw (eq-eqb (find_answer desk n).number 0 z) (held_left desk (clear_sound desk seated (first_zero_front (sound_fault desk) _ z)) n)

module _ (bytes : List ℕ) where
  record_packs : Packs (record_fault bytes)
  unfolding record_fault
  record_packs = small_packs (whole_small (not (eqb (length bytes) 776)) 12 (omega arith))

  output_packs : (lent size : ℕ) → Packs (output_fault bytes lent size)
  unfolding output_fault
  output_packs lent size =
      first_keeps Packs _ _ (first_keeps Packs _ _ record_packs (λ _. twelve_packs (desk_read bytes) (from_seated bytes)))
      (λ _. small_packs (whole_small (ltb lent size) 6 (omega arith)))

  -- a yes of Withdraw: the remaining work in the upper half
  module _ (n : ℕ) (z : (withdraw_bytes_answer bytes n).number ≡ 0) where
    withdrawn_small : (withdraw_of (desk_read bytes) n).left ≤ 60000
    unfolding withdraw_bytes_answer withdraw_of
    withdrawn_small = left_small (desk_read bytes) (from_seated bytes) n (first_zero (record_fault bytes) _ z)

    withdrawn_word : withdraw_packed bytes n ≡ 4294967296 * (withdraw_of (desk_read bytes) n).left
    unfolding withdraw_packed
    withdrawn_word = rw (eq-eqb (withdraw_bytes_answer bytes n).number 0 z)

  refused_word : (n : ℕ) → (withdraw_bytes_answer bytes n).number ≢ 0 → withdraw_packed bytes n ≡ pack (withdraw_bytes_answer bytes n)
  unfolding withdraw_packed
  refused_word n h = rw (ne_eqb (withdraw_bytes_answer bytes n).number 0 h)

pub desk_window_packs : DeskWindowPacks
unfolding open_bytes_answer open_of admit_bytes_answer admit_of withdraw_bytes_answer withdraw_of look_bytes_answer look_of run_bytes_answer run_of
desk_window_packs machines bytes j n lent =
    let desk = desk_read bytes in
    let seated = from_seated bytes in
    record {
      open' = first_keeps Packs _ _ (small_packs (count_small machines)) (λ _. small_packs (whole_small (not (eqb (length bytes) 776)) 6 (omega arith)));
      admit = first_keeps Packs _ _ (record_packs bytes) (λ _. admit_packs desk seated j);
      withdraw = first_keeps Packs _ _ (record_packs bytes) (λ _. find_packs desk seated n);
      look = first_keeps Packs _ _ (output_packs bytes (length lent) 16) (λ _. find_packs desk seated n);
      run = first_keeps Packs _ _ (output_packs bytes (length lent) 256) (λ _. run_packs desk seated);
      withdrawn = λ z. let s = withdrawn_small bytes n z in rw (withdrawn_word bytes n z) (omega arith, omega arith, omega arith);
      refused = refused_word bytes n;
    }
