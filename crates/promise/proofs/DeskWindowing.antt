-- The desk at the host window: the order of its answers, and one outcome of each call.
use Prim.Native.Nat.{ℕ, ◌≤◌, ◌<◌}
use native.Mathlib.Decide.{ℕ_discrete}
use native.Mathlib.Omega.{arith}
use mathlib.Core.Path.{◌≡◌, refl, sym, ◌∙◌}
use mathlib.Core.Logic.{◌≢◌, ◌⊎◌, inl, inr, ⊎_elim}
use mathlib.Core.Bool.{Bool, true, false, not}
use mathlib.Core.List.{List, [], ◌∷◌}
use lib.Dec.{eqb}
use lib.ListN.{length}
use borrow.Author.Tests.{lt-ltb, le-ltb, eq-eqb, ne_eqb, eqb-true}
use Rattle.model.specs.Jobs.{Job}
use Rattle.promise.specs.declared.Desk.{Desk}
use Rattle.promise.specs.Answers as Answers
use Rattle.promise.specs.Answers.{refusal, fault}
use Rattle.promise.specs.Desk.{Sound}
use Rattle.promise.specs.DeskCalls.{sound_fault, open_of, admit_answer, admit_of, find_answer, withdraw_of, look_of, run_answer, run_of, DeskTest, not_sound, not_held, at_the_end, HeldAs, DeskHolds, desk_answer_of, find_order, run_order}
use Rattle.promise.specs.Order.{FirstOf, GivenBy}
use Rattle.promise.specs.DeskClaims.{Has32Seats}
use Rattle.promise.specs.DeskWindow.{desk_read, record_fault, output_fault, open_bytes_answer, admit_bytes_answer, withdraw_bytes_answer, look_bytes_answer, run_bytes_answer}
use Rattle.promise.specs.DeskWindowClaims.{OpenedInOrder, TwelveFirst, AnsweredInOrder, DeskWindowAnswersByTheTable, DeskWindowPromisesLeaveOne}
use Rattle.promise.proofs.Ladder.{same_number, first_zero}
use Rattle.promise.proofs.DeskSound.{tells_sound}
use Rattle.promise.proofs.DeskTable.{gives_sound, desk_answers_by_the_table, really}
use Rattle.promise.proofs.Seatwise.{open_answers_by_the_table}
use Rattle.promise.proofs.DeskRecord.{from_seated}

-- where the job plays no part
pub no_job : Job
no_job = record { number = 0; work = 0; deadline = 0; bound = 0 }

-- 12 exactly if a desk is not sound
module _ (desk : Desk) (seated : Has32Seats desk) where
  sound_or_not : ((¬ Sound desk) × (sound_fault desk ≡ refusal 12 0 0)) ⊎ ((¬ ¬ Sound desk) × (sound_fault desk ≡ Answers.yes))
  sound_or_not = gives_sound desk no_job seated

  unsound_twelve : ¬ Sound desk → sound_fault desk ≡ refusal 12 0 0
  unsound_twelve h = ⊎_elim (λ l. l.1) (λ l. absurd (l.0 h)) sound_or_not

  sound_clear : Sound desk → sound_fault desk ≡ Answers.yes
  sound_clear s = ⊎_elim (λ l. absurd (l.0 s)) (λ l. l.1) sound_or_not

  pub clear_sound : (sound_fault desk).number ≡ 0 → Sound desk
  clear_sound z =
      ⊎_elim (λ l. absurd (let w : 12 ≡ 0 = sym (same_number l.1) ∙ z in omega arith)) (λ l. really (tells_sound desk seated) l.0) sound_or_not

module _ (machines : ℕ) (bytes : List ℕ) where
  pub opened_in_order : OpenedInOrder machines bytes
  unfolding open_bytes_answer
  opened_in_order =
      let t = open_answers_by_the_table machines in
      record {
        one = λ h. rw (t.1 h) refl;
        six = λ l k h. rw (t.0 (l, k), ne_eqb (length bytes) 776 h) refl;
        opens = λ l k h. rw (t.0 (l, k), eq-eqb (length bytes) 776 h) refl;
      }

module _ (bytes : List ℕ) where
  not_a_record : length bytes ≢ 776 → record_fault bytes ≡ refusal 12 0 0
  unfolding record_fault
  not_a_record h = rw (ne_eqb (length bytes) 776 h) refl

  pub a_record : length bytes ≡ 776 → record_fault bytes ≡ Answers.yes
  unfolding record_fault
  a_record e = rw (eq-eqb (length bytes) 776 e) refl

  -- no refusal for the length, 12 or Open's 6: it is one record long
  one_record : (q : ℕ) → q ≢ 0 → (fault (not (eqb (length bytes) 776)) (refusal q 0 0)).number ≡ 0 → length bytes ≡ 776
  one_record q h = go (eqb (length bytes) 776) refl
    where
      go : (t : Bool) → eqb (length bytes) 776 ≡ t → (fault (not t) (refusal q 0 0)).number ≡ 0 → length bytes ≡ 776
      go true e z = eqb-true (length bytes) 776 e
      go false e z = absurd (h z)

  pub record_long : (record_fault bytes).number ≡ 0 → length bytes ≡ 776
  unfolding record_fault
  record_long = one_record 12 (omega arith)

  pub open_long : (machines : ℕ) → (open_bytes_answer machines bytes).number ≡ 0 → length bytes ≡ 776
  unfolding open_bytes_answer
  open_long machines z = one_record 6 (omega arith) (first_zero (open_of machines).answer _ z)

  module _ (j : Job) (n : ℕ) (lent : List ℕ) where
    wrong_length : length bytes ≢ 776 → TwelveFirst bytes j n lent
    unfolding admit_bytes_answer withdraw_bytes_answer look_bytes_answer run_bytes_answer output_fault
    wrong_length h = let e = not_a_record h in record { admit = rw e refl; withdraw = rw e refl; look = rw e refl; run = rw e refl }

    wrong_record : length bytes ≡ 776 → ¬ Sound (desk_read bytes) → TwelveFirst bytes j n lent
    unfolding admit_bytes_answer withdraw_bytes_answer look_bytes_answer run_bytes_answer output_fault admit_of admit_answer withdraw_of find_answer
    wrong_record e h =
        let r = a_record e in
        let u = unsound_twelve (desk_read bytes) (from_seated bytes) h in
        record { admit = rw (r, u) refl; withdraw = rw (r, u) refl; look = rw (r, u) refl; run = rw (r, u) refl }

    twelve_first : (length bytes ≢ 776) ⊎ (¬ Sound (desk_read bytes)) → TwelveFirst bytes j n lent
    twelve_first (inl h) = wrong_length h
    twelve_first (inr h) = go (ℕ_discrete (length bytes) 776)
      where
        go : Dec (length bytes ≡ 776) → TwelveFirst bytes j n lent
        go (yes e) = wrong_record e h
        go (no k) = wrong_length k

    module _ (e : length bytes ≡ 776) (s : Sound (desk_read bytes)) where
      short_six : (size : ℕ) → length lent < size → output_fault bytes (length lent) size ≡ refusal 6 0 0
      unfolding output_fault
      short_six size l = rw (a_record e, sound_clear (desk_read bytes) (from_seated bytes) s, lt-ltb (length lent) size l) refl

      long_clear : (size : ℕ) → size ≤ length lent → output_fault bytes (length lent) size ≡ Answers.yes
      unfolding output_fault
      long_clear size l = rw (a_record e, sound_clear (desk_read bytes) (from_seated bytes) s, le-ltb (length lent) size l) refl

      -- the rows of the calls
      by_table : GivenBy (DeskHolds (desk_read bytes) j) (desk_answer_of (desk_read bytes) j) (find_order n) (find_answer (desk_read bytes) n)
          × GivenBy (DeskHolds (desk_read bytes) j) (desk_answer_of (desk_read bytes) j) run_order (run_answer (desk_read bytes))
      by_table = let t = desk_answers_by_the_table (desk_read bytes) j n (from_seated bytes) in (t.1, t.2)

      -- the second row of two, the first of which is 12
      second : (x : DeskTest) → DeskHolds (desk_read bytes) j x → FirstOf (DeskHolds (desk_read bytes) j) (not_sound ∷ x ∷ []) x
      second x h = record { earlier = not_sound ∷ []; later = []; split = refl; holds = h; none_earlier = ((λ k. k s), tt) }

      ten : ¬ HeldAs (desk_read bytes) n → find_answer (desk_read bytes) n ≡ refusal 10 0 0
      ten h = by_table.0.told (not_held n) (second (not_held n) h)

      found : HeldAs (desk_read bytes) n → find_answer (desk_read bytes) n ≡ Answers.yes
      found h = by_table.0.otherwise.0 ((λ k. k s), ((λ k. k h), tt))

      eleven : (desk_read bytes).clock ≡ 100000 → run_answer (desk_read bytes) ≡ refusal 11 0 0
      eleven h = by_table.1.told at_the_end (second at_the_end h)

      runs : (desk_read bytes).clock ≢ 100000 → run_answer (desk_read bytes) ≡ Answers.yes
      runs h = by_table.1.otherwise.0 ((λ k. k s), (h, tt))

      answered_in_order : AnsweredInOrder bytes j n lent
      unfolding admit_bytes_answer withdraw_bytes_answer look_bytes_answer run_bytes_answer admit_of withdraw_of look_of run_of
      answered_in_order = record {
        admit = rw (a_record e) refl;
        withdraw_ten = λ h. rw (a_record e, ten h) refl;
        withdraw = λ h. rw (a_record e, found h) refl;
        look_six = λ l. rw (short_six 16 l) refl;
        look_ten = λ l h. rw (long_clear 16 l, ten h) refl;
        look = λ l h. rw (long_clear 16 l, found h) refl;
        run_six = λ l. rw (short_six 256 l) refl;
        run_eleven = λ l h. rw (long_clear 256 l, eleven h) refl;
        run = λ l h. rw (long_clear 256 l, runs h) refl;
      }

pub desk_window_answers_by_the_table : DeskWindowAnswersByTheTable
desk_window_answers_by_the_table machines bytes j n lent = (opened_in_order machines bytes, twelve_first bytes j n lent, answered_in_order bytes j n lent)

-- one word and one content of every lent buffer meet a promise
pub desk_window_promises_leave_one : DeskWindowPromisesLeaveOne
desk_window_promises_leave_one bytes lent word word' b b' a a' = record {
  open' = λ machines p q. (p.answered ∙ sym q.answered, p.left ∙ sym q.left);
  admit = λ j p q. (p.answered ∙ sym q.answered, p.left ∙ sym q.left);
  withdraw = λ n p q. (p.answered ∙ sym q.answered, p.left ∙ sym q.left);
  look = λ n p q. (p.answered ∙ sym q.answered, p.left ∙ sym q.left, p.told ∙ sym q.told);
  run = λ p q. (p.answered ∙ sym q.answered, p.left ∙ sym q.left, p.told ∙ sym q.told);
}
