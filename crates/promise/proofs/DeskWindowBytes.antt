-- The desk at the host window: what its buffers hold after a call, and the record handed on from call to call.
use Prim.Native.Nat.{ℕ, suc, ◌+◌, ◌*◌, ◌≤◌, ◌<◌}
use native.Mathlib.Omega.{arith}
use mathlib.Core.Path.{◌≡◌, refl, sym, ◌∙◌, ap, subst}
use mathlib.Core.Logic.{◌≢◌}
use mathlib.Core.Bool.{Bool, true, false, cond}
use mathlib.Core.List.{List, [], ◌∷◌, ◌++◌, map, flatten}
use lib.Dec.{ltb, eqb}
use lib.ListN.{length, get_or, drop}
use borrow.Author.Tests.{le-ltb, ltb-false, eq-eqb, ne_eqb, eqb-true, eqb-false}
use Rattle.model.specs.Jobs.{Job}
use Rattle.promise.specs.declared.Answer.{Answer}
use Rattle.promise.specs.declared.Desk.{Desk}
use Rattle.promise.specs.Answers as Answers
use Rattle.promise.specs.Answers.{refusal, fault, first}
use Rattle.promise.specs.DeskCalls.{sound_fault, open_of, find_answer, look_of, run_answer, run_of}
use Rattle.promise.specs.History as History
use Rattle.promise.specs.History.{Call, admit, withdraw, look, run, desk_after}
use Rattle.promise.specs.DeskClaims.{Has32Seats, WholeOutcome}
use Rattle.promise.specs.Window.{word_at, sent}
use Rattle.promise.specs.Claims.{four_from}
use Rattle.promise.specs.DeskWindow.{desk_bytes, desk_read, record_fault, output_fault, record_left, output_left, open_bytes_answer, record_opened, admit_bytes_answer, record_admitted, withdraw_bytes_answer, record_withdrawn, look_numbers, look_bytes_answer, figures_told, pair_numbers, run_bytes_answer, record_run, pairs_told, record_after}
use Rattle.promise.specs.DeskWindowClaims.{LeftAsLent, LengthsStay, DeskWindowRefusalLeavesTheBytes, DeskHandedOn, DeskWindowHandsTheDeskOn, GoesOn, HistoryGoesThroughTheWindow, FiguresInPlace, PairsInPlace, DeskWindowTellsInPlace}
use Rattle.promise.proofs.Ladder.{same_number, first_zero, first_zero_front, first_first}
use Rattle.promise.proofs.Words.{sent_length}
use Rattle.promise.proofs.Buffer.{beyond_front, front_keeps_length}
use Rattle.promise.proofs.DeskSeats.{sound_seated}
use Rattle.promise.proofs.DeskKept.{soundness_is_kept, refusal_hands_the_desk_back}
use Rattle.promise.proofs.DeskUnique.{desk_calls_leave_one}
use Rattle.promise.proofs.DeskRecord.{word_front, each_length, each_at, from_seated, record_length, records_are_read_back}
use Rattle.promise.proofs.DeskWindowing.{no_job, a_record, record_long, open_long, opened_in_order}

-- the numbers that Look and Run write
abbrev looks : List ℕ → ℕ → List ℕ
looks bytes n = look_numbers (look_of (desk_read bytes) n)

abbrev pairing : List ℕ → List ℕ
pairing bytes = flatten (map pair_numbers (run_of (desk_read bytes)).given)

record_stays : (a : Answer) (new : Desk) (bytes : List ℕ) → a.number ≢ 0 → record_left a new bytes ≡ bytes
record_stays a new bytes h = rw (ne_eqb a.number 0 h)

output_stays : (a : Answer) (numbers lent : List ℕ) → a.number ≢ 0 → output_left a numbers lent ≡ lent
output_stays a numbers lent h = rw (ne_eqb a.number 0 h)

left_as_lent : (machines : ℕ) (bytes : List ℕ) (j : Job) (n : ℕ) (lent : List ℕ) → LeftAsLent machines bytes j n lent
unfolding record_opened record_admitted record_withdrawn figures_told record_run pairs_told
left_as_lent machines bytes j n lent = record {
  open' = record_stays (open_bytes_answer machines bytes) _ bytes;
  admit = record_stays (admit_bytes_answer bytes j) _ bytes;
  withdraw = record_stays (withdraw_bytes_answer bytes n) _ bytes;
  look = output_stays (look_bytes_answer bytes n lent) (looks bytes n) lent;
  run = λ h. (record_stays (run_bytes_answer bytes lent) _ bytes h, output_stays (run_bytes_answer bytes lent) (pairing bytes) lent h);
}

-- a yes that writes a whole desk over a whole record, and no more numbers than an output buffer has room for
record_same : (a : Answer) (new : Desk) (bytes : List ℕ) → Has32Seats new → (a.number ≡ 0 → length bytes ≡ 776) → length (record_left a new bytes) ≡ length bytes
record_same a new bytes s f = go (eqb a.number 0) refl
  where
    go : (t : Bool) → eqb a.number 0 ≡ t → length (cond t (desk_bytes new) bytes) ≡ length bytes
    go true e = record_length new s ∙ sym (f (eqb-true a.number 0 e))
    go false e = refl

output_same : (a : Answer) (numbers lent : List ℕ) → (a.number ≡ 0 → 4 * length numbers ≤ length lent) → length (output_left a numbers lent) ≡ length lent
output_same a numbers lent f = go (eqb a.number 0) refl
  where
    go : (t : Bool) → eqb a.number 0 ≡ t → length (cond t (sent numbers ++ drop (4 * length numbers) lent) lent) ≡ length lent
    go true e = front_keeps_length (sent numbers) lent (4 * length numbers) (sent_length numbers) (f (eqb-true a.number 0 e))
    go false e = refl

-- no refusal of an output buffer: a record, and room for what is written
module _ (bytes : List ℕ) (lent size : ℕ) (z : (output_fault bytes lent size).number ≡ 0) where
  pub output_record : length bytes ≡ 776
  unfolding output_fault
  output_record = record_long bytes (first_zero_front (record_fault bytes) _ (first_zero_front (first (record_fault bytes) (sound_fault (desk_read bytes))) _ z))

  pub output_long : size ≤ lent
  unfolding output_fault
  output_long = go (ltb lent size) refl (first_zero (first (record_fault bytes) (sound_fault (desk_read bytes))) _ z)
    where
      go : (t : Bool) → ltb lent size ≡ t → (fault t (refusal 6 0 0)).number ≡ 0 → size ≤ lent
      go true e z = absurd (omega arith)
      go false e z = ltb-false lent size e

opened_whole : (machines : ℕ) → Has32Seats (open_of machines).desk
opened_whole machines = sound_seated _ (soundness_is_kept.0 machines)

-- what a call on a record returns is whole
module _ (bytes : List ℕ) where
  whole : WholeOutcome (desk_read bytes)
  whole = (desk_calls_leave_one.1 (desk_read bytes) (from_seated bytes)).1

  pair_numbers_lem : length (pairing bytes) ≡ 64
  pair_numbers_lem = omega (arith, each_length pair_numbers 2 (λ g. refl) (run_of (desk_read bytes)).given, whole.pairs)

-- ---- the desk, handed on

record_read : (a : Answer) (new : Desk) (bytes : List ℕ) → Has32Seats new → (a.number ≢ 0 → new ≡ desk_read bytes) → desk_read (record_left a new bytes) ≡ new
record_read a new bytes s f = go (eqb a.number 0) refl
  where
    go : (t : Bool) → eqb a.number 0 ≡ t → desk_read (cond t (desk_bytes new) bytes) ≡ new
    go true e = (records_are_read_back new s).0
    go false e = sym (f (eqb-false a.number 0 e))

-- tested twice is tested once
first_twice : (a b : Answer) → first a (first a b) ≡ first a b
first_twice a b = go (eqb a.number 0) refl
  where
    go : (t : Bool) → eqb a.number 0 ≡ t → cond t (cond t b a) a ≡ cond t b a
    go true e = refl
    go false e = refl

module _ (bytes : List ℕ) (e : length bytes ≡ 776) where
  -- with room for what is written, the test of the buffer changes no answer
  room_same : (lent : List ℕ) (size : ℕ) (rest : Answer) → size ≤ length lent
      → first (output_fault bytes (length lent) size) (first (sound_fault (desk_read bytes)) rest) ≡ first (sound_fault (desk_read bytes)) rest
  unfolding output_fault
  room_same lent size rest l =
      let twelve = sound_fault (desk_read bytes) in
      rw (a_record bytes e, le-ltb (length lent) size l) (first_first twelve Answers.yes (first twelve rest) ∙ first_twice twelve rest)

  answered_on : GoesOn bytes (desk_read bytes)
  unfolding admit_bytes_answer withdraw_bytes_answer look_bytes_answer run_bytes_answer look_of find_answer run_of run_answer
  answered_on = record {
    held = refl;
    admit = λ j. rw (a_record bytes e) refl;
    withdraw = λ n. rw (a_record bytes e) refl;
    look = λ n lent. room_same lent 16 _;
    run = λ lent. room_same lent 256 _;
  }

  desk_handed_on : DeskHandedOn bytes
  unfolding record_admitted admit_bytes_answer record_withdrawn withdraw_bytes_answer record_run
  desk_handed_on =
      let w = whole bytes in
      let back = refusal_hands_the_desk_back (desk_read bytes) in
      record {
        admit = λ j. record_read (admit_bytes_answer bytes j) _ bytes (w.admit j) (λ h. back.admit j (λ z. h (rw (a_record bytes e) z)));
        withdraw = λ n. record_read (withdraw_bytes_answer bytes n) _ bytes (w.withdraw n) (λ h. back.withdraw n (λ z. h (rw (a_record bytes e) z)));
        run = λ lent l. record_read (run_bytes_answer bytes lent) _ bytes w.run (λ h. back.run (λ z. h (rw (answered_on.run lent l) z)));
      }

  open_handed_on : (machines : ℕ) → 1 ≤ machines → machines ≤ 64 → desk_read (record_opened machines bytes) ≡ (open_of machines).desk
  unfolding record_opened
  open_handed_on machines l k =
      record_read (open_bytes_answer machines bytes) _ bytes (opened_whole machines) (λ h. absurd (h (same_number ((opened_in_order machines bytes).opens l k e))))

pub desk_window_hands_the_desk_on : DeskWindowHandsTheDeskOn
desk_window_hands_the_desk_on bytes e = (open_handed_on bytes e, desk_handed_on bytes e)

-- ---- no length changes

module _ (bytes : List ℕ) (j : Job) (n : ℕ) (lent : List ℕ) where
  lengths_stay : (machines : ℕ) → LengthsStay machines bytes j n lent
  unfolding record_opened open_bytes_answer record_admitted admit_bytes_answer record_withdrawn withdraw_bytes_answer figures_told look_bytes_answer record_run pairs_told run_bytes_answer
  lengths_stay machines = record {
    open' = record_same (open_bytes_answer machines bytes) _ bytes (opened_whole machines) (open_long bytes machines);
    admit = record_same (admit_bytes_answer bytes j) _ bytes ((whole bytes).admit j) (λ z. record_long bytes (first_zero_front (record_fault bytes) _ z));
    withdraw = record_same (withdraw_bytes_answer bytes n) _ bytes ((whole bytes).withdraw n) (λ z. record_long bytes (first_zero_front (record_fault bytes) _ z));
    look = output_same (look_bytes_answer bytes n lent) (looks bytes n) lent (λ z. output_long bytes (length lent) 16 (first_zero_front (output_fault bytes (length lent) 16) _ z));
    run = (
      record_same (run_bytes_answer bytes lent) _ bytes (whole bytes).run (λ z. output_record bytes (length lent) 256 (first_zero_front (output_fault bytes (length lent) 256) _ z)),
      output_same (run_bytes_answer bytes lent) (pairing bytes) lent (λ z. omega (arith, pair_numbers_lem bytes, output_long bytes (length lent) 256 (first_zero_front (output_fault bytes (length lent) 256) _ z))),
    );
  }

pub desk_window_refusal_leaves_the_bytes : DeskWindowRefusalLeavesTheBytes
desk_window_refusal_leaves_the_bytes machines bytes j n lent = (left_as_lent machines bytes j n lent, lengths_stay bytes j n lent machines)

-- ---- each call on the record that the last one left

history_goes_on : (lent : ℕ → List ℕ) (bytes : List ℕ) (calls : List Call) → ((k : ℕ) → 256 ≤ length (lent k)) → length bytes ≡ 776
    → (length (record_after lent bytes calls) ≡ 776) × (desk_read (record_after lent bytes calls) ≡ History.desk_from (desk_read bytes) calls)
history_goes_on lent bytes [] l e = (e, refl)
history_goes_on lent bytes (admit j ∷ calls) l e =
    let h = history_goes_on (λ k. lent (suc k)) (record_admitted bytes j) calls (λ k. l (suc k)) ((lengths_stay bytes j 0 [] 1).admit ∙ e) in
    (h.0, h.1 ∙ ap (λ (d : Desk). History.desk_from d calls) ((desk_handed_on bytes e).admit j))
history_goes_on lent bytes (withdraw n ∷ calls) l e =
    let h = history_goes_on (λ k. lent (suc k)) (record_withdrawn bytes n) calls (λ k. l (suc k)) ((lengths_stay bytes no_job n [] 1).withdraw ∙ e) in
    (h.0, h.1 ∙ ap (λ (d : Desk). History.desk_from d calls) ((desk_handed_on bytes e).withdraw n))
history_goes_on lent bytes (look n ∷ calls) l e =
    let h = history_goes_on (λ k. lent (suc k)) bytes calls (λ k. l (suc k)) e in
    (h.0, h.1 ∙ ap (λ (d : Desk). History.desk_from d calls) (sym ((refusal_hands_the_desk_back (desk_read bytes)).look n)))
history_goes_on lent bytes (run ∷ calls) l e =
    let h = history_goes_on (λ k. lent (suc k)) (record_run bytes (lent 0)) calls (λ k. l (suc k)) ((lengths_stay bytes no_job 0 (lent 0) 1).run.0 ∙ e) in
    (h.0, h.1 ∙ ap (λ (d : Desk). History.desk_from d calls) ((desk_handed_on bytes e).run (lent 0) (l 0)))

pub history_goes_through_the_window : HistoryGoesThroughTheWindow
unfolding desk_after
history_goes_through_the_window machines bytes lent calls a b e l =
    let start = record_opened machines bytes in
    let h = history_goes_on lent start calls l ((lengths_stay bytes no_job 0 [] machines).open' ∙ e) in
    subst (GoesOn (record_after lent start calls)) (h.1 ∙ ap (λ (d : Desk). History.desk_from d calls) (open_handed_on bytes e machines a b))
    (answered_on (record_after lent start calls) h.0)

-- ---- the figures and the pairs

module _ (a : Answer) (numbers lent : List ℕ) (z : a.number ≡ 0) where
  output_word : (i : ℕ) → i < length numbers → word_at (output_left a numbers lent) i ≡ get_or numbers i 0
  output_word i l = rw (eq-eqb a.number 0 z) (word_front numbers (drop (4 * length numbers) lent) i l)

  output_beyond : (k : ℕ) → 4 * length numbers ≤ k → get_or (output_left a numbers lent) k 0 ≡ get_or lent k 0
  output_beyond k l = rw (eq-eqb a.number 0 z) (beyond_front (sent numbers) lent (4 * length numbers) (sent_length numbers) k l)

figures_in_place : (bytes : List ℕ) (n : ℕ) (lent : List ℕ) → (look_bytes_answer bytes n lent).number ≡ 0 → FiguresInPlace bytes n lent
unfolding figures_told word_at
figures_in_place bytes n lent z =
    let word = output_word (look_bytes_answer bytes n lent) (looks bytes n) lent z in
    record {
      left = word 0 (omega arith);
      deadline = word 1 (omega arith);
      bound = word 2 (omega arith);
      leeway = word 3 (omega arith);
      beyond = output_beyond (look_bytes_answer bytes n lent) (looks bytes n) lent z;
    }

-- number i stands in the four bytes from 4 × i on
four_word : (bytes : List ℕ) (i k : ℕ) → k ≡ 4 * i → four_from bytes k ≡ word_at bytes i
unfolding word_at
four_word bytes i k e = ap (four_from bytes) e

pairs_in_place : (bytes lent : List ℕ) → (run_bytes_answer bytes lent).number ≡ 0 → PairsInPlace bytes lent
unfolding pairs_told
pairs_in_place bytes lent z =
    let given = (run_of (desk_read bytes)).given in
    let word = output_word (run_bytes_answer bytes lent) (pairing bytes) lent z in
    let at = each_at pair_numbers 2 (λ g. refl) given in
    record {
      number = λ i none l. four_word _ (2 * i) (8 * i) (omega arith) ∙ word (2 * i) (omega (arith, pair_numbers_lem bytes)) ∙ ap (λ (m : ℕ). get_or (pairing bytes) m 0) (omega arith) ∙ at i 0 none (omega (arith, (whole bytes).pairs)) (omega arith);
      machines = λ i none l. four_word _ (2 * i + 1) (8 * i + 4) (omega arith) ∙ word (2 * i + 1) (omega (arith, pair_numbers_lem bytes)) ∙ at i 1 none (omega (arith, (whole bytes).pairs)) (omega arith);
      beyond = λ k l. output_beyond (run_bytes_answer bytes lent) (pairing bytes) lent z k (omega (arith, pair_numbers_lem bytes));
    }

pub desk_window_tells_in_place : DeskWindowTellsInPlace
desk_window_tells_in_place bytes n lent = (figures_in_place bytes n lent, pairs_in_place bytes lent)
