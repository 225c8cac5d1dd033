-- L2: the faults of a list, of Plan and of Room are given in the order of the table.
use Prim.Native.Nat.{ℕ, zero, suc, ◌*◌, ◌%◌, ◌<◌}
use native.Mathlib.Decide.{dec_lt}
use native.Mathlib.Omega.{arith}
use mathlib.Core.Path.{◌≡◌, refl, sym, ◌∙◌}
use mathlib.Core.Logic.{◌≢◌, ◌⊎◌, inl, inr, ◌↔◌}
use mathlib.Core.Bool.{Bool}
use mathlib.Core.List.{List, [], ◌∷◌, ◌++◌}
use mathlib.Core.Option.{Option, some, none, some-ne-none}
use lib.Dec.{ltb}
use lib.ListN.{length}
use Rattle.model.specs.Boundaries.{RoomEverywhere, Short, least_short}
use Rattle.model.proofs.LeastShort.{none_short_is_named}
use Rattle.promise.specs.declared.Answer.{Answer}
use Rattle.promise.specs.Answers.{refusal, fault, first, fit_answer}
use Rattle.promise.specs.Rows.{row_at, row_count, list_dues, Field, the_number, the_work, the_deadline, the_bound, field_of, least, greatest, Test, machine_count, list_length, row_count_test, field, seen, plan_buffer_test, fit, boundary, field_fault, fields_fault, seen_before, seen_fault, row_fault, rows_fault, count_fault, length_fault, many_fault, list_fault, row_tests, rows_tests, list_order}
use Rattle.promise.specs.Lists.{planned, Holds, answer_of, plan_order, plan_answer, room_order, room_answer}
use Rattle.promise.specs.Claims.{PlanAnswersByTheTable, RoomAnswersByTheTable}
use Rattle.promise.proofs.Ladder.{Tells, fails, tells_lt, tells_eq, tells_or, tells_not, tells_same, Ladder, one, append, given}

module _ (machines : ℕ) (rows : List ℕ) where
  -- n is the number of one of the rows before row i
  abbrev Before : ℕ → ℕ → Type 0
  Before n i = (k : ℕ) × (k < i) × ((row_at rows k).number ≡ n)

  before_more : (n i : ℕ) → ((row_at rows i).number ≡ n) ⊎ Before n i → Before n (suc i)
  before_more n i (inl e) = (i, omega arith, e)
  before_more n i (inr b) = (b.0, omega arith, b.2)

  before_less : (n i : ℕ) → Before n (suc i) → ((row_at rows i).number ≡ n) ⊎ Before n i
  before_less n i b = go (dec_lt b.0 i)
    where
      go : Dec (b.0 < i) → ((row_at rows i).number ≡ n) ⊎ Before n i
      go (yes l) = inr (b.0, l, b.2)
      go (no l) = let e : b.0 ≡ i = omega arith in inl (rw e at b.2)

  tells_seen : (n i : ℕ) → Tells (Before n i) (seen_before rows n i)
  tells_seen n zero = fails (λ b. absurd (omega arith))
  tells_seen n (suc i) = tells_same (before_more n i, before_less n i) (tells_or (tells_eq (row_at rows i).number n) (tells_seen n i))

  -- where some boundary is short, one is named
  no_room : (o : Option Short) → least_short machines (planned machines rows) ≡ o → ¬ RoomEverywhere machines (planned machines rows) → (fit_answer o).number ≢ 0
  no_room none e h = absurd (h ((none_short_is_named machines (planned machines rows)).0 e))
  no_room (some s) e h = omega arith

  pub refuses : (x : Test) → Holds machines rows x → (answer_of machines rows x).number ≢ 0
  refuses machine_count h = omega arith
  refuses list_length h = omega arith
  refuses row_count_test h = omega arith
  refuses (field i f) h = omega arith
  refuses (seen i) h = omega arith
  refuses (plan_buffer_test size) h = omega arith
  refuses fit h = no_room (least_short machines (planned machines rows)) refl h
  refuses (boundary b) h = omega arith

  -- a is what these tests give
  abbrev Gives : List Test → Answer → Type 0
  Gives = Ladder (Holds machines rows) (answer_of machines rows)

  test : (x : Test) {t : Bool} → Tells (Holds machines rows x) t → Gives (x ∷ []) (fault t (answer_of machines rows x))
  test = one (Holds machines rows) (answer_of machines rows)

  join : (xs ys : List Test) (a b : Answer) → Gives xs a → Gives ys b → Gives (xs ++ ys) (first a b)
  join = append (Holds machines rows) (answer_of machines rows) refuses

  gives_field : (i : ℕ) (f : Field) → Gives (field i f ∷ []) (field_fault list_dues i f (row_at rows i))
  unfolding field_fault
  gives_field i f =
      let v : ℕ = field_of f (row_at rows i) in test (field i f) (tells_or (tells_lt v (least list_dues f)) (tells_lt (greatest list_dues f) v))

  gives_fields : (i : ℕ)
      → Gives (field i the_number ∷ field i the_work ∷ field i the_deadline ∷ field i the_bound ∷ []) (fields_fault list_dues i (row_at rows i))
  unfolding fields_fault
  gives_fields i =
      join (field i the_number ∷ []) (field i the_work ∷ field i the_deadline ∷ field i the_bound ∷ []) _ _ (gives_field i the_number)
      (join (field i the_work ∷ []) (field i the_deadline ∷ field i the_bound ∷ []) _ _ (gives_field i the_work)
      (join (field i the_deadline ∷ []) (field i the_bound ∷ []) _ _ (gives_field i the_deadline) (gives_field i the_bound)))

  gives_seen : (i : ℕ) → Gives (seen i ∷ []) (seen_fault rows i)
  unfolding seen_fault
  gives_seen i = test (seen i) (tells_seen (row_at rows i).number i)

  gives_row : (i : ℕ) → Gives (row_tests i) (row_fault rows i)
  unfolding row_fault
  gives_row i =
      join (field i the_number ∷ field i the_work ∷ field i the_deadline ∷ field i the_bound ∷ []) (seen i ∷ []) _ _ (gives_fields i) (gives_seen i)

  gives_rows : (i n : ℕ) → Gives (rows_tests i n) (rows_fault rows i n)
  gives_rows i zero = refl
  gives_rows i (suc n) = join (row_tests i) (rows_tests (suc i) n) _ _ (gives_row i) (gives_rows (suc i) n)

  gives_count : Gives (machine_count ∷ []) (count_fault machines)
  unfolding count_fault
  gives_count = test machine_count (tells_or (tells_lt machines 1) (tells_lt 64 machines))

  gives_length : Gives (list_length ∷ []) (length_fault rows)
  unfolding length_fault
  gives_length = test list_length (tells_not (tells_eq (length rows % 4) 0))

  gives_many : Gives (row_count_test ∷ []) (many_fault rows)
  unfolding many_fault
  gives_many = test row_count_test (tells_lt 32 (row_count rows))

  pub gives_list : Gives (list_order rows) (list_fault machines rows)
  unfolding list_order list_fault
  gives_list =
      let n : ℕ = row_count rows in
      join (machine_count ∷ []) (list_length ∷ row_count_test ∷ rows_tests 0 n) _ _ gives_count
      (join (list_length ∷ []) (row_count_test ∷ rows_tests 0 n) _ _ gives_length (join (row_count_test ∷ []) (rows_tests 0 n) _ _ gives_many (gives_rows 0 n)))

  gives_buffer : (size : ℕ) → Gives (plan_buffer_test size ∷ []) (fault (ltb size (168 * row_count rows)) (refusal 6 0 0))
  gives_buffer size = test (plan_buffer_test size) (tells_lt size (168 * row_count rows))

  gives_fit : Gives (fit ∷ []) (fit_answer (least_short machines (planned machines rows)))
  gives_fit = go (least_short machines (planned machines rows)) refl
    where
      all_room : (least_short machines (planned machines rows) ≡ none) ↔ RoomEverywhere machines (planned machines rows)
      all_room = none_short_is_named machines (planned machines rows)

      go : (o : Option Short) → least_short machines (planned machines rows) ≡ o → Gives (fit ∷ []) (fit_answer o)
      go none e = inr ((λ h. h (all_room.0 e)), refl)
      go (some s) e = inl ((λ h. some-ne-none s (sym e ∙ all_room.1 h)), rw e)

  pub gives_plan : (size : ℕ) → Gives (plan_order rows size) (plan_answer machines rows size)
  unfolding plan_order plan_answer
  gives_plan size =
      join (list_order rows) (plan_buffer_test size ∷ fit ∷ []) _ _ gives_list (join (plan_buffer_test size ∷ []) (fit ∷ []) _ _ (gives_buffer size) gives_fit)

  pub gives_room : (b : ℕ) → Gives (room_order rows b) (room_answer machines rows b)
  unfolding room_order room_answer
  gives_room b = join (list_order rows) (boundary b ∷ []) _ _ gives_list (test (boundary b) (tells_lt 168 b))

pub plan_answers_by_the_table : PlanAnswersByTheTable
plan_answers_by_the_table machines rows size =
    given (Holds machines rows) (answer_of machines rows) (refuses machines rows) (plan_order rows size) (plan_answer machines rows size)
    (gives_plan machines rows size)

pub room_answers_by_the_table : RoomAnswersByTheTable
room_answers_by_the_table machines rows b =
    given (Holds machines rows) (answer_of machines rows) (refuses machines rows) (room_order rows b) (room_answer machines rows b)
    (gives_room machines rows b)
