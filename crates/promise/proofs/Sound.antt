-- A list that no test refuses: its numbers are distinct and its deadlines at most 168, also as it counts.
use Prim.Native.Nat.{ℕ, zero, suc, ◌*◌, ◌≤◌, ◌<◌}
use native.Mathlib.Omega.{arith}
use mathlib.Core.Path.{◌≡◌, refl, ap}
use mathlib.Core.Logic.{◌≢◌, inr}
use mathlib.Core.List.{List, [], ◌∷◌, ◌++◌}
use borrow.Author.Tests.{le-ltb}
use native.Mathlib.Nat.{le_trans}
use Rattle.model.specs.Lists.{All, Distinct}
use Rattle.model.specs.Jobs.{Job, numbers, counted}
use Rattle.model.specs.Boundaries.{RoomEverywhere, least_short}
use Rattle.model.proofs.Lists.{All-map}
use Rattle.model.proofs.Exactly.{width_le}
use Rattle.promise.specs.Answers.{yes, fit_answer}
use Rattle.promise.specs.Rows.{row_at, row_count, job_rows, jobs_of, Test, seen, plan_buffer_test, fit, list_fault, rows_tests, list_order}
use Rattle.promise.specs.Lists.{planned, Holds, answer_of, plan_order, plan_answer}
use Rattle.promise.proofs.Ladder.{same_number, All-front, All-back, zero_none}
use Rattle.promise.proofs.Table.{refuses, gives_list, gives_plan}

-- a job as it counts keeps its number and its deadline
counted_numbers : (C : ℕ) (jobs : List Job) → numbers (counted C jobs) ≡ numbers jobs
unfolding counted
counted_numbers C [] = refl
counted_numbers C (j ∷ jobs) = ap (λ (ns : List ℕ). j.number ∷ ns) (counted_numbers C jobs)

-- every figure of a job that is in range
abbrev pub InRange : Job → Type 0
InRange j = (j.work ≤ 60000) × (j.deadline ≤ 168) × (j.bound ≤ 64)

counted_in_range : (C : ℕ) (jobs : List Job) → All InRange jobs → All InRange (counted C jobs)
unfolding counted
counted_in_range C [] h = tt
counted_in_range C (j ∷ jobs) h = ((h.0.0, h.0.1, le_trans (width_le C j.bound) h.0.2), counted_in_range C jobs h.1)

pub planned_numbers : (machines : ℕ) (rows : List ℕ) → numbers (planned machines rows) ≡ numbers (jobs_of rows)
unfolding planned
planned_numbers machines rows = counted_numbers machines (jobs_of rows)

module _ (machines : ℕ) (rows : List ℕ) where
  -- none of these tests holds
  abbrev pub Passes : List Test → Type 0
  Passes xs = All (λ x. ¬ Holds machines rows x) xs

  -- what that says of the first row: its deadline, its number, and the rows after it
  deadline_passes : (i n : ℕ) → Passes (rows_tests i (suc n)) → (row_at rows i).deadline ≤ 168
  deadline_passes i n h = let d : ¬ (168 < (row_at rows i).deadline) = λ l. h.1.1.0 (inr l) in omega arith

  not_seen : (i n : ℕ) → Passes (rows_tests i (suc n)) → ¬ Holds machines rows (seen i)
  not_seen i n h = h.1.1.1.1.0

  later_pass : (i n : ℕ) → Passes (rows_tests i (suc n)) → Passes (rows_tests (suc i) n)
  later_pass i n h = h.1.1.1.1.1

  in_range_passes : (i n : ℕ) → Passes (rows_tests i (suc n)) → InRange (row_at rows i)
  in_range_passes i n h =
      let w : ¬ (60000 < (row_at rows i).work) = λ l. h.1.0 (inr l) in
      let b : ¬ (64 < (row_at rows i).bound) = λ l. h.1.1.1.0 (inr l) in
      (omega arith, deadline_passes i n h, omega arith)

  rows_in_range : (i n : ℕ) → Passes (rows_tests i n) → All InRange (job_rows rows i n)
  rows_in_range i zero h = tt
  rows_in_range i (suc n) h = (in_range_passes i n h, rows_in_range (suc i) n (later_pass i n h))

  -- row k's number is none of those of later rows, since none of them was seen before
  not_again : (k i n : ℕ) → k < i → Passes (rows_tests i n) → All (λ m. (row_at rows k).number ≢ m) (numbers (job_rows rows i n))
  not_again k i zero l h = tt
  not_again k i (suc n) l h = ((λ e. not_seen i n h (k, l, e)), not_again k (suc i) n (omega arith) (later_pass i n h))

  rows_distinct : (i n : ℕ) → Passes (rows_tests i n) → Distinct (numbers (job_rows rows i n))
  rows_distinct i zero h = tt
  rows_distinct i (suc n) h = let r = later_pass i n h in (not_again i (suc i) n (omega arith) r, rows_distinct (suc i) n r)

  -- the tests of the rows come after the first three
  rows_pass : Passes (list_order rows) → Passes (rows_tests 0 (row_count rows))
  unfolding list_order
  rows_pass h = h.1.1.1

  pub planned_distinct : Passes (list_order rows) → Distinct (numbers (planned machines rows))
  unfolding jobs_of
  planned_distinct h = rw (planned_numbers machines rows) (rows_distinct 0 (row_count rows) (rows_pass h))

  pub planned_in_range : Passes (list_order rows) → All InRange (planned machines rows)
  unfolding planned jobs_of
  planned_in_range h = counted_in_range machines (jobs_of rows) (rows_in_range 0 (row_count rows) (rows_pass h))

  pub planned_deadlines : Passes (list_order rows) → All (λ j. j.deadline ≤ 168) (planned machines rows)
  planned_deadlines h = All-map (λ j r. r.1) (planned machines rows) (planned_in_range h)

  pub few_machines : Passes (list_order rows) → machines ≤ 64
  unfolding list_order
  few_machines h = let m : ¬ (64 < machines) = λ l. h.0 (inr l) in omega arith

  pub few_rows : Passes (list_order rows) → row_count rows ≤ 32
  unfolding list_order
  few_rows h = let r = h.1.1.0 in omega arith

  pub listed_passes : list_fault machines rows ≡ yes → Passes (list_order rows)
  listed_passes e =
      zero_none (Holds machines rows) (answer_of machines rows) (refuses machines rows) (list_order rows) (list_fault machines rows)
      (same_number e) (gives_list machines rows)

  -- a yes of Plan: nothing is wrong with the list, and the buffer is long enough
  module _ (size : ℕ) (e : (plan_answer machines rows size).number ≡ 0) where
    planned_passes : Passes (list_order rows ++ (plan_buffer_test size ∷ fit ∷ []))
    unfolding plan_order
    planned_passes =
        zero_none (Holds machines rows) (answer_of machines rows) (refuses machines rows) (plan_order rows size) (plan_answer machines rows size) e
        (gives_plan machines rows size)

    pub yes_passes : Passes (list_order rows)
    yes_passes = All-front (λ x. ¬ Holds machines rows x) (list_order rows) (plan_buffer_test size ∷ fit ∷ []) planned_passes

    pub yes_long : 168 * row_count rows ≤ size
    yes_long =
        let p = All-back (λ x. ¬ Holds machines rows x) (list_order rows) (plan_buffer_test size ∷ fit ∷ []) planned_passes in omega (arith, p.0)

    pub yes_fits : ¬ ¬ RoomEverywhere machines (planned machines rows)
    yes_fits = (All-back (λ x. ¬ Holds machines rows x) (list_order rows) (plan_buffer_test size ∷ fit ∷ []) planned_passes).1.0

  -- where the list and the buffer are in order, Plan answers by the least short boundary alone
  pub answers_fit : (size : ℕ) → list_fault machines rows ≡ yes → 168 * row_count rows ≤ size
      → plan_answer machines rows size ≡ fit_answer (least_short machines (planned machines rows))
  unfolding plan_answer
  answers_fit size e l = rw (e, le-ltb size (168 * row_count rows) l)
