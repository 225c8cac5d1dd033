-- 01, "Calls" and "Refusal numbers": the whole outcome of Plan and of Room, for every input.
use Rattle.std.specs.Prelude.{ℕ, ◌*◌, ◌%◌, ◌<◌, ◌≡◌, ◌≢◌, ◌⊎◌, cond, ltb, eqb, ℤ, pos, length, drop}
use mathlib.Core.List.{List, [], ◌∷◌, ◌++◌, flatten}
use Rattle.model.specs.Jobs.{Job, room, counted}
use Rattle.model.specs.Boundaries.{RoomEverywhere, least_short}
use Rattle.model.specs.Rule.{plan_rows}
use Rattle.promise.specs.declared.Answer.{Answer}
use Rattle.promise.specs.Records.{RoomAnswer}
use Rattle.promise.specs.Answers.{refusal, fault, first, fit_answer}
use Rattle.promise.specs.Rows.{row_at, row_count, jobs_of, field_number, list_dues, OutOfRange, Test, machine_count, list_length, row_count_test, field, seen, plan_buffer_test, fit, boundary, list_fault, list_order}

-- the list that is planned: its jobs as they count in a room of so many machines
unfoldable pub planned : ℕ → List ℕ → List Job
planned machines rows = counted machines (jobs_of rows)

-- the rows of the refusal table, as statements about the inputs alone
abbrev pub Holds : ℕ → List ℕ → Test → Type 0
Holds machines rows machine_count = (machines < 1) ⊎ (64 < machines)
Holds machines rows list_length = length rows % 4 ≢ 0
Holds machines rows row_count_test = 32 < row_count rows
Holds machines rows (field i f) = OutOfRange list_dues f (row_at rows i)
Holds machines rows (seen i) = (k : ℕ) × (k < i) × ((row_at rows k).number ≡ (row_at rows i).number)
Holds machines rows (plan_buffer_test size) = size < 168 * row_count rows
Holds machines rows fit = ¬ RoomEverywhere machines (planned machines rows)
Holds machines rows (boundary b) = 168 < b

-- their number, place and amount
abbrev pub answer_of : ℕ → List ℕ → Test → Answer
answer_of machines rows machine_count = refusal 1 0 0
answer_of machines rows list_length = refusal 2 0 0
answer_of machines rows row_count_test = refusal 3 0 0
answer_of machines rows (field i f) = refusal 4 i (field_number f)
answer_of machines rows (seen i) = refusal 5 i 0
answer_of machines rows (plan_buffer_test size) = refusal 6 0 0
answer_of machines rows fit = fit_answer (least_short machines (planned machines rows))
answer_of machines rows (boundary b) = refusal 9 0 0

-- Plan. "1, 2, 3, then row by row from 0 (fields in order, then 5), then 6, then 7"
unfoldable pub plan_order : List ℕ → ℕ → List Test
plan_order rows size = list_order rows ++ (plan_buffer_test size ∷ fit ∷ [])

unfoldable pub plan_answer : ℕ → List ℕ → ℕ → Answer
plan_answer machines rows size =
    first (list_fault machines rows)
    (first (fault (ltb size (168 * row_count rows)) (refusal 6 0 0)) (fit_answer (least_short machines (planned machines rows))))

-- "the machines of row i (from 0) in slot t stand at place 168 × i + t − 1 .. places beyond stay as lent"
unfoldable pub written : List (List ℕ) → ℕ → List ℕ → List ℕ
written rows n lent = flatten rows ++ drop (168 * n) lent

-- what the buffer holds after the call: the plan on a yes, what was lent in a refusal
unfoldable pub plan_buffer : ℕ → List ℕ → List ℕ → List ℕ
plan_buffer machines rows lent =
    cond (eqb (plan_answer machines rows (length lent)).number 0) (written (plan_rows machines (planned machines rows)) (row_count rows) lent) lent

-- the promise of Plan: its answer, and the buffer's whole content at its end
pub record PlanPromise (machines : ℕ) (rows lent : List ℕ) (answer : Answer) (after : List ℕ) : Type 0 where
  pub answered : answer ≡ plan_answer machines rows (length lent)
  pub left : after ≡ plan_buffer machines rows lent

-- Room. "the same through 5, then 9"
unfoldable pub room_order : List ℕ → ℕ → List Test
room_order rows b = list_order rows ++ (boundary b ∷ [])

unfoldable pub room_answer : ℕ → List ℕ → ℕ → Answer
room_answer machines rows b = first (list_fault machines rows) (fault (ltb 168 b) (refusal 9 0 0))

-- "answers the signed room", and 0 in a refusal
unfoldable pub room_figure : ℕ → List ℕ → ℕ → ℤ
room_figure machines rows b = cond (eqb (room_answer machines rows b).number 0) (room machines (planned machines rows) b) (pos 0)

-- the promise of Room
pub record RoomPromise (machines : ℕ) (rows : List ℕ) (b : ℕ) (r : RoomAnswer) : Type 0 where
  pub answered : r.answer ≡ room_answer machines rows b
  pub figure : r.room ≡ room_figure machines rows b
