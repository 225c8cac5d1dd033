-- The headline statements about the promises, each a proposition with a name. proofs/Theorems.antt has one theorem for each.
use Rattle.std.specs.Prelude.{ℕ, ℤ, ◌+◌, ◌*◌, ◌-◌, ◌/◌, ◌%◌, ◌≤◌, ◌<◌, ◌≡◌, ◌≢◌, ◌↔◌, List, [], ◌∷◌, ◌++◌, cond, ltb, pos, neg_ℤ, ◌-ℤ◌, length, get_or}
use Rattle.model.specs.Lists.{All, Perm}
use Rattle.model.specs.Jobs.{forced}
use Rattle.model.specs.Boundaries.{LeastShort}
use Rattle.model.specs.Schedules.{Valid, Possible}
use Rattle.model.specs.Rule.{plan}
use Rattle.model.specs.Monday.{work_by, figure}
use Rattle.promise.specs.declared.Answer.{Answer}
use Rattle.promise.specs.Records.{RoomAnswer}
use Rattle.std.specs.declared.result.Result.{Result}
use Rattle.promise.specs.declared.Refusal.{Refusal}
use Rattle.promise.specs.declared.Outcome.{Outcome}
use Rattle.promise.specs.declared.Figures.{Figures}
use Rattle.promise.specs.declared.Given.{Given}
use Rattle.promise.specs.declared.JobFile.{JobFile}
use Rattle.promise.specs.Refusals.{numbered, as_answer, as_room_answer, as_desked, as_withdrawn, as_looked, as_ran, as_reading}
use Rattle.promise.specs.Answers.{yes, refusal}
use Rattle.promise.specs.Order.{GivenBy}
use Rattle.promise.specs.Rows.{row_at, row_count, jobs_of, machine_count, plan_buffer_test, list_fault, list_order}
use Rattle.promise.specs.Window.{words_of, sent, window_answer, window_buffer, pack, Packs, room_window_answer, room_packed, PlanBytesPromise, PlanNumbersPromise, RoomBytesPromise}
use Rattle.promise.specs.Monday.{rows_by}
use Rattle.promise.specs.Lists.{planned, Holds, answer_of, plan_order, plan_answer, plan_buffer, PlanPromise, room_order, room_answer, room_figure, RoomPromise}

-- each refusal of the code has a number of 01's table, and no two have the same number, place and amount
abbrev pub RefusalsAreNumbered : Type 0
RefusalsAreNumbered = (e : Refusal) → (1 ≤ (numbered e).number) × ((numbered e).number ≤ 14)

abbrev pub RefusalsAreToldApart : Type 0
RefusalsAreToldApart = (e f : Refusal) → numbered e ≡ numbered f → e ≡ f

-- what a call comes to is told by its record, so that a promise about the record leaves one of them
pub record OutcomesLeaveOne : Type 0 where
  pub plan : (r s : Result Unit Refusal) → as_answer r ≡ as_answer s → r ≡ s
  pub room : (r s : Result ℤ Refusal) → as_room_answer r ≡ as_room_answer s → r ≡ s
  pub desked : (r s : Outcome Unit) → as_desked r ≡ as_desked s → r ≡ s
  pub withdrawn : (r s : Outcome ℕ) → as_withdrawn r ≡ as_withdrawn s → r ≡ s
  pub looked : (r s : Outcome Figures) → as_looked r ≡ as_looked s → r ≡ s
  pub ran : (r s : Outcome (List Given)) → as_ran r ≡ as_ran s → r ≡ s
  pub reading : (r s : Result JobFile Refusal) → as_reading r ≡ as_reading s → r ≡ s

-- L1: on a yes the buffer holds the plan by job number, row by row and slot by slot, and what was lent beyond
pub record Planned (machines : ℕ) (rows lent : List ℕ) : Type 0 where
  pub cells : (i t : ℕ) → i < row_count rows → 1 ≤ t → t ≤ 168
      → get_or (plan_buffer machines rows lent) (168 * i + t - 1) 0 ≡ plan machines (planned machines rows) (row_at rows i).number t
  pub beyond : (k : ℕ) → 168 * row_count rows ≤ k → get_or (plan_buffer machines rows lent) k 0 ≡ get_or lent k 0

abbrev pub YesWritesThePlan : Type 0
YesWritesThePlan = (machines : ℕ) (rows lent : List ℕ) → (plan_answer machines rows (length lent)).number ≡ 0 → Planned machines rows lent

-- L1: a refusal leaves the buffer as it was lent, and its length never changes
abbrev pub RefusalWritesNothing : Type 0
RefusalWritesNothing =
    (machines : ℕ) (rows lent : List ℕ)
    → ((plan_answer machines rows (length lent)).number ≢ 0 → plan_buffer machines rows lent ≡ lent) × (length (plan_buffer machines rows lent) ≡ length lent)

-- L2: each number of Plan and of Room exactly when its row holds and no earlier one in the order does
abbrev pub PlanAnswersByTheTable : Type 0
PlanAnswersByTheTable =
    (machines : ℕ) (rows : List ℕ) (size : ℕ)
    → GivenBy (Holds machines rows) (answer_of machines rows) (plan_order rows size) (plan_answer machines rows size)

abbrev pub RoomAnswersByTheTable : Type 0
RoomAnswersByTheTable =
    (machines : ℕ) (rows : List ℕ) (b : ℕ)
    → GivenBy (Holds machines rows) (answer_of machines rows) (room_order rows b) (room_answer machines rows b)

-- L3: where none of 1 to 6 holds, Plan answers 7 exactly if no schedule at all is valid for the list as it was sent;
-- its place is then the least short boundary and its amount the shortage there, above 0
pub record SevenIsTrue (machines : ℕ) (rows : List ℕ) (a : Answer) : Type 0 where
  pub exactly : (a.number ≡ 7) ↔ (¬ Possible machines (jobs_of rows))
  pub names : a.number ≡ 7 → LeastShort machines (planned machines rows) (record { place = a.place; amount = a.amount }) × (0 < a.amount)

abbrev pub PlanSevenIsTrue : Type 0
PlanSevenIsTrue =
    (machines : ℕ) (rows : List ℕ) (size : ℕ)
    → All (λ x. ¬ Holds machines rows x) (list_order rows ++ (plan_buffer_test size ∷ []))
    → SevenIsTrue machines rows (plan_answer machines rows size)

-- Room: its figure is C × b less the forced work, of any sign, and 0 in a refusal
abbrev pub RoomFigureIsTheRoom : Type 0
RoomFigureIsTheRoom =
    (machines : ℕ) (rows : List ℕ) (b : ℕ)
    → (room_answer machines rows b ≡ yes → room_figure machines rows b ≡ pos (machines * b) -ℤ pos (forced (planned machines rows) b))
    × (room_answer machines rows b ≢ yes → room_figure machines rows b ≡ pos 0)

-- rows in another order: the same answer, and the same machines for each job number in each slot
pub record SameForEachNumber (machines : ℕ) (rows rows' lent lent' : List ℕ) : Type 0 where
  pub answer : plan_answer machines rows (length lent) ≡ plan_answer machines rows' (length lent')
  pub machines_same : (i k t : ℕ) → i < row_count rows → k < row_count rows' → (row_at rows i).number ≡ (row_at rows' k).number → 1 ≤ t → t ≤ 168
      → (plan_answer machines rows (length lent)).number ≡ 0
      → get_or (plan_buffer machines rows lent) (168 * i + t - 1) 0 ≡ get_or (plan_buffer machines rows' lent') (168 * k + t - 1) 0

abbrev pub RowOrderPlaysNoPart : Type 0
RowOrderPlaysNoPart =
    (machines : ℕ) (rows rows' lent lent' : List ℕ) → Perm (jobs_of rows) (jobs_of rows')
    → list_fault machines rows ≡ yes → list_fault machines rows' ≡ yes
    → 168 * row_count rows ≤ length lent → 168 * row_count rows' ≤ length lent'
    → SameForEachNumber machines rows rows' lent lent'

-- uniqueness: one answer and one content of the buffer meet the promise
abbrev pub PlanPromiseLeavesOne : Type 0
PlanPromiseLeavesOne =
    (machines : ℕ) (rows lent : List ℕ) (a a' : Answer) (after after' : List ℕ)
    → PlanPromise machines rows lent a after → PlanPromise machines rows lent a' after' → (a ≡ a') × (after ≡ after')

abbrev pub RoomPromiseLeavesOne : Type 0
RoomPromiseLeavesOne =
    (machines : ℕ) (rows : List ℕ) (b : ℕ) (r r' : RoomAnswer) → RoomPromise machines rows b r → RoomPromise machines rows b r' → r ≡ r'

-- L4: every answer of Plan and of Room, at the window too, packs without loss
abbrev pub AnswersPack : Type 0
AnswersPack =
    (machines : ℕ) (rows : List ℕ) (size : ℕ)
    → Packs (plan_answer machines rows size) × Packs (room_answer machines rows size) × Packs (window_answer machines rows size) × Packs (room_window_answer machines rows size)

-- L4: no two such answers pack to the same word
abbrev pub PackingIsOneToOne : Type 0
PackingIsOneToOne = (a b : Answer) → Packs a → Packs b → pack a ≡ pack b → a ≡ b

-- L4: the room is read back from the upper half of the word: below 2^31 it is that number, else 2^32 less the shortage;
-- a refusal is packed
abbrev pub RoomIsReadBack : Type 0
RoomIsReadBack =
    (machines : ℕ) (list : List ℕ) (b : ℕ)
    → (room_window_answer machines list b ≡ yes
    → (room_packed machines list b % 4294967296 ≡ 0)
    × (room_figure machines (words_of list) b ≡ cond (ltb (room_packed machines list b / 4294967296) 2147483648) (pos (room_packed machines list b / 4294967296)) (neg_ℤ (pos (4294967296 - room_packed machines list b / 4294967296)))))
    × ((room_window_answer machines list b).number ≢ 0 → room_packed machines list b ≡ pack (room_window_answer machines list b))

-- L4: the numbers that were sent are those that the window reads, and 32-bit numbers are sent as bytes
abbrev pub WindowReadsTheNumbers : Type 0
WindowReadsTheNumbers = (ns : List ℕ) → (words_of (sent ns) ≡ ns) × (All (λ n. n < 4294967296) ns → All (λ b. b < 256) (sent ns))

-- L4: "lowest byte first": the number of the four bytes from index k on, lowest first
abbrev pub four_from : List ℕ → ℕ → ℕ
four_from bytes k = get_or bytes k 0 + 256 * get_or bytes (k + 1) 0 + 65536 * get_or bytes (k + 2) 0 + 16777216 * get_or bytes (k + 3) 0

abbrev pub WindowReadsLowestFirst : Type 0
WindowReadsLowestFirst = (bytes : List ℕ) (i : ℕ) → i < length bytes / 4 → get_or (words_of bytes) i 0 ≡ four_from bytes (4 * i)

-- L4: 1 first, then 2 for a length that is not a multiple of 16, then the answer of the numbers
abbrev pub WindowTakesSixteenARow : Type 0
WindowTakesSixteenARow =
    (machines : ℕ) (list : List ℕ) (size : ℕ) → ¬ Holds machines (words_of list) machine_count
    → (length list % 16 ≢ 0 → (window_answer machines list size ≡ refusal 2 0 0) × (room_window_answer machines list size ≡ refusal 2 0 0))
    × (length list % 16 ≡ 0 → (window_answer machines list size ≡ plan_answer machines (words_of list) (size / 2)) × (room_window_answer machines list size ≡ room_answer machines (words_of list) size))

-- L4: 16 bytes a row; "fewer than 336 × n bytes is a 6"
abbrev pub WindowCountsBytes : Type 0
WindowCountsBytes =
    (machines : ℕ) (list : List ℕ) (size : ℕ)
    → (row_count (words_of list) ≡ length list / 16)
    × (Holds machines (words_of list) (plan_buffer_test (size / 2)) ↔ (size < 336 * row_count (words_of list)))

abbrev pub WindowCountsMachinesFirst : Type 0
WindowCountsMachinesFirst =
    (machines : ℕ) (list : List ℕ) (size : ℕ) → Holds machines (words_of list) machine_count
    → (window_answer machines list size ≡ refusal 1 0 0) × (room_window_answer machines list size ≡ refusal 1 0 0)

-- L4: on a yes the bytes at 2 × (168 × i + t − 1) are the machines of row i in slot t, lowest first, and what was lent beyond;
-- a refusal leaves the bytes, and their length never changes
pub record BytesPlanned (machines : ℕ) (list lent : List ℕ) : Type 0 where
  pub low : (i t : ℕ) → i < row_count (words_of list) → 1 ≤ t → t ≤ 168
      → get_or (window_buffer machines list lent) (2 * (168 * i + t - 1)) 0 ≡ plan machines (planned machines (words_of list)) (row_at (words_of list) i).number t % 256
  pub high : (i t : ℕ) → i < row_count (words_of list) → 1 ≤ t → t ≤ 168
      → get_or (window_buffer machines list lent) (2 * (168 * i + t - 1) + 1) 0 ≡ plan machines (planned machines (words_of list)) (row_at (words_of list) i).number t / 256
  pub beyond : (k : ℕ) → 336 * row_count (words_of list) ≤ k → get_or (window_buffer machines list lent) k 0 ≡ get_or lent k 0

abbrev pub WindowWritesThePlan : Type 0
WindowWritesThePlan =
    (machines : ℕ) (list lent : List ℕ)
    → ((window_answer machines list (length lent)).number ≡ 0 → BytesPlanned machines list lent)
    × ((window_answer machines list (length lent)).number ≢ 0 → window_buffer machines list lent ≡ lent)
    × (length (window_buffer machines list lent) ≡ length lent)

abbrev pub WindowPromisesLeaveOne : Type 0
WindowPromisesLeaveOne =
    (machines : ℕ) (list lent : List ℕ) (word word' : ℕ) (after after' : List ℕ)
    → (PlanBytesPromise machines list lent word after → PlanBytesPromise machines list lent word' after' → (word ≡ word') × (after ≡ after'))
    × (PlanNumbersPromise machines list lent word after → PlanNumbersPromise machines list lent word' after' → (word ≡ word') × (after ≡ after'))
    × ((b : ℕ) → RoomBytesPromise machines list b word → RoomBytesPromise machines list b word' → word ≡ word')

-- O4: what Plan writes on a yes does in slots 1 to b the work of 02's figure, and no valid schedule of the list as it was sent does less
abbrev pub WrittenPlanTakesTheLeast : Type 0
WrittenPlanTakesTheLeast =
    (machines : ℕ) (rows lent : List ℕ) → (plan_answer machines rows (length lent)).number ≡ 0 → (b : ℕ) → b ≤ 168
    → (pos (rows_by (plan_buffer machines rows lent) 0 (row_count rows) b) ≡ figure machines (planned machines rows) b)
    × ((y : ℕ → ℕ → ℕ) → Valid machines (jobs_of rows) y → rows_by (plan_buffer machines rows lent) 0 (row_count rows) b ≤ work_by (jobs_of rows) y b)
