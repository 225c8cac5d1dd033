-- 01, "Calls": a list as a lent run of numbers, and the rows of the refusal table that speak of a list.
use Rattle.std.specs.Prelude.{ℕ, zero, suc, ◌+◌, ◌*◌, ◌/◌, ◌%◌, ◌<◌, ◌⊎◌, Bool, false, not, ◌||◌, List, [], ◌∷◌, ◌++◌, ltb, eqb, length, get_or}
use Rattle.model.specs.Jobs.{Job}
use Rattle.promise.specs.declared.Answer.{Answer}
use Rattle.promise.specs.Answers.{yes, refusal, fault, first}

-- "a lent run of 32-bit numbers, four to a job: number, work, deadline, bound"
unfoldable pub row_at : List ℕ → ℕ → Job
row_at rows i = record {
  number = get_or rows (4 * i) 0;
  work = get_or rows (4 * i + 1) 0;
  deadline = get_or rows (4 * i + 2) 0;
  bound = get_or rows (4 * i + 3) 0;
}

unfoldable pub row_count : List ℕ → ℕ
row_count rows = length rows / 4

-- n rows, from row i on
abbrev pub job_rows : List ℕ → ℕ → ℕ → List Job
job_rows rows i zero = []
job_rows rows i (suc n) = row_at rows i ∷ job_rows rows (suc i) n

-- the jobs of a list
unfoldable pub jobs_of : List ℕ → List Job
jobs_of rows = job_rows rows 0 (row_count rows)

-- the fields of a job, as refusal 4 counts them
pub data Field : Type 0 where
  the_number the_work the_deadline the_bound : Field

abbrev pub field_number : Field → ℕ
field_number the_number = 1
field_number the_work = 2
field_number the_deadline = 3
field_number the_bound = 4

abbrev pub field_of : Field → Job → ℕ
field_of the_number j = j.number
field_of the_work j = j.work
field_of the_deadline j = j.deadline
field_of the_bound j = j.bound

-- the least and the greatest deadline that is in range: 1 and 168 in a list, others on a desk
pub record DueRange : Type 0 where
  pub from : ℕ
  pub to : ℕ

abbrev pub list_dues : DueRange
list_dues = record { from = 1; to = 168 }

-- 01's table of quantities
abbrev pub least : DueRange → Field → ℕ
least dues the_number = 1
least dues the_work = 1
least dues the_deadline = dues.from
least dues the_bound = 1

abbrev pub greatest : DueRange → Field → ℕ
greatest dues the_number = 65535
greatest dues the_work = 60000
greatest dues the_deadline = dues.to
greatest dues the_bound = 64

-- "a field out of range"
abbrev pub OutOfRange : DueRange → Field → Job → Type 0
OutOfRange dues f j = (field_of f j < least dues f) ⊎ (greatest dues f < field_of f j)

-- the tests of a list; a test of the plan's buffer or of a boundary has what it looks at with it
pub data Test : Type 0 where
  machine_count list_length row_count_test : Test
  field : ℕ → Field → Test
  seen : ℕ → Test
  plan_buffer_test : ℕ → Test
  fit : Test
  boundary : ℕ → Test

-- the same tests as an answer for one field, one row, all rows
unfoldable pub field_fault : DueRange → ℕ → Field → Job → Answer
field_fault dues place f j = fault (ltb (field_of f j) (least dues f) || ltb (greatest dues f) (field_of f j)) (refusal 4 place (field_number f))

unfoldable pub fields_fault : DueRange → ℕ → Job → Answer
fields_fault dues place j =
    first (field_fault dues place the_number j)
    (first (field_fault dues place the_work j) (first (field_fault dues place the_deadline j) (field_fault dues place the_bound j)))

-- n is the number of one of the rows before row i
abbrev pub seen_before : List ℕ → ℕ → ℕ → Bool
seen_before rows n zero = false
seen_before rows n (suc i) = eqb (row_at rows i).number n || seen_before rows n i

unfoldable pub seen_fault : List ℕ → ℕ → Answer
seen_fault rows i = fault (seen_before rows (row_at rows i).number i) (refusal 5 i 0)

-- "row by row from 0 (fields in order, then 5)"
unfoldable pub row_fault : List ℕ → ℕ → Answer
row_fault rows i = first (fields_fault list_dues i (row_at rows i)) (seen_fault rows i)

abbrev pub rows_fault : List ℕ → ℕ → ℕ → Answer
rows_fault rows i zero = yes
rows_fault rows i (suc n) = first (row_fault rows i) (rows_fault rows (suc i) n)

unfoldable pub count_fault : ℕ → Answer
count_fault machines = fault (ltb machines 1 || ltb 64 machines) (refusal 1 0 0)

unfoldable pub length_fault : List ℕ → Answer
length_fault rows = fault (not (eqb (length rows % 4) 0)) (refusal 2 0 0)

unfoldable pub many_fault : List ℕ → Answer
many_fault rows = fault (ltb 32 (row_count rows)) (refusal 3 0 0)

-- "1, 2, 3, then row by row"
unfoldable pub list_fault : ℕ → List ℕ → Answer
list_fault machines rows =
    first (count_fault machines) (first (length_fault rows) (first (many_fault rows) (rows_fault rows 0 (row_count rows))))

-- the order of the tests of a list, as 01 writes it
abbrev pub row_tests : ℕ → List Test
row_tests i = field i the_number ∷ field i the_work ∷ field i the_deadline ∷ field i the_bound ∷ seen i ∷ []

abbrev pub rows_tests : ℕ → ℕ → List Test
rows_tests i zero = []
rows_tests i (suc n) = row_tests i ++ rows_tests (suc i) n

unfoldable pub list_order : List ℕ → List Test
list_order rows = (machine_count ∷ list_length ∷ row_count_test ∷ []) ++ rows_tests 0 (row_count rows)
