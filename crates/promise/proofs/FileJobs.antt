-- The rows of a job file: its jobs in file order, and that they are never a 2 or a 6.
use Prim.Native.Nat.{ℕ, zero, suc, ◌+◌, ◌*◌, ◌/◌, ◌%◌}
use native.Mathlib.Nat.{mul-div_cancel_left}
use native.Mathlib.Omega.{arith}
use mathlib.Core.Path.{◌≡◌, refl, sym, ◌∙◌, ap, ap₂}
use mathlib.Core.Logic.{◌≢◌}
use mathlib.Core.Bool.{Bool, true, false, cond, ◌||◌}
use mathlib.Core.List.{List, [], ◌∷◌, map}
use mathlib.Core.Option.{Option, some, none}
use lib.Dec.{ltb, eqb}
use lib.ListN.{length, get_or}
use borrow.Author.Tests.{eq-eqb, le-ltb}
use Rattle.model.specs.Jobs.{Job}
use Rattle.model.specs.Boundaries.{Short, least_short}
use Rattle.promise.specs.declared.Answer.{Answer}
use Rattle.promise.specs.Answers.{refusal, fault, first, fit_answer}
use Rattle.promise.specs.Answers as answers
use Rattle.promise.specs.Rows.{row_at, row_count, job_rows, jobs_of, Field, the_number, the_work, the_deadline, the_bound, field_number, field_of, list_dues, least, greatest, field_fault, fields_fault, seen_before, seen_fault, row_fault, rows_fault, count_fault, length_fault, many_fault, list_fault}
use Rattle.promise.specs.Lists.{planned, plan_answer}
use Rattle.promise.specs.JobFile.{Group, File, numbers_of}
use Rattle.promise.specs.PlanText.{rows_answer}
use Rattle.promise.specs.TextClaims.{file_answer, FilesAreNoTwoNorSix}
use Rattle.promise.proofs.Ladder.{same_number}

-- four numbers in front are one row in front
row_behind : (a b c d : ℕ) (rows : List ℕ) (i : ℕ) → row_at (a ∷ b ∷ c ∷ d ∷ rows) (suc i) ≡ row_at rows i
unfolding row_at
row_behind a b c d rows i = rw (at (4 * suc i) (4 * i) (omega arith), at (4 * suc i + 1) (4 * i + 1) (omega arith), at (4 * suc i + 2) (4 * i + 2) (omega arith), at (4 * suc i + 3) (4 * i + 3) (omega arith)) refl
  where
    at : (m n : ℕ) → m ≡ suc (suc (suc (suc n))) → get_or (a ∷ b ∷ c ∷ d ∷ rows) m 0 ≡ get_or rows n 0
    at m n e = ap (λ (k : ℕ). get_or (a ∷ b ∷ c ∷ d ∷ rows) k 0) e

rows_behind : (a b c d : ℕ) (rows : List ℕ) (i n : ℕ) → job_rows (a ∷ b ∷ c ∷ d ∷ rows) (suc i) n ≡ job_rows rows i n
rows_behind a b c d rows i zero = refl
rows_behind a b c d rows i (suc n) = ap₂ (λ (j : Job) (js : List Job). j ∷ js) (row_behind a b c d rows i) (rows_behind a b c d rows (suc i) n)

pub numbers_length : (gs : List Group) → length (numbers_of gs) ≡ 4 * length gs
numbers_length [] = refl
numbers_length (g ∷ gs) = omega (arith, numbers_length gs)

pub file_rows : (gs : List Group) → row_count (numbers_of gs) ≡ length gs
unfolding row_count
file_rows gs = ap (λ (n : ℕ). n / 4) (numbers_length gs) ∙ mul-div_cancel_left (length gs) (omega arith)

all_jobs : (gs : List Group) → job_rows (numbers_of gs) 0 (length gs) ≡ map (λ (g : Group). g.job) gs
unfolding row_at
all_jobs [] = refl
all_jobs (g ∷ gs) =
    ap (λ (js : List Job). g.job ∷ js)
    (rows_behind g.job.number g.job.work g.job.deadline g.job.bound (numbers_of gs) 0 (length gs) ∙ all_jobs gs)

pub jobs_of_file : (gs : List Group) → jobs_of (numbers_of gs) ≡ map (λ (g : Group). g.job) gs
unfolding jobs_of
jobs_of_file gs = ap (job_rows (numbers_of gs) 0) (file_rows gs) ∙ all_jobs gs

-- the numbers are those of the jobs, whatever the labels
pub numbers_by_jobs : (gs hs : List Group) → map (λ (g : Group). g.job) gs ≡ map (λ (g : Group). g.job) hs → numbers_of gs ≡ numbers_of hs
numbers_by_jobs gs hs e = alone gs ∙ ap told e ∙ sym (alone hs)
  where
    told : List Job → List ℕ
    told [] = []
    told (j ∷ js) = j.number ∷ j.work ∷ j.deadline ∷ j.bound ∷ told js

    alone : (gs : List Group) → numbers_of gs ≡ told (map (λ (g : Group). g.job) gs)
    alone [] = refl
    alone (g ∷ gs) = ap (λ (ns : List ℕ). g.job.number ∷ g.job.work ∷ g.job.deadline ∷ g.job.bound ∷ ns) (alone gs)

-- the answer for a file is the one for its rows
pub file_answer_lem : (f : File) → file_answer f ≡ rows_answer f.machines (numbers_of f.groups)
unfolding rows_answer
file_answer_lem f = ap (λ (n : ℕ). plan_answer f.machines (numbers_of f.groups) (168 * n)) (sym (file_rows f.groups))

-- neither 2 nor 6
record Other (a : Answer) : Type 0 where
  two : a.number ≢ 2
  six : a.number ≢ 6

other_first : (a b : Answer) → Other a → Other b → Other (first a b)
other_first a b h k = go (eqb a.number 0)
  where
    go : (t : Bool) → Other (cond t b a)
    go true = k
    go false = h

other_yes : Other answers.yes
other_yes = record { two = λ e. absurd (omega arith); six = λ e. absurd (omega arith) }

other_fault : (t : Bool) (n place amount : ℕ) → n ≢ 2 → n ≢ 6 → Other (fault t (refusal n place amount))
other_fault true n place amount h k = record { two = h; six = k }
other_fault false n place amount h k = other_yes

other_field : (i : ℕ) (f : Field) (j : Job) → Other (field_fault list_dues i f j)
unfolding field_fault
other_field i f j = other_fault (ltb (field_of f j) (least list_dues f) || ltb (greatest list_dues f) (field_of f j)) 4 i (field_number f) (omega arith) (omega arith)

other_fields : (i : ℕ) (j : Job) → Other (fields_fault list_dues i j)
unfolding fields_fault
other_fields i j =
    other_first _ _ (other_field i the_number j)
    (other_first _ _ (other_field i the_work j) (other_first _ _ (other_field i the_deadline j) (other_field i the_bound j)))

other_seen : (rows : List ℕ) (i : ℕ) → Other (seen_fault rows i)
unfolding seen_fault
other_seen rows i = other_fault (seen_before rows (row_at rows i).number i) 5 i 0 (omega arith) (omega arith)

other_row : (rows : List ℕ) (i : ℕ) → Other (row_fault rows i)
unfolding row_fault
other_row rows i = other_first _ _ (other_fields i (row_at rows i)) (other_seen rows i)

other_rows : (rows : List ℕ) (i n : ℕ) → Other (rows_fault rows i n)
other_rows rows i zero = other_yes
other_rows rows i (suc n) = other_first _ _ (other_row rows i) (other_rows rows (suc i) n)

other_length : (rows : List ℕ) → length rows % 4 ≡ 0 → Other (length_fault rows)
unfolding length_fault
other_length rows e = rw (eq-eqb (length rows % 4) 0 e) other_yes

other_list : (machines : ℕ) (rows : List ℕ) → length rows % 4 ≡ 0 → Other (list_fault machines rows)
unfolding list_fault count_fault many_fault
other_list machines rows e =
    other_first (count_fault machines) (first (length_fault rows) (first (many_fault rows) (rows_fault rows 0 (row_count rows))))
    (other_fault (ltb machines 1 || ltb 64 machines) 1 0 0 (omega arith) (omega arith))
    (other_first (length_fault rows) (first (many_fault rows) (rows_fault rows 0 (row_count rows))) (other_length rows e)
    (other_first (many_fault rows) (rows_fault rows 0 (row_count rows)) (other_fault (ltb 32 (row_count rows)) 3 0 0 (omega arith) (omega arith))
    (other_rows rows 0 (row_count rows))))

other_fit : (o : Option Short) → Other (fit_answer o)
other_fit none = other_yes
other_fit (some s) = record { two = λ e. absurd (omega arith); six = λ e. absurd (omega arith) }

other_answer : (machines : ℕ) (rows : List ℕ) → length rows % 4 ≡ 0 → Other (rows_answer machines rows)
unfolding rows_answer plan_answer
other_answer machines rows e =
    rw (le-ltb (168 * row_count rows) (168 * row_count rows) (omega arith))
    (other_first (list_fault machines rows) (fit_answer (least_short machines (planned machines rows))) (other_list machines rows e)
    (other_fit (least_short machines (planned machines rows))))

pub files_are_no_two_nor_six : FilesAreNoTwoNorSix
files_are_no_two_nor_six f =
    let o = other_answer f.machines (numbers_of f.groups) (omega (arith, numbers_length f.groups)) in
    ((λ e. o.two (sym (same_number (file_answer_lem f)) ∙ e)), λ e. o.six (sym (same_number (file_answer_lem f)) ∙ e))
