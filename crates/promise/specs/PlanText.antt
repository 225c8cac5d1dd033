-- 01, "The job file and the program": the text that is printed for any bytes.
use Rattle.std.specs.Prelude.{ℕ, suc, ◌*◌, ◌≡◌, cond, List, [], ◌∷◌, ◌++◌, ltb, eqb, length, get_or, drop}
use Rattle.model.specs.Jobs.{Job}
use Rattle.model.specs.Lists.{span}
use Rattle.model.specs.Rule.{plan, plan_rows}
use Rattle.promise.specs.declared.Answer.{Answer}
use Rattle.promise.specs.declared.Text.{Text}
use Rattle.promise.specs.declared.LineKind.TheVariants.{MachinesLine, JobLine}
use Rattle.promise.specs.Answers.{refusal}
use Rattle.promise.specs.Rows.{row_count, jobs_of}
use Rattle.promise.specs.Lists.{planned, plan_answer}
use Rattle.promise.specs.Texts.{ascii, padded, decimal, ended}
use Rattle.promise.specs.JobFile.{number_line, Said, bad, says, file_says}

-- "A refusal prints only `result=refused`, `code=`, `at=` and `amount=`, one a line."
unfoldable pub refusal_text : Answer → List ℕ
refusal_text a =
    ended (ascii "result=refused" ∷ (ascii "code=" ++ decimal a.number) ∷ (ascii "at=" ++ decimal a.place) ∷ (ascii "amount=" ++ decimal a.amount) ∷ [])

-- "its slot:machines pairs with machines above 0, slots rising": the machines from slot t on
unfoldable pub pair_text : ℕ → ℕ → List ℕ
pair_text t machines = decimal t ++ (ascii ":" ++ decimal machines)

abbrev pub pairs_from : ℕ → List ℕ → List (List ℕ)
pairs_from t [] = []
pairs_from t (m ∷ ms) = cond (ltb 0 m) (pair_text t m ∷ pairs_from (suc t) ms) (pairs_from (suc t) ms)

-- "commas between"
abbrev pub each_after_comma : List (List ℕ) → List ℕ
each_after_comma [] = []
each_after_comma (p ∷ ps) = ascii "," ++ (p ++ each_after_comma ps)

abbrev pub with_commas : List (List ℕ) → List ℕ
with_commas [] = []
with_commas (p ∷ ps) = p ++ each_after_comma ps

-- the run line of a job whose machines in slots 1, 2, .. are these
unfoldable pub run_line : List ℕ → List ℕ
run_line machines = ascii "run=" ++ with_commas (pairs_from 1 machines)

-- "for each job in file order its number and its slot:machines pairs"
abbrev pub jobs_lines : List Job → List (List ℕ) → List (List ℕ)
jobs_lines [] rows = []
jobs_lines (j ∷ js) [] = []
jobs_lines (j ∷ js) (row ∷ rows) = number_line JobLine j.number ∷ run_line row ∷ jobs_lines js rows

-- "it prints the machine count, the result, and for each job .."
unfoldable pub planned_text : ℕ → List ℕ → List ℕ
planned_text machines rows =
    ended (number_line MachinesLine machines ∷ ascii "result=plan" ∷ jobs_lines (jobs_of rows) (plan_rows machines (planned machines rows)))

-- the answer for the rows of a file: Plan's, with a buffer that is long enough
unfoldable pub rows_answer : ℕ → List ℕ → Answer
rows_answer machines rows = plan_answer machines rows (168 * row_count rows)

unfoldable pub rows_text : ℕ → List ℕ → List ℕ
rows_text machines rows =
    cond (eqb (rows_answer machines rows).number 0) (planned_text machines rows) (refusal_text (rows_answer machines rows))

-- "Order: 14, 13, then the plan's."
abbrev pub text_said : Said → List ℕ
text_said (bad ℓ) = refusal_text (refusal 13 ℓ 0)
text_said (says numbers) = rows_text (get_or numbers 0 0) (drop 1 numbers)

unfoldable pub plan_text : List ℕ → List ℕ
plan_text bytes = cond (ltb 4096 (length bytes)) (refusal_text (refusal 14 0 0)) (text_said (file_says bytes))

-- the promise of the text: its bytes, zeros after them, and how many there are
pub record TextPromise (bytes : List ℕ) (text : Text) : Type 0 where
  pub printed : text.bytes ≡ padded 40960 (plan_text bytes)
  pub counted : text.len ≡ length (plan_text bytes)

-- the machines of each slot, by job number, as the run line of that number: what row order and labels cannot change
unfoldable pub run_line_of : ℕ → List Job → ℕ → List ℕ
run_line_of machines jobs n = run_line (span 1 168 (plan machines jobs n))

abbrev pub lines_by_number : ℕ → List Job → List Job → List (List ℕ)
lines_by_number machines jobs [] = []
lines_by_number machines jobs (j ∷ js) = number_line JobLine j.number ∷ run_line_of machines jobs j.number ∷ lines_by_number machines jobs js
