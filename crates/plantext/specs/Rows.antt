-- The lines of rows whose plan stands in a buffer.
use Rattle.std.specs.Prelude.{ℕ, zero, suc, ◌∷◌, ◌++◌, [], List, get_or, take, drop}
use Rattle.promise.specs.declared.LineKind.TheVariants.{MachinesLine, JobLine}
use Rattle.promise.specs.Rows.{row_count}
use Rattle.promise.specs.Texts.{ascii, newline}
use Rattle.promise.specs.JobFile.{number_line}
use Rattle.promise.specs.PlanText.{run_line}

-- the two lines of a job: its number, and its machines in slots 1, 2, ..
unfoldable pub job_lines : ℕ → List ℕ → List ℕ
job_lines number machines = (number_line JobLine number ++ (newline ∷ [])) ++ (run_line machines ++ (newline ∷ []))

-- the lines of the first n rows, four numbers to a row and 168 to its part of the plan
abbrev pub lines_of_first : ℕ → List ℕ → List ℕ → List ℕ
lines_of_first zero rows plan = []
lines_of_first (suc n) rows plan = job_lines (get_or rows 0 0) (take 168 plan) ++ lines_of_first n (drop 4 rows) (drop 168 plan)

-- the lines of all rows
unfoldable pub rows_lines : List ℕ → List ℕ → List ℕ
rows_lines rows plan = lines_of_first (row_count rows) rows plan

-- the machine count, the result and the rows
unfoldable pub plan_lines : ℕ → List ℕ → List ℕ → List ℕ
plan_lines machines rows plan = ((number_line MachinesLine machines ++ (newline ∷ [])) ++ ascii "result=plan\n") ++ rows_lines rows plan
