-- The lines of rows against the printed plan of a list, and the text of its refusal.
use Prim.Native.Nat.{ℕ, suc, ◌*◌, ◌/◌, ◌≤◌, ◌<◌}
use native.Mathlib.Omega.{arith}
use mathlib.Core.Path.{◌≡◌, refl, sym, ◌∙◌, ap}
use mathlib.Core.List.{List, [], ◌∷◌, ◌++◌, map, flatten, append_assoc, append-nil}
use lib.ListN.{length, get_or, take, drop, set, replicate, length-map, length-append, get_or-append}
use lib.Seq.{take_at, drop_at, drop-drop, get_or-drop}
use Rattle.std.proofs.lemmas.List.{drop-replicate}
use borrow.Author.Tests.{le-ltb, eq-eqb}
use Rattle.model.specs.Lists.{All, span}
use Rattle.model.specs.Jobs.{Job, counted}
use Rattle.model.specs.Rule.{plan, plan_rows}
use Rattle.model.proofs.Lists.{All-under, All-of}
use Rattle.model.proofs.Rows.{rows_are_the_plan}
use Rattle.promise.proofs.Refusals.{no_yes}
use Rattle.promise.specs.declared.LineKind.TheVariants.{MachinesLine, JobLine}
use Rattle.promise.specs.declared.Refusal.{Refusal}
use Rattle.std.proofs.Common.{Ok, Err, length-take}
use Rattle.promise.specs.Refusals.{numbered}
use Rattle.promise.specs.Answers as answers
use Rattle.promise.specs.Answers.{refusal, fault, first, fit_answer}
use Rattle.promise.specs.Rows.{row_at, row_count, job_rows, jobs_of}
use Rattle.promise.specs.Lists.{planned, plan_answer, written, plan_buffer}
use Rattle.promise.specs.Texts.{ascii, newline, ended}
use Rattle.promise.specs.JobFile.{number_line}
use Rattle.promise.specs.PlanText.{refusal_text, run_line, jobs_lines, planned_text, rows_answer, rows_text}
use Rattle.promise.proofs.Ladder.{same_number}
use Rattle.promise.proofs.Sound.{planned_distinct, planned_deadlines, yes_passes}
use Rattle.promise.proofs.Buffer.{span_length}
use Rattle.promise.proofs.FileOrder.{jobs_length}
use Rattle.promise.proofs.Printing.{refused_text, planned_text_lem}
use Rattle.plantext.specs.Rows.{job_lines, lines_of_first, rows_lines, plan_lines}

-- a row and its part of the buffer come first
pub next_lines : (row rows part buffer : List ℕ) → length row ≡ 4 → length part ≡ 168
    → rows_lines (row ++ rows) (part ++ buffer) ≡ job_lines (get_or row 0 0) part ++ rows_lines rows buffer
unfolding rows_lines row_count
next_lines row rows part buffer four slots =
    rw
    (one_more, get_or-append row rows 0 0 (omega arith), take_at part buffer 168 slots, drop_at row rows 4 four, drop_at part buffer 168 slots)
    refl
  where
    one_more : length (row ++ rows) / 4 ≡ suc (length rows / 4)
    one_more = omega (arith, length-append row rows)

-- no row is left
pub no_row_lines : (rows buffer : List ℕ) → length rows < 4 → rows_lines rows buffer ≡ []
unfolding rows_lines row_count
no_row_lines rows buffer few = let none : length rows / 4 ≡ 0 = omega arith in rw none refl

-- or no part of the buffer
pub no_part_lines : (rows buffer : List ℕ) → length buffer < 168 → 168 * row_count rows ≤ length buffer → rows_lines rows buffer ≡ []
unfolding rows_lines row_count
no_part_lines rows buffer few long = let none : length rows / 4 ≡ 0 = omega arith in rw none refl

pub ruleset rows_laws = (next_lines, no_row_lines, no_part_lines, append_assoc, append-nil, length-append)

-- the lines of rows are those of the jobs, where the rows of the plan stand one after the other
two_lines : (a b c : List ℕ) → ((a ++ (newline ∷ [])) ++ (b ++ (newline ∷ []))) ++ c ≡ a ++ (newline ∷ (b ++ (newline ∷ c)))
two_lines a b c =
    append_assoc (a ++ (newline ∷ [])) (b ++ (newline ∷ [])) c
    ∙ append_assoc a (newline ∷ []) ((b ++ (newline ∷ [])) ++ c)
    ∙ ap (λ (x : List ℕ). a ++ (newline ∷ x)) (append_assoc b (newline ∷ []) c)

lines_of_rows : (rows : List ℕ) (i : ℕ) (rs : List (List ℕ)) (tail : List ℕ) → All (λ r. length r ≡ 168) rs
    → lines_of_first (length rs) (drop (4 * i) rows) (flatten rs ++ tail) ≡ ended (jobs_lines (job_rows rows i (length rs)) rs)
unfolding flatten job_lines row_at
lines_of_rows rows i [] tail h = refl
lines_of_rows rows i (r ∷ rs) tail h =
    rw (append_assoc r (flatten rs) tail, take_at r (flatten rs ++ tail) 168 h.0, drop_at r (flatten rs ++ tail) 168 h.0, next, number)
    (two_lines (number_line JobLine (get_or rows (4 * i) 0)) (run_line r) (lines_of_first (length rs) (drop (4 * suc i) rows) (flatten rs ++ tail))
    ∙ ap (λ (more : List ℕ). number_line JobLine (get_or rows (4 * i) 0) ++ (newline ∷ (run_line r ++ (newline ∷ more))))
    (lines_of_rows rows (suc i) rs tail h.1))
  where
    next : drop 4 (drop (4 * i) rows) ≡ drop (4 * suc i) rows
    next = drop-drop 4 (4 * i) rows ∙ ap (λ (n : ℕ). drop n rows) (omega arith)

    number : get_or (drop (4 * i) rows) 0 0 ≡ get_or rows (4 * i) 0
    number = get_or-drop (4 * i) rows 0 0 ∙ ap (λ (n : ℕ). get_or rows n 0) (omega arith)

lines_of_count : (rows tail : List ℕ) (rs : List (List ℕ)) (n : ℕ) → length rs ≡ n → All (λ r. length r ≡ 168) rs
    → lines_of_first n rows (flatten rs ++ tail) ≡ ended (jobs_lines (job_rows rows 0 n) rs)
lines_of_count rows tail rs n e h = rw (← e) (lines_of_rows rows 0 rs tail h)

-- what the planner wrote, printed
module _ (machines : ℕ) (rows lent : List ℕ) (z : (plan_answer machines rows (length lent)).number ≡ 0) where
  all_spans : plan_rows machines (planned machines rows) ≡ map (λ (j : Job). span 1 168 (plan machines (planned machines rows) j.number)) (planned machines rows)
  all_spans =
      let h = yes_passes machines rows (length lent) z in
      rows_are_the_plan machines (planned machines rows) (planned_distinct machines rows h) (planned_deadlines machines rows h)

  all_168 : All (λ r. length r ≡ 168) (plan_rows machines (planned machines rows))
  all_168 =
      rw all_spans
      (All-under (λ (j : Job). span 1 168 (plan machines (planned machines rows) j.number)) (λ r. length r ≡ 168) (planned machines rows)
      (All-of (λ (j : Job). span_length (plan machines (planned machines rows) j.number) 1 168) (planned machines rows)))

  row_each : length (plan_rows machines (planned machines rows)) ≡ row_count rows
  unfolding planned counted
  row_each = ap (λ (rs : List (List ℕ)). length rs) all_spans ∙ length-map (planned machines rows) _ ∙ length-map (jobs_of rows) _ ∙ jobs_length rows

  plan_printed : plan_lines machines rows (plan_buffer machines rows lent) ≡ planned_text machines rows
  unfolding plan_lines rows_lines planned_text plan_buffer written jobs_of
  plan_printed =
      rw (eq-eqb (plan_answer machines rows (length lent)).number 0 z)
      (append_assoc (number_line MachinesLine machines ++ (newline ∷ [])) (ascii "result=plan\n") _
      ∙ append_assoc (number_line MachinesLine machines) (newline ∷ []) _
      ∙ ap (λ (more : List ℕ). number_line MachinesLine machines ++ (newline ∷ (ascii "result=plan\n" ++ more)))
      (lines_of_count rows (drop (168 * row_count rows) lent) (plan_rows machines (planned machines rows)) (row_count rows) row_each all_168))

-- a buffer that is long enough plays no part in the answer
long_enough : (machines : ℕ) (rows : List ℕ) (size : ℕ) → 168 * row_count rows ≤ size → plan_answer machines rows size ≡ rows_answer machines rows
unfolding plan_answer rows_answer
long_enough machines rows size l = rw (le-ltb size (168 * row_count rows) l, le-ltb (168 * row_count rows) (168 * row_count rows) (omega arith)) refl

-- no refusal is a yes
-- what the planner answered and left in a buffer for 32 rows
pub list_refused : (machines : ℕ) (rows : List ℕ) (e : Refusal) → row_count rows ≤ 32 → numbered e ≡ plan_answer machines rows 5376
    → refusal_text (numbered e) ≡ rows_text machines rows
list_refused machines rows e few p =
    let same = p ∙ long_enough machines rows 5376 (omega arith) in
    ap refusal_text same ∙ sym (refused_text machines rows (λ z. no_yes e (same_number same ∙ z)))

pub list_planned : (machines : ℕ) (rows lent : List ℕ) → row_count rows ≤ 32 → length lent ≡ 5376 → answers.yes ≡ plan_answer machines rows (length lent)
    → plan_lines machines rows (plan_buffer machines rows lent) ≡ rows_text machines rows
list_planned machines rows lent few size p =
    plan_printed machines rows lent (same_number (sym p))
    ∙ sym (planned_text_lem machines rows (same_number (sym (p ∙ long_enough machines rows (length lent) (omega arith)))))

pub ruleset list_laws = (list_refused, list_planned)
