-- The same jobs in another order: each number keeps its run line.
use Prim.Native.Nat.{ℕ, zero, suc, ◌+◌, ◌*◌, ◌%◌, ◌<◌}
use native.Mathlib.Omega.{arith}
use mathlib.Core.Path.{◌≡◌, refl, sym, ◌∙◌, ap, ap₂}
use mathlib.Core.Logic.{◌≢◌}
use mathlib.Core.List.{List, [], ◌∷◌}
use lib.ListN.{length, get_or, length-map}
use Rattle.model.specs.Lists.{total, All, Perm, Distinct, span}
use Rattle.model.specs.Jobs.{Job, numbers, counted}
use Rattle.model.specs.Rule.{plan}
use Rattle.model.specs.Boundaries.{least_short}
use Rattle.model.specs.Claims.{SameFigures}
use Rattle.model.proofs.Lists.{total_perm, perm_all, perm_map, perm_distinct}
use Rattle.model.proofs.Order.{order_plays_no_part}
use Rattle.promise.specs.declared.LineKind.TheVariants.{MachinesLine, JobLine}
use Rattle.promise.specs.Answers.{fit_answer}
use Rattle.promise.specs.Rows.{row_at, row_count, job_rows, jobs_of, Field, the_number, the_work, the_deadline, the_bound, list_dues, OutOfRange, list_fault, rows_tests, list_order}
use Rattle.promise.specs.Lists.{planned, Holds, answer_of, plan_answer}
use Rattle.promise.specs.Texts.{ascii, ended}
use Rattle.promise.specs.JobFile.{number_line, file_text, numbers_of}
use Rattle.promise.specs.PlanText.{rows_answer, run_line, run_line_of, lines_by_number}
use Rattle.promise.specs.TextClaims.{file_jobs, printed_plan, FileOrderPlaysNoPart}
use Rattle.promise.proofs.Ladder.{same_number, none_holds}
use Rattle.promise.proofs.Table.{gives_list}
use Rattle.promise.proofs.Sound.{Passes, planned_numbers, planned_distinct, answers_fit, yes_passes, few_rows}
use Rattle.promise.proofs.Buffer.{numbers_length, numbers_at}
use Rattle.promise.proofs.FileJobs.{file_answer_lem, jobs_of_file, numbers_length as file-length}
use Rattle.promise.proofs.Printing.{text_is_printed}

-- two places of distinct numbers
distinct_at : (ns : List ℕ) → Distinct ns → (k i : ℕ) → k < i → i < length ns → get_or ns k 0 ≢ get_or ns i 0
distinct_at [] d k i h l = absurd (omega arith)
distinct_at (n ∷ ns) d zero zero h l = absurd (omega arith)
distinct_at (n ∷ ns) d zero (suc i) h l = other ns d.0 i (omega arith)
  where
    other : (ms : List ℕ) → All (λ m. n ≢ m) ms → (i : ℕ) → i < length ms → n ≢ get_or ms i 0
    other [] a i l = absurd (omega arith)
    other (m ∷ ms) a zero l = a.0
    other (m ∷ ms) a (suc i) l = other ms a.1 i (omega arith)
distinct_at (n ∷ ns) d (suc k) zero h l = absurd (omega arith)
distinct_at (n ∷ ns) d (suc k) (suc i) h l = distinct_at ns d.1 k i (omega arith) (omega arith)

perm_length : {A : Type 0} {xs ys : List A} → Perm xs ys → length xs ≡ length ys
perm_length {A} {xs} {ys} p = ones xs ∙ total_perm (λ x. 1) p ∙ sym (ones ys)
  where
    ones : (zs : List A) → length zs ≡ total (λ x. 1) zs
    ones [] = refl
    ones (x ∷ zs) = omega (arith, ones zs)

pub jobs_length : (rows : List ℕ) → length (jobs_of rows) ≡ row_count rows
unfolding jobs_of
jobs_length rows = sym (length-map (jobs_of rows) (λ (j : Job). j.number)) ∙ numbers_length rows 0 (row_count rows)

-- every field of a job is in range
abbrev pub Right : Job → Type 0
Right j = (f : Field) → ¬ OutOfRange list_dues f j

module _ (machines : ℕ) (rows : List ℕ) where
  pub rows_right : (i n : ℕ) → Passes machines rows (rows_tests i n) → All Right (job_rows rows i n)
  rows_right i zero h = tt
  rows_right i (suc n) h = (right, rows_right (suc i) n h.1.1.1.1.1)
    where
      right : Right (row_at rows i)
      right the_number = h.0
      right the_work = h.1.0
      right the_deadline = h.1.1.0
      right the_bound = h.1.1.1.0

  -- and back, where no number stands twice
  module _ (d : Distinct (numbers (jobs_of rows))) where
    unseen : (i : ℕ) → i < row_count rows → (k : ℕ) → k < i → (row_at rows k).number ≢ (row_at rows i).number
    unfolding jobs_of
    unseen i l k h e =
        distinct_at (numbers (jobs_of rows)) d k i h (omega (arith, numbers_length rows 0 (row_count rows)))
        (numbers_at rows 0 (row_count rows) k (omega arith)
        ∙ ap (λ (m : ℕ). (row_at rows m).number) (zero_add k)
        ∙ e
        ∙ sym (ap (λ (m : ℕ). (row_at rows m).number) (zero_add i))
        ∙ sym (numbers_at rows 0 (row_count rows) i l))
      where
        zero_add : (n : ℕ) → 0 + n ≡ n
        zero_add n = omega arith

    rows_pass_again : (i n : ℕ) → i + n ≡ row_count rows → All Right (job_rows rows i n) → Passes machines rows (rows_tests i n)
    rows_pass_again i zero e h = tt
    rows_pass_again i (suc n) e h =
        (h.0 the_number, (h.0 the_work, (h.0 the_deadline, (h.0 the_bound, ((λ s. unseen i (omega arith) s.0 s.1 s.2), rows_pass_again (suc i) n (omega arith) h.1)))))

span_same : (x y : ℕ → ℕ) → ((t : ℕ) → x t ≡ y t) → (t n : ℕ) → span t n x ≡ span t n y
span_same x y e t zero = refl
span_same x y e t (suc n) = ap₂ (λ (m : ℕ) (ms : List ℕ). m ∷ ms) (e t) (span_same x y e (suc t) n)

lines_same : (machines : ℕ) (among among' : List Job) → ((n t : ℕ) → plan machines among n t ≡ plan machines among' n t)
    → (jobs : List Job) → lines_by_number machines among jobs ≡ lines_by_number machines among' jobs
unfolding run_line_of
lines_same machines among among' e [] = refl
lines_same machines among among' e (j ∷ jobs) =
    ap₂ (λ (r : List ℕ) (ls : List (List ℕ)). number_line JobLine j.number ∷ run_line r ∷ ls)
    (span_same (plan machines among j.number) (plan machines among' j.number) (e j.number) 1 168)
    (lines_same machines among among' e jobs)

-- two lists of the same jobs: if the one is planned, so is the other
module _ (machines : ℕ) (rows rows' : List ℕ) (p : Perm (jobs_of rows) (jobs_of rows')) (z : (rows_answer machines rows).number ≡ 0) where
  passes : Passes machines rows (list_order rows)
  unfolding rows_answer
  passes = yes_passes machines rows (168 * row_count rows) z

  same : SameFigures machines (planned machines rows) (planned machines rows')
  unfolding planned counted
  same = order_plays_no_part machines (planned machines rows) (planned machines rows') (perm_map _ p) (planned_distinct machines rows passes)

  count_same : length (jobs_of rows) ≡ length (jobs_of rows')
  count_same = perm_length p

  passes_again : length rows' % 4 ≡ 0 → Passes machines rows' (list_order rows')
  unfolding list_order jobs_of
  passes_again e =
      let d : Distinct (numbers (jobs_of rows')) = perm_distinct (perm_map (λ (j : Job). j.number) p) (rw (← planned_numbers machines rows) (planned_distinct machines rows passes)) in
      let right : All Right (jobs_of rows') = perm_all Right p (rows_right machines rows 0 (row_count rows) passes.1.1.1) in
      let few = few_rows machines rows passes in
      let rows-many = jobs_length rows in
      let rows-many' = jobs_length rows' in (
        passes.0,
        ((λ h. h e), ((λ (h : 32 < row_count rows'). absurd (omega (arith, count_same))), rows_pass_again machines rows' d 0 (row_count rows') (omega arith) right)),
      )

  planned_again : length rows' % 4 ≡ 0 → (rows_answer machines rows').number ≡ 0
  unfolding rows_answer
  planned_again e = same_number (answer rows' (passes_again e)) ∙ same_number (ap fit_answer (sym same.least_short_lem)) ∙ sym (same_number (answer rows passes)) ∙ z
    where
      answer : (rs : List ℕ) → Passes machines rs (list_order rs) → plan_answer machines rs (168 * row_count rs) ≡ fit_answer (least_short machines (planned machines rs))
      answer rs h =
          answers_fit machines rs (168 * row_count rs)
          (none_holds (Holds machines rs) (answer_of machines rs) (list_order rs) (list_fault machines rs) (gives_list machines rs) h) (omega arith)

pub file_order_plays_no_part : FileOrderPlaysNoPart
unfolding planned
file_order_plays_no_part f g t u m p l k z =
    (text_is_printed (file_text g)).planned k g u refl (same_number (file_answer_lem g) ∙ rw (← m) planned_too)
    ∙ ap (λ (c : ℕ). printed_plan c (file_jobs g) (file_jobs g)) (sym m)
    ∙ ap (λ (ls : List (List ℕ)). ended (number_line MachinesLine f.machines ∷ ascii "result=plan" ∷ ls))
    (lines_same f.machines (counted f.machines (file_jobs g)) (counted f.machines (file_jobs f)) plans (file_jobs g))
  where
    rows : List ℕ
    rows = numbers_of f.groups

    rows' : List ℕ
    rows' = numbers_of g.groups

    answered : (rows_answer f.machines rows).number ≡ 0
    answered = sym (same_number (file_answer_lem f)) ∙ z

    listed : Perm (jobs_of rows) (jobs_of rows')
    listed = rw (jobs_of_file f.groups, jobs_of_file g.groups) p

    planned_too : (rows_answer f.machines rows').number ≡ 0
    planned_too = planned_again f.machines rows rows' listed answered (omega (arith, file-length g.groups))

    plans : (n t : ℕ) → plan f.machines (counted f.machines (file_jobs g)) n t ≡ plan f.machines (counted f.machines (file_jobs f)) n t
    plans n t =
        ap (λ (js : List Job). plan f.machines (counted f.machines js) n t) (sym (jobs_of_file g.groups))
        ∙ sym ((same f.machines rows rows' listed answered).machines n t)
        ∙ ap (λ (js : List Job). plan f.machines (counted f.machines js) n t) (jobs_of_file f.groups)
