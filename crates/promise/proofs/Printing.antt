-- T: the printed text of any bytes.
use Prim.Native.Nat.{ℕ, zero, suc, ◌+◌, ◌*◌, ◌≤◌, ◌<◌}
use native.Mathlib.Decide.{ℕ_discrete}
use native.Mathlib.Omega.{arith}
use mathlib.Core.Path.{◌≡◌, refl, sym, ◌∙◌, ap, ap₂}
use mathlib.Core.Logic.{◌≢◌}
use mathlib.Core.Bool.{Bool, true, false, cond}
use mathlib.Core.List.{List, [], ◌∷◌, map, Memᴰ}
use lib.Dec.{ltb}
use lib.ListN.{length}
use borrow.Author.Tests.{lt-ltb, le-ltb, eq-eqb, ne_eqb, ltb-true, ltb-false}
use Rattle.model.specs.Lists.{Rising, span}
use Rattle.model.specs.Jobs.{Job, counted}
use Rattle.model.specs.Rule.{plan, plan_rows}
use Rattle.model.proofs.Lists.{All-mem}
use Rattle.model.proofs.Rows.{rows_are_the_plan}
use Rattle.promise.specs.declared.LineKind.TheVariants.{MachinesLine, JobLine}
use Rattle.promise.specs.Answers.{refusal}
use Rattle.promise.specs.Rows.{row_count, jobs_of, list_order}
use Rattle.promise.specs.Lists.{planned}
use Rattle.promise.specs.Texts.{ascii, ended}
use Rattle.promise.specs.JobFile.{number_line, File, file_text, Typed, file_says, numbers_of}
use Rattle.promise.specs.PlanText.{refusal_text, pair_text, pairs_from, run_line, jobs_lines, planned_text, rows_answer, rows_text, text_said, plan_text, run_line_of, lines_by_number}
use Rattle.promise.specs.TextClaims.{printed_plan, TextIsPrinted, PairsAreTheSlotsInUse, LabelsPlayNoPart}
use Rattle.promise.proofs.Ladder.{same_number}
use Rattle.promise.proofs.Sound.{Passes, planned_distinct, planned_deadlines, yes_passes}
use Rattle.promise.proofs.FileRead.{says_file, bad_said}
use Rattle.promise.proofs.FileJobs.{file_answer_lem, jobs_of_file, numbers_by_jobs}

-- a text that is not too long
pub short_text : (bytes : List ℕ) → length bytes ≤ 4096 → plan_text bytes ≡ text_said (file_says bytes)
unfolding plan_text
short_text bytes l = rw (le-ltb 4096 (length bytes) l) refl

pub long_text : (bytes : List ℕ) → 4096 < length bytes → plan_text bytes ≡ refusal_text (refusal 14 0 0)
unfolding plan_text
long_text bytes l = rw (lt-ltb 4096 (length bytes) l) refl

-- the text of a file is that of its rows
pub file_text_lem : (f : File) → Typed f → (bytes : List ℕ) → length bytes ≤ 4096 → file_text f ≡ bytes
    → plan_text bytes ≡ rows_text f.machines (numbers_of f.groups)
file_text_lem f t bytes l e = short_text bytes l ∙ ap text_said (ap file_says (sym e) ∙ says_file f t)

pub refused_text : (machines : ℕ) (rows : List ℕ) → (rows_answer machines rows).number ≢ 0 → rows_text machines rows ≡ refusal_text (rows_answer machines rows)
unfolding rows_text
refused_text machines rows h = rw (ne_eqb (rows_answer machines rows).number 0 h) refl

pub planned_text_lem : (machines : ℕ) (rows : List ℕ) → (rows_answer machines rows).number ≡ 0 → rows_text machines rows ≡ planned_text machines rows
unfolding rows_text
planned_text_lem machines rows h = rw (eq-eqb (rows_answer machines rows).number 0 h) refl

-- the lines of rows that stand one for each job, as they count
lines_match : (machines : ℕ) (among jobs : List Job)
    → jobs_lines jobs (map (λ (j : Job). span 1 168 (plan machines among j.number)) (counted machines jobs)) ≡ lines_by_number machines among jobs
unfolding run_line_of counted
lines_match machines among [] = refl
lines_match machines among (j ∷ jobs) =
    ap (λ (ls : List (List ℕ)). number_line JobLine j.number ∷ run_line (span 1 168 (plan machines among j.number)) ∷ ls)
    (lines_match machines among jobs)

lines_planned : (machines : ℕ) (rows : List ℕ) → Passes machines rows (list_order rows)
    → jobs_lines (jobs_of rows) (plan_rows machines (planned machines rows)) ≡ lines_by_number machines (planned machines rows) (jobs_of rows)
unfolding planned
lines_planned machines rows h =
    ap (jobs_lines (jobs_of rows)) (rows_are_the_plan machines (planned machines rows) (planned_distinct machines rows h) (planned_deadlines machines rows h))
    ∙ lines_match machines (counted machines (jobs_of rows)) (jobs_of rows)

-- what is printed for a list that is planned
pub printed_rows : (machines : ℕ) (rows : List ℕ) → (rows_answer machines rows).number ≡ 0
    → planned_text machines rows ≡ printed_plan machines (jobs_of rows) (jobs_of rows)
unfolding planned_text rows_answer planned
printed_rows machines rows e =
    ap (λ (ls : List (List ℕ)). ended (number_line MachinesLine machines ∷ ascii "result=plan" ∷ ls))
    (lines_planned machines rows (yes_passes machines rows (168 * row_count rows) e))

pub text_is_printed : TextIsPrinted
text_is_printed bytes = record {
  too_long = long_text bytes;
  bad_line = λ l ℓ b. short_text bytes l ∙ ap text_said (bad_said bytes ℓ b);
  refused = λ l f t e n.
      file_text_lem f t bytes l e
      ∙ refused_text f.machines (numbers_of f.groups) (λ z. n (same_number (file_answer_lem f) ∙ z))
      ∙ ap refusal_text (sym (file_answer_lem f));
  planned = λ l f t e z.
      let y = sym (same_number (file_answer_lem f)) ∙ z in
      file_text_lem f t bytes l e
      ∙ planned_text_lem f.machines (numbers_of f.groups) y
      ∙ printed_rows f.machines (numbers_of f.groups) y
      ∙ ap (λ (js : List Job). printed_plan f.machines js js) (jobs_of_file f.groups);
}

pub labels_play_no_part : LabelsPlayNoPart
labels_play_no_part f g t u m e l k =
    file_text_lem f t (file_text f) l refl
    ∙ ap₂ rows_text m (numbers_by_jobs f.groups g.groups e)
    ∙ sym (file_text_lem g u (file_text g) k refl)

-- the slots from t on, n of them, with machines above 0
module _ (machines : ℕ → ℕ) where
  abbrev slots_in_use : ℕ → ℕ → List ℕ
  slots_in_use t zero = []
  slots_in_use t (suc n) = cond (ltb 0 (machines t)) (t ∷ slots_in_use (suc t) n) (slots_in_use (suc t) n)

  abbrev InUse : ℕ → ℕ → ℕ → Type 0
  InUse t n s = (t ≤ s) × (s < t + n) × (0 < machines s)

  -- each is one of them
  in_use : (t n s : ℕ) → Memᴰ s (slots_in_use t n) → InUse t n s
  in_use t zero s = elim [ ]
  in_use t (suc n) s = go (ltb 0 (machines t)) refl (in_use (suc t) n s)
    where
      go : (b : Bool) → ltb 0 (machines t) ≡ b → (Memᴰ s (slots_in_use (suc t) n) → InUse (suc t) n s)
          → Memᴰ s (cond b (t ∷ slots_in_use (suc t) n) (slots_in_use (suc t) n)) → InUse t (suc n) s
      go true e later (Memᴰ.head f) = rw f (omega arith, omega arith, ltb-true 0 (machines t) e)
      go true e later (Memᴰ.tail m) = let u = later m in (omega arith, omega arith, u.2)
      go false e later m = let u = later m in (omega arith, omega arith, u.2)

  -- and each of them is in
  is_listed : (t n s : ℕ) → InUse t n s → Memᴰ s (slots_in_use t n)
  is_listed t zero s h = absurd (omega arith)
  is_listed t (suc n) s h = go (ltb 0 (machines t)) refl (ℕ_discrete s t) (λ k. is_listed (suc t) n s (omega arith, omega arith, h.2))
    where
      go : (b : Bool) → ltb 0 (machines t) ≡ b → Dec (s ≡ t) → (s ≢ t → Memᴰ s (slots_in_use (suc t) n))
          → Memᴰ s (cond b (t ∷ slots_in_use (suc t) n) (slots_in_use (suc t) n))
      go true e (yes f) later = Memᴰ.head f
      go true e (no k) later = Memᴰ.tail (later k)
      go false e (yes f) later = absurd (omega (arith, ltb-false 0 (machines t) e, ap machines f, h.2))
      go false e (no k) later = later k

  rising : (t n : ℕ) → Rising (slots_in_use t n)
  rising t zero = tt
  rising t (suc n) = go (ltb 0 (machines t)) (rising (suc t) n)
    where
      go : (b : Bool) → Rising (slots_in_use (suc t) n) → Rising (cond b (t ∷ slots_in_use (suc t) n) (slots_in_use (suc t) n))
      go true r = (All-mem (slots_in_use (suc t) n) (λ s m. let u = in_use (suc t) n s m in omega arith), r)
      go false r = r

  pairs_in_use : (t n : ℕ) → pairs_from t (span t n machines) ≡ map (λ s. pair_text s (machines s)) (slots_in_use t n)
  pairs_in_use t zero = refl
  pairs_in_use t (suc n) = go (ltb 0 (machines t)) (pairs_in_use (suc t) n)
    where
      go : (b : Bool) → pairs_from (suc t) (span (suc t) n machines) ≡ map (λ s. pair_text s (machines s)) (slots_in_use (suc t) n)
          → cond b (pair_text t (machines t) ∷ pairs_from (suc t) (span (suc t) n machines)) (pairs_from (suc t) (span (suc t) n machines))
          ≡ map (λ s. pair_text s (machines s)) (cond b (t ∷ slots_in_use (suc t) n) (slots_in_use (suc t) n))
      go true e = ap (λ (ps : List (List ℕ)). pair_text t (machines t) ∷ ps) e
      go false e = e

pub pairs_are_the_slots_in_use : PairsAreTheSlotsInUse
pairs_are_the_slots_in_use machines = (
  slots_in_use machines 1 168,
  rising machines 1 168,
  (λ t. ((λ m. let u = in_use machines 1 168 t m in (u.0, omega arith, u.2)), λ u. is_listed machines 1 168 t (u.0, omega arith, u.2))),
  pairs_in_use machines 1 168,
)
