-- What the reader answered for some bytes, against the text of these bytes.
use Prim.Native.Nat.{ℕ, ◌*◌, ◌-◌, ◌/◌, ◌%◌, ◌≤◌, ◌<◌}
use native.Mathlib.Decide.{dec_lt, ℕ_discrete}
use native.Mathlib.Nat.{mul-div_cancel_left}
use native.Mathlib.Omega.{arith}
use mathlib.Core.Path.{◌≡◌, refl, sym, ◌∙◌, ap}
use mathlib.Core.Logic.{◌≢◌}
use mathlib.Core.Bool.{cond}
use lib.Dec.{ltb, eqb}
use mathlib.Core.List.{List, [], ◌∷◌, ◌++◌}
use lib.ListN.{length, take, replicate}
use lib.Seq.{take_all, take-append_seam}
use borrow.Author.Tests.{lt-ltb, le-ltb, eq-eqb, ne_eqb}
use Rattle.model.specs.Boundaries.{least_short}
use Rattle.promise.specs.declared.Answer.{Answer}
use Rattle.promise.specs.Records.{Reading}
use Rattle.promise.specs.declared.Refusal.{Refusal}
use Rattle.promise.specs.declared.JobFile.{JobFile}
use Rattle.std.proofs.Common.{Ok, Err, length-take}
use Rattle.promise.specs.Refusals.{numbered, as_reading}
use Rattle.promise.specs.Answers as answers
use Rattle.promise.specs.Answers.{refusal, fault, first, fit_answer}
use Rattle.promise.specs.Rows.{row_count, count_fault, length_fault, many_fault, list_fault}
use Rattle.promise.specs.Lists.{planned, plan_answer}
use Rattle.promise.specs.Texts.{padded}
use Rattle.promise.specs.JobFile.{Said, bad, says, file_says, numbers_of, reading_from, not_read, reading_said, reading_of}
use Rattle.promise.specs.PlanText.{refusal_text, rows_answer, rows_text, text_said, plan_text}
use Rattle.promise.proofs.Ladder.{same_number}
use Rattle.promise.proofs.FileRead.{says_file, said_good}
use Rattle.promise.proofs.FileJobs.{numbers_length}
use Rattle.promise.proofs.FileIsRead.{long_read, short_read}
use Rattle.promise.proofs.Printing.{long_text, short_text, refused_text}
use Rattle.promise.proofs.Refusals.{no_yes}

-- more than 32 rows: 1, then 3, whatever the rows are
first_stays : (a b c : Answer) → b.number ≢ 0 → ((first a b).number ≢ 0) × (first (first a b) c ≡ first a b)
first_stays a b c h = go (ℕ_discrete a.number 0)
  where
    go : Dec (a.number ≡ 0) → ((first a b).number ≢ 0) × (first (first a b) c ≡ first a b)
    go (yes e) = rw (eq-eqb a.number 0 e) (h, rw (ne_eqb b.number 0 h) refl)
    go (no k) = rw (ne_eqb a.number 0 k) (k, rw (ne_eqb a.number 0 k) refl)

-- what comes after the faults of the list in the answer for a file's rows
rows_tail : ℕ → List ℕ → Answer
rows_tail machines rows = first (fault (ltb (168 * row_count rows) (168 * row_count rows)) (refusal 6 0 0)) (fit_answer (least_short machines (planned machines rows)))

many_fault_lem : (machines : ℕ) (rows : List ℕ) → length rows % 4 ≡ 0 → 32 < row_count rows → list_fault machines rows ≡ first (count_fault machines) (refusal 3 0 0)
unfolding list_fault length_fault many_fault
many_fault_lem machines rows e l = rw (eq-eqb (length rows % 4) 0 e, lt-ltb 32 (row_count rows) l) refl

many_answer : (machines : ℕ) (rows : List ℕ) → length rows % 4 ≡ 0 → 32 < row_count rows
    → ((rows_answer machines rows).number ≢ 0) × (rows_answer machines rows ≡ first (count_fault machines) (refusal 3 0 0))
unfolding rows_answer plan_answer rows_tail
many_answer machines rows e l =
    let three = first_stays (count_fault machines) (refusal 3 0 0) (rows_tail machines rows) (omega arith) in
    let same : rows_answer machines rows ≡ first (count_fault machines) (refusal 3 0 0) =
    ap (λ (a : Answer). first a (rows_tail machines rows)) (many_fault_lem machines rows e l) ∙ three.1 in
    ((λ z. three.0 (sym (same_number same) ∙ z)), same)

-- the rows that are held are all the rows, where there are at most 32
held : (numbers : List ℕ) → length numbers ≤ 128 → take (length numbers) (padded 128 numbers) ≡ numbers
unfolding padded
held numbers l =
    ap (λ (xs : List ℕ). take (length numbers) (xs ++ replicate (128 - length numbers) 0)) (take_all 128 numbers l)
    ∙ take-append_seam numbers (replicate (128 - length numbers) 0)

-- the text of what the reader answered: more than 32 groups are a 3 after 1, before any row is looked at
unfoldable pub reading_text : Reading → List ℕ
reading_text r =
    cond (eqb r.answer.number 0)
    (cond (ltb 32 r.groups)
    (refusal_text (first (count_fault r.machines) (refusal 3 0 0)))
    (rows_text r.machines (take (4 * r.groups) r.rows)))
    (refusal_text r.answer)

-- the text of a file that was read
module _ (machines g : ℕ) (rows : List ℕ) (four : length rows ≡ 4 * g) where
  groups_read : (length (machines ∷ rows) - 1) / 4 ≡ g
  groups_read = let e : length (machines ∷ rows) - 1 ≡ 4 * g = omega arith in ap (λ (n : ℕ). n / 4) e ∙ mul-div_cancel_left g (omega arith)

  rows_read : row_count rows ≡ g
  unfolding row_count
  rows_read = ap (λ (n : ℕ). n / 4) four ∙ mul-div_cancel_left g (omega arith)

  many_printed : 32 < g → refusal_text (first (count_fault machines) (refusal 3 0 0)) ≡ rows_text machines rows
  many_printed l =
      let m = many_answer machines rows (omega arith) (omega (arith, rows_read)) in
      ap refusal_text (sym m.1) ∙ sym (refused_text machines rows m.0)

  few_printed : g ≤ 32 → rows_text machines (take (4 * g) (padded 128 rows)) ≡ rows_text machines rows
  few_printed l = ap (rows_text machines) (ap (λ (n : ℕ). take n (padded 128 rows)) (sym four) ∙ held rows (omega arith))

  read_printed : reading_text (reading_from (machines ∷ rows)) ≡ rows_text machines rows
  unfolding reading_text reading_from
  read_printed =
      ap
      (λ (k : ℕ). cond (ltb 32 k) (refusal_text (first (count_fault machines) (refusal 3 0 0))) (rows_text machines (take (4 * k) (padded 128 rows))))
      groups_read
      ∙ go (dec_lt 32 g)
    where
      go : Dec (32 < g)
          → cond (ltb 32 g) (refusal_text (first (count_fault machines) (refusal 3 0 0))) (rows_text machines (take (4 * g) (padded 128 rows)))
          ≡ rows_text machines rows
      go (yes l) = rw (lt-ltb 32 g l) (many_printed l)
      go (no h) = rw (le-ltb 32 g (omega arith)) (few_printed (omega arith))

numbers_in : Said → List ℕ
numbers_in (bad ℓ) = []
numbers_in (says ns) = ns

said_printed : (s : Said) (bytes : List ℕ) → file_says bytes ≡ s → reading_text (reading_said s) ≡ text_said s
unfolding reading_text not_read numbers_in
said_printed (bad ℓ) bytes e = refl
said_printed (says ns) bytes e =
    let good = said_good bytes ns e in
    let f = good.0 in
    let same : ns ≡ f.machines ∷ numbers_of f.groups =
    ap numbers_in (sym e ∙ ap file_says (sym good.2) ∙ says_file f good.1) in
    rw same (read_printed f.machines (length f.groups) (numbers_of f.groups) (numbers_length f.groups))

long : reading_text (not_read (refusal 14 0 0)) ≡ refusal_text (refusal 14 0 0)
unfolding reading_text not_read
long = refl

reading_printed : (bytes : List ℕ) → reading_text (reading_of bytes) ≡ plan_text bytes
reading_printed bytes = go (dec_lt 4096 (length bytes))
  where
    go : Dec (4096 < length bytes) → reading_text (reading_of bytes) ≡ plan_text bytes
    go (yes l) = ap reading_text (long_read bytes l) ∙ long ∙ sym (long_text bytes l)
    go (no h) = ap reading_text (short_read bytes (omega arith)) ∙ said_printed (file_says bytes) bytes refl ∙ sym (short_text bytes (omega arith))

-- what the reader answered, and the text: a refusal, more than 32 groups, or the rows that are held
pub not_read_text : (bytes : List ℕ) (e : Refusal) → as_reading (Err e) ≡ reading_of bytes → refusal_text (numbered e) ≡ plan_text bytes
unfolding reading_text
not_read_text bytes e p =
    let is : reading_text (as_reading (Err e)) ≡ refusal_text (numbered e) = rw (ne_eqb (numbered e).number 0 (no_yes e)) refl in
    sym is ∙ ap reading_text p ∙ reading_printed bytes

module _ (bytes : List ℕ) (file : JobFile) (p : as_reading (Ok file) ≡ reading_of bytes) where
  many_text : 32 < file.groups → refusal_text (first (count_fault file.machines) (refusal 3 0 0)) ≡ plan_text bytes
  unfolding reading_text
  many_text l =
      let is : reading_text (as_reading (Ok file)) ≡ refusal_text (first (count_fault file.machines) (refusal 3 0 0)) =
      rw (lt-ltb 32 file.groups l) refl in
      sym is ∙ ap reading_text p ∙ reading_printed bytes

  pub many_of_none_text : 32 < file.groups → (e : Refusal) → numbered e ≡ count_fault file.machines → refusal_text (numbered e) ≡ plan_text bytes
  many_of_none_text l e q =
      let is : first (numbered e) (refusal 3 0 0) ≡ numbered e = rw (ne_eqb (numbered e).number 0 (no_yes e)) refl in
      ap refusal_text (sym is ∙ ap (λ a. first a (refusal 3 0 0)) q) ∙ many_text l

  pub many_of_some_text : 32 < file.groups → answers.yes ≡ count_fault file.machines → refusal_text (refusal 3 0 0) ≡ plan_text bytes
  many_of_some_text l q = ap (λ a. refusal_text (first a (refusal 3 0 0))) q ∙ many_text l

  pub few_text : file.groups ≤ 32 → rows_text file.machines (take (4 * file.groups) file.rows) ≡ plan_text bytes
  unfolding reading_text
  few_text l =
      let is : reading_text (as_reading (Ok file)) ≡ rows_text file.machines (take (4 * file.groups) file.rows) =
      rw (le-ltb 32 file.groups l) refl in
      sym is ∙ ap reading_text p ∙ reading_printed bytes

pub few_rows : (groups : ℕ) (rows : List ℕ) → groups ≤ 32 → row_count (take (4 * groups) rows) ≤ 32
unfolding row_count
few_rows groups rows l = omega (arith, length-take (4 * groups) rows)

pub ruleset file_laws = (not_read_text, many_of_none_text, many_of_some_text, few_text, few_rows)
