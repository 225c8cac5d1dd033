-- The longest text fits: 32 jobs, each with a pair for all 168 slots, need less than 40,960 bytes.
use Prim.Native.Nat.{ℕ, zero, suc, ◌+◌, ◌*◌, ◌-◌, ◌≤◌, ◌<◌}
use native.Mathlib.Decide.{dec_lt, ℕ_discrete}
use native.Mathlib.Omega.{arith}
use mathlib.Core.Path.{◌≡◌, refl, sym, ◌∙◌, ap, subst}
use mathlib.Core.Logic.{inr}
use mathlib.Core.Bool.{Bool, true, false, cond}
use mathlib.Core.List.{List, [], ◌∷◌, ◌++◌, Memᴰ}
use mathlib.Core.Option.{Option, some, none}
use lib.Dec.{ltb}
use lib.ListN.{length, get_or, take, drop, replicate, length-append, length-take, length-replicate}
use lib.Seq.{length-take-le}
use Rattle.model.specs.Lists.{total, All, span}
use Rattle.model.specs.Jobs.{Job, numbers, counted}
use Rattle.model.specs.Boundaries.{RoomEverywhere, Short, least_short}
use Rattle.model.specs.Rule.{plan}
use Rattle.model.proofs.Lists.{le_sum, All-mem, All-at, All-under, All-both, All-over}
use Rattle.model.proofs.LeastShort.{none_short_is_named}
use Rattle.model.proofs.Exactly.{plan_is_valid}
use Rattle.promise.specs.declared.Answer.{Answer}
use Rattle.promise.specs.declared.Text.{Text}
use Rattle.promise.specs.Answers.{refusal, fit_answer}
use Rattle.promise.specs.Rows.{row_count, jobs_of, list_fault, list_order, the_number}
use Rattle.promise.specs.Lists.{planned, Holds, answer_of}
use Rattle.promise.specs.Texts.{ascii, decimal, ended, padded}
use Rattle.promise.specs.JobFile.{Said, bad, says, file_says, File, BadLine, numbers_of}
use Rattle.promise.specs.PlanText.{refusal_text, pair_text, pairs_from, each_after_comma, with_commas, run_line, rows_answer, rows_text, text_said, plan_text, run_line_of, lines_by_number, TextPromise}
use Rattle.promise.specs.TextClaims.{file_answer, printed_plan, TextFits, PrintsWhole, PrintedNumbersAreWhole}
use Rattle.promise.proofs.Ladder.{same_number, none_holds}
use Rattle.promise.proofs.Table.{gives_list}
use Rattle.promise.proofs.Sound.{Passes, planned_numbers, planned_distinct, few_machines, few_rows, answers_fit, yes_passes}
use Rattle.promise.proofs.Buffer.{span_length}
use Rattle.promise.proofs.Digits.{decimal_digits, decimal_short}
use Rattle.promise.proofs.Packing.{plan_small}
use Rattle.promise.proofs.FileJobs.{file_answer_lem, jobs_of_file}
use Rattle.promise.proofs.Printing.{long_text, short_text, refused_text, planned_text_lem, printed_rows}
use Rattle.promise.proofs.FileOrder.{jobs_length, Right, rows_right}

-- one line, and its newline
line_size : (line : List ℕ) (lines : List (List ℕ)) → length (ended (line ∷ lines)) ≡ length line + 1 + length (ended lines)
line_size line lines = omega (arith, length-append line (10 ∷ ended lines))

seven : (n : ℕ) → length (decimal n) ≤ 7
seven n = (decimal_digits n).1

refusal_size : (a : Answer) → length (refusal_text a) ≤ 54
unfolding refusal_text
refusal_size a =
    omega (
      arith,
      seven a.number,
      seven a.place,
      seven a.amount,
      length-append (decimal a.number) (10 ∷ ended ((ascii "at=" ++ decimal a.place) ∷ (ascii "amount=" ++ decimal a.amount) ∷ [])),
      length-append (decimal a.place) (10 ∷ ended ((ascii "amount=" ++ decimal a.amount) ∷ [])),
      length-append (decimal a.amount) (10 ∷ []),
    )

-- a pair: three digits, a colon, two digits
pair_size : (t m : ℕ) → t < 1000 → m < 100 → length (pair_text t m) ≤ 6
unfolding pair_text
pair_size t m l k =
    omega (arith, (decimal_short t).1 l, (decimal_short m).0 k, length-append (decimal t) (ascii ":" ++ decimal m))

pairs_size : (t : ℕ) (ms : List ℕ) → t + length ms < 1000 → All (λ m. m < 100) ms → length (each_after_comma (pairs_from t ms)) ≤ 7 * length ms
pairs_size t [] l h = omega arith
pairs_size t (m ∷ ms) l h = go (ltb 0 m) (pairs_size (suc t) ms (omega arith) h.1)
  where
    go : (b : Bool) → length (each_after_comma (pairs_from (suc t) ms)) ≤ 7 * length ms
        → length (each_after_comma (cond b (pair_text t m ∷ pairs_from (suc t) ms) (pairs_from (suc t) ms))) ≤ 7 * suc (length ms)
    go true r = omega (arith, pair_size t m (omega arith) h.0, length-append (pair_text t m) (each_after_comma (pairs_from (suc t) ms)))
    go false r = omega arith

-- without the first comma it is shorter
commas_size : (ps : List (List ℕ)) → length (with_commas ps) ≤ length (each_after_comma ps)
commas_size [] = omega arith
commas_size (p ∷ ps) = omega arith

run_size : (ms : List ℕ) → length ms ≤ 168 → All (λ m. m < 100) ms → length (run_line ms) ≤ 1180
unfolding run_line
run_size ms l h = omega (arith, commas_size (pairs_from 1 ms), pairs_size 1 ms (omega arith) h)

span_all : (y : ℕ → ℕ) → ((t : ℕ) → 1 ≤ t → y t ≤ 64) → (t n : ℕ) → 1 ≤ t → All (λ m. m < 100) (span t n y)
span_all y h t zero l = tt
span_all y h t (suc n) l = (omega (arith, h t l), span_all y h (suc t) n (omega arith))

-- the lines of jobs whose machines are at most 64 in each slot
abbrev Slim : ℕ → List Job → ℕ → Type 0
Slim machines among n = (t : ℕ) → 1 ≤ t → plan machines among n t ≤ 64

lines_size : (machines : ℕ) (among jobs : List Job) → All (Slim machines among) (numbers jobs)
    → length (ended (lines_by_number machines among jobs)) ≤ 1193 * length jobs
unfolding run_line_of
lines_size machines among [] h = omega arith
lines_size machines among (j ∷ jobs) h =
    let row = span 1 168 (plan machines among j.number) in
    omega (
      arith,
      seven j.number,
      lines_size machines among jobs h.1,
      run_size row (omega (arith, span_length (plan machines among j.number) 1 168)) (span_all (plan machines among j.number) h.0 1 168 (omega arith)),
      length-append (decimal j.number) (10 ∷ ended (run_line row ∷ lines_by_number machines among jobs)),
      line_size (run_line row) (lines_by_number machines among jobs),
    )

-- where a list is planned, no machines are given beyond the room's
module _ (machines : ℕ) (rows : List ℕ) (z : (rows_answer machines rows).number ≡ 0) where
  passes : Passes machines rows (list_order rows)
  unfolding rows_answer
  passes = yes_passes machines rows (168 * row_count rows) z

  has_room : RoomEverywhere machines (planned machines rows)
  unfolding rows_answer
  has_room = go (least_short machines (planned machines rows)) refl (sym (same_number answer) ∙ z)
    where
      answer : rows_answer machines rows ≡ fit_answer (least_short machines (planned machines rows))
      answer =
          answers_fit machines rows (168 * row_count rows)
          (none_holds (Holds machines rows) (answer_of machines rows) (list_order rows) (list_fault machines rows) (gives_list machines rows) passes) (omega arith)

      go : (o : Option Short) → least_short machines (planned machines rows) ≡ o → (fit_answer o).number ≡ 0 → RoomEverywhere machines (planned machines rows)
      go none e q = (none_short_is_named machines (planned machines rows)).0 e
      go (some s) e q = absurd (omega arith)

  all_slim : All (Slim machines (planned machines rows)) (numbers (planned machines rows))
  all_slim =
      All-under (λ (j : Job). j.number) (Slim machines (planned machines rows)) (planned machines rows)
      (All-mem (planned machines rows) slim)
    where
      slim : (j : Job) → Memᴰ j (planned machines rows) → Slim machines (planned machines rows) j.number
      slim j m t l =
          let valid = plan_is_valid machines (planned machines rows) (planned_distinct machines rows passes) has_room in
          omega (
            arith,
            valid.fits t l,
            few_machines machines rows passes,
            All-at (λ (i : Job). plan machines (planned machines rows) i.number t ≤ 0 + total (λ (i : Job). plan machines (planned machines rows) i.number t) (planned machines rows)) j
                (le_sum (λ (i : Job). plan machines (planned machines rows) i.number t) 0 (planned machines rows)) m,
          )

  jobs_small : All (λ j. (j.number ≤ 65535) × Slim machines (counted machines (jobs_of rows)) j.number) (jobs_of rows)
  unfolding planned list_order jobs_of
  jobs_small =
      All-both small (jobs_of rows) (rows_right machines rows 0 (row_count rows) passes.1.1.1)
      (All-over (λ (j : Job). j.number) (Slim machines (counted machines (jobs_of rows))) (jobs_of rows) (rw (← planned_numbers machines rows) all_slim))
    where
      small : (j : Job) → Right j → Slim machines (counted machines (jobs_of rows)) j.number
          → (j.number ≤ 65535) × Slim machines (counted machines (jobs_of rows)) j.number
      small j r s = let most : ¬ (65535 < j.number) = λ l. r the_number (inr l) in (omega arith, s)

  plan_size : length (printed_plan machines (jobs_of rows) (jobs_of rows)) ≤ 40960
  unfolding planned
  plan_size =
      let jobs = jobs_of rows in
      let slim : All (Slim machines (counted machines jobs)) (numbers jobs) = rw (← planned_numbers machines rows) all_slim in
      omega (
        arith,
        lines_size machines (counted machines jobs) jobs slim,
        jobs_length rows,
        few_rows machines rows passes,
        seven machines,
        length-append (decimal machines) (10 ∷ ended (ascii "result=plan" ∷ lines_by_number machines (counted machines jobs) jobs)),
      )

-- the numbers that are printed
lines_count : (lines : List (List ℕ)) → length lines ≤ length (ended lines)
lines_count [] = omega arith
lines_count (line ∷ lines) = omega (arith, lines_count lines, line_size line lines)

bad_line_whole : (bytes : List ℕ) (ℓ : ℕ) → length bytes ≤ 4096 → BadLine bytes ℓ → ℓ ≤ 4097
bad_line_whole bytes ℓ l b =
    omega (arith, b.counted, lines_count b.lines, ap (λ (x : List ℕ). length x) b.split, length-append (ended b.lines) b.after)

prints_whole : (f : File) → PrintsWhole f
unfolding rows_answer
prints_whole f = record {
  refusal_whole = let s = plan_small f.machines rows (168 * length f.groups) in (omega (arith, s.number), omega (arith, s.place), omega (arith, s.amount));
  count_whole = λ z. few_machines f.machines rows (passes f.machines rows (answered z));
  jobs_whole = λ z.
      subst (λ (js : List Job). All (λ j. (j.number ≤ 65535) × Slim f.machines (counted f.machines js) j.number) js) (jobs_of_file f.groups)
      (jobs_small f.machines rows (answered z));
}
  where
    rows : List ℕ
    rows = numbers_of f.groups

    answered : (file_answer f).number ≡ 0 → (rows_answer f.machines rows).number ≡ 0
    answered z = sym (same_number (file_answer_lem f)) ∙ z

pub printed_numbers_are_whole : PrintedNumbersAreWhole
printed_numbers_are_whole = (bad_line_whole, prints_whole)

rows_size : (machines : ℕ) (rows : List ℕ) → length (rows_text machines rows) ≤ 40960
rows_size machines rows = go (ℕ_discrete (rows_answer machines rows).number 0)
  where
    go : Dec ((rows_answer machines rows).number ≡ 0) → length (rows_text machines rows) ≤ 40960
    go (yes z) = rw (planned_text_lem machines rows z, printed_rows machines rows z) (plan_size machines rows z)
    go (no h) = rw (refused_text machines rows h) (omega (arith, refusal_size (rows_answer machines rows)))

said_size : (s : Said) → length (text_said s) ≤ 40960
said_size (bad ℓ) = omega (arith, refusal_size (refusal 13 ℓ 0))
said_size (says ns) = rows_size (get_or ns 0 0) (drop 1 ns)

pub text_fits : TextFits
text_fits bytes = go (dec_lt 4096 (length bytes))
  where
    go : Dec (4096 < length bytes) → length (plan_text bytes) ≤ 40960
    go (yes l) = rw (long_text bytes l) (omega (arith, refusal_size (refusal 14 0 0)))
    go (no h) = rw (short_text bytes (omega arith)) (said_size (file_says bytes))

padded_length : (n : ℕ) (xs : List ℕ) → length (padded n xs) ≡ n
unfolding padded
padded_length n xs = omega (arith, length-append (take n xs) (replicate (n - length xs) 0), length-take n xs, length-replicate {A = ℕ} (n - length xs) 0)

-- a text's count is within its bytes
pub text_counts : (bytes : List ℕ) (x : Text) → TextPromise bytes x → (x.len ≤ length x.bytes) × (x.len ≡ length (take x.len x.bytes))
text_counts bytes x p = (within, sym (length-take-le x.len x.bytes within))
  where
    whole : length x.bytes ≡ 40960
    whole = ap length p.printed ∙ padded_length 40960 (plan_text bytes)

    within : x.len ≤ length x.bytes
    within = omega (arith, p.counted, text_fits bytes, whole)
