-- The rows of a list: a number that is looked for in the first of them, the rows from one on, the jobs that are loaded.
use Rattle.std.proofs.Common.{ℕ, length, zero, suc, ◌+◌, ◌-◌, ◌*◌, ◌<◌, ◌≡◌, Bool, ◌||◌, eqb, List, [], ◌∷◌, ◌++◌, get_or, add-one, refl, sym, ap, subst, ◌∙◌, arith}
use Rattle.std.proofs.lemmas.List.{map-append}
use Rattle.std.proofs.lemmas.Iterator.{YieldsList}
use Rattle.std.proofs.lemmas.Iterator.Consumers.{YieldsList-from_shown}
use Rattle.std.specs.declared.iter.Rev.{Rev}
use Rattle.std.specs.declared.ops.Range.{Range}
use Rattle.std.specs.declared.option.Option.{Option}
use Rattle.std.specs.Iterator.Adapters.{rev_source, rev_steps}
use Rattle.std.specs.Range.{range_steps_back}
use Rattle.std.specs.List.{list_any}
use mathlib.Core.Path.{ap₂}
use Rattle.model.specs.Jobs as Model
use Rattle.model.specs.Jobs.{counted, width}
use Rattle.promise.specs.declared.Answer.{Answer}
use Rattle.std.specs.Result.{IsErrAnd}
use Rattle.std.specs.declared.result.Result.{Result}
use Rattle.promise.specs.declared.Refusal.{Refusal}
use Rattle.promise.specs.Refusals.{numbered, as_answer}
use Rattle.promise.proofs.Exits.{stopped, passed}
use Rattle.promise.proofs.Ladder.{first_first}
use Rattle.promise.specs.Answers.{yes, first}
use Rattle.rows.specs.Rows.{shape_fault}
use Rattle.figures.specs.declared.Job.{Job}
use Rattle.figures.specs.Jobs.{as_job, as_jobs}
use Rattle.promise.specs.Rows.{row_at, row_count, job_rows, seen_before, row_fault, rows_fault, count_fault, length_fault, many_fault, list_fault}

-- n numbers from a on, the last of them first
abbrev pub down : ℕ → ℕ → List ℕ
down a zero = []
down a (suc n) = (a + n) ∷ down a n

abbrev pub down_steps : Rev (Range ℕ) → Option ℕ → Rev (Range ℕ) → Type 0
down_steps = rev_steps (range_steps_back (λ a b. b - a) (λ a b. b ≡ a + 1))

-- a range from its end yields them
pub YieldsList-from_down : {s : Rev (Range ℕ)} (n : ℕ) → rev_source s ≡ record { start = 0; end = n } → YieldsList down_steps (λ x. x) s (down 0 n)
YieldsList-from_down {s} n e =
    let all : n - 0 ≡ n = omega arith in
    subst (YieldsList down_steps (λ x. x) s) (ap (λ (r : Range ℕ). down r.start (r.end - r.start)) e ∙ ap (down 0) all)
    (YieldsList-from_shown down_steps (λ x. x) (λ u. down (rev_source u).start ((rev_source u).end - (rev_source u).start))
    (λ u t p. ap (λ m. length (down (rev_source u).start m)) p.1.0)
    (λ u x t p.
    let m = (rev_source t).end - (rev_source t).start in
    let more : (rev_source u).end - (rev_source u).start ≡ suc m = omega (arith, p.0, p.1.0, p.1.2) in
    let last : (rev_source u).start + m ≡ x = omega (arith, p.0, p.1.0, p.1.1, p.1.2) in
    ap (down (rev_source u).start) more ∙ ap₂ (λ (k a : ℕ). k ∷ down a m) last (sym p.0)) s)

pub seen_any : (rows : List ℕ) (number i : ℕ) → list_any (λ k. eqb (get_or rows (4 * k) 0) number) (down 0 i) ≡ seen_before rows number i
unfolding row_at
seen_any rows number zero = refl
seen_any rows number (suc i) =
    let last : 0 + i ≡ i = omega arith in
    ap₂ (λ (k : ℕ) (t : Bool). eqb (get_or rows (4 * k) 0) number || t) last (seen_any rows number i)

-- the rows from row i on: row i, then the others
pub rows_next : (rows : List ℕ) (i n : ℕ) → i < n → rows_fault rows i (n - i) ≡ first (row_fault rows i) (rows_fault rows (i + 1) (n - (i + 1)))
rows_next rows i n h =
    let e : n - i ≡ suc (n - (i + 1)) = omega arith in
    rw (e, add-one i) refl

jobs_last : (rows : List ℕ) (i n last : ℕ) → i + n ≡ last → job_rows rows i (suc n) ≡ job_rows rows i n ++ (row_at rows last ∷ [])
jobs_last rows i zero last e = let f : i ≡ last = omega arith in rw f refl
jobs_last rows i (suc n) last e = ap (λ js. row_at rows i ∷ js) (jobs_last rows (suc i) n last (omega arith))

-- one more job is loaded, with the bound that counts
pub loaded_more : (machines : ℕ) (rows : List ℕ) (jobs : List Job) (i : ℕ) (j : Job) (bound : ℕ)
    → as_jobs jobs ≡ counted machines (job_rows rows 0 i) → as_job j ≡ row_at rows i → bound ≡ width machines j.bound
    → as_jobs (jobs ++ (record { number = j.number; work = j.work; deadline = j.deadline; bound = bound } ∷ [])) ≡ counted machines (job_rows rows 0 (i + 1))
unfolding counted
loaded_more machines rows jobs i j bound so_far e f =
    let k : Job = record { number = j.number; work = j.work; deadline = j.deadline; bound = bound } in
    let last : counted machines (row_at rows i ∷ []) ≡ as_job k ∷ [] = rw (← e, f) refl in
    let rows_now = ap (λ n. counted machines (job_rows rows 0 n)) (add-one i) ∙ ap (counted machines) (jobs_last rows 0 i i (omega arith)) ∙ map-append _ (job_rows rows 0 i) (row_at rows i ∷ []) in
    map-append as_job jobs (k ∷ [])
    ∙ ap (λ (js : List Model.Job). js ++ (as_job k ∷ [])) so_far
    ∙ sym (rows_now ∙ ap (λ (js : List Model.Job). counted machines (job_rows rows 0 i) ++ js) last)

-- what is wrong with a list's shape comes before its rows
shape_first : (machines : ℕ) (rows : List ℕ)
    → list_fault machines rows ≡ first (shape_fault machines (length rows) 4) (rows_fault rows 0 (row_count rows))
unfolding list_fault length_fault many_fault row_count shape_fault
shape_first machines rows =
    let rest = rows_fault rows 0 (row_count rows) in
    let later : Answer = first (length_fault rows) (many_fault rows) in
    ap (first (count_fault machines)) (sym (first_first (length_fault rows) (many_fault rows) rest))
    ∙ sym (first_first (count_fault machines) later rest)

pub shape_stops : (machines : ℕ) (rows : List ℕ) (r : Result Unit Refusal) (e : Refusal)
    → IsErrAnd r (λ d. d ≡ e) → numbered e ≡ shape_fault machines (length rows) 4 → as_answer r ≡ list_fault machines rows
shape_stops machines rows r e h m = stopped r e _ _ h m ∙ sym (shape_first machines rows)

pub shape_passed : (machines : ℕ) (rows : List ℕ) (r : Answer)
    → yes ≡ shape_fault machines (length rows) 4 → r ≡ rows_fault rows 0 (row_count rows) → r ≡ list_fault machines rows
shape_passed machines rows r y e = passed _ _ r y e ∙ sym (shape_first machines rows)

pub ruleset shape_exits = (shape_stops, shape_passed)
