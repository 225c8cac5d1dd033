-- L1: the buffer of Plan.
use Prim.Native.Nat.{ℕ, zero, suc, ◌+◌, ◌*◌, ◌-◌, ◌≤◌, ◌<◌}
use native.Mathlib.Nat.{add-zero}
use native.Mathlib.Decide.{ℕ_discrete}
use native.Mathlib.Omega.{arith}
use mathlib.Core.Path.{◌≡◌, refl, sym, ◌∙◌, ap, ap₂}
use mathlib.Core.Logic.{◌≢◌}
use mathlib.Core.List.{List, [], ◌∷◌, ◌++◌, map, flatten}
use lib.ListN.{length, get_or, drop, length-append, length-drop, length-map, get_or-append, get_or-map}
use lib.Seq.{get_or-append-add, get_or-drop}
use borrow.Author.Tests.{eq-eqb, ne_eqb}
use Rattle.model.specs.Lists.{All, span}
use Rattle.model.specs.Jobs.{numbers}
use Rattle.model.specs.Rule.{plan, plan_rows}
use Rattle.model.proofs.Lists.{All-of, All-under, map_map}
use Rattle.model.proofs.Rows.{rows_are_the_plan}
use Rattle.promise.specs.Rows.{row_at, row_count, job_rows, jobs_of, list_order}
use Rattle.promise.specs.Lists.{planned, plan_answer, written, plan_buffer}
use Rattle.promise.specs.Claims.{YesWritesThePlan, RefusalWritesNothing}
use Rattle.promise.proofs.Sound.{planned_numbers, Passes, planned_distinct, planned_deadlines, yes_passes, yes_long}

-- rows of L numbers each, one after the other
module _ (L : ℕ) where
  pub flat_length : (rs : List (List ℕ)) → All (λ r. length r ≡ L) rs → length (flatten rs) ≡ L * length rs
  unfolding flatten
  flat_length [] h = omega arith
  flat_length (r ∷ rs) h = omega (arith, length-append r (flatten rs), h.0, flat_length rs h.1)

  -- the number at place s of row i
  pub flat_at : (rs : List (List ℕ)) → All (λ r. length r ≡ L) rs → (i s : ℕ) (d : List ℕ) → i < length rs → s < L
      → get_or (flatten rs) (L * i + s) 0 ≡ get_or (get_or rs i d) s 0
  unfolding flatten
  flat_at [] h i s d l k = absurd (omega arith)
  flat_at (r ∷ rs) h zero s d l k =
      ap (λ (m : ℕ). get_or (r ++ flatten rs) m 0) (omega arith) ∙ get_or-append r (flatten rs) 0 s (omega (arith, h.0))
  flat_at (r ∷ rs) h (suc i) s d l k =
      ap (λ (m : ℕ). get_or (r ++ flatten rs) m 0) (omega (arith, h.0)) ∙ get_or-append-add r (flatten rs) (L * i + s) 0
      ∙ flat_at rs h.1 i s d (omega arith) k

-- n numbers put in place of the first n of a buffer: those beyond stay, and so does the length
module _ (front lent : List ℕ) (n : ℕ) (long : length front ≡ n) where
  pub beyond_front : (k : ℕ) → n ≤ k → get_or (front ++ drop n lent) k 0 ≡ get_or lent k 0
  beyond_front k l =
      ap (λ (m : ℕ). get_or (front ++ drop n lent) m 0) (omega arith) ∙ get_or-append-add front (drop n lent) (k - n) 0
      ∙ get_or-drop n lent (k - n) 0
      ∙ ap (λ (m : ℕ). get_or lent m 0) (omega arith)

  pub front_keeps_length : n ≤ length lent → length (front ++ drop n lent) ≡ length lent
  front_keeps_length l = omega (arith, length-append front (drop n lent), length-drop n lent)

pub span_length : (f : ℕ → ℕ) (a n : ℕ) → length (span a n f) ≡ n
span_length f a zero = refl
span_length f a (suc n) = ap suc (span_length f (suc a) n)

pub span_at : (f : ℕ → ℕ) (a n s : ℕ) → s < n → get_or (span a n f) s 0 ≡ f (a + s)
span_at f a zero s l = absurd (omega arith)
span_at f a (suc n) zero l = ap f (sym (add-zero a))
span_at f a (suc n) (suc s) l = span_at f (suc a) n s (omega arith) ∙ ap f (omega arith)

pub numbers_length : (rows : List ℕ) (i n : ℕ) → length (numbers (job_rows rows i n)) ≡ n
numbers_length rows i zero = refl
numbers_length rows i (suc n) = ap suc (numbers_length rows (suc i) n)

pub numbers_at : (rows : List ℕ) (i n k : ℕ) → k < n → get_or (numbers (job_rows rows i n)) k 0 ≡ (row_at rows (i + k)).number
numbers_at rows i zero k l = absurd (omega arith)
numbers_at rows i (suc n) zero l = ap (λ (m : ℕ). (row_at rows m).number) (sym (add-zero i))
numbers_at rows i (suc n) (suc k) l = numbers_at rows (suc i) n k (omega arith) ∙ ap (λ (m : ℕ). (row_at rows m).number) (omega arith)

-- the plan, its rows one after the other
abbrev pub flat_plan : ℕ → List ℕ → List ℕ
flat_plan machines rows = flatten (plan_rows machines (planned machines rows))

module _ (machines : ℕ) (rows : List ℕ) where
  -- the row of job number n
  row : ℕ → List ℕ
  row n = span 1 168 (plan machines (planned machines rows) n)

  row_length : (n : ℕ) → length (row n) ≡ 168
  unfolding row
  row_length n = span_length (plan machines (planned machines rows) n) 1 168

  -- these, in the list's order
  all_rows : List (List ℕ)
  all_rows = map row (numbers (jobs_of rows))

  all_long : All (λ r. length r ≡ 168) all_rows
  unfolding all_rows
  all_long = All-under row (λ r. length r ≡ 168) (numbers (jobs_of rows)) (All-of row_length (numbers (jobs_of rows)))

  row_count_same : length all_rows ≡ row_count rows
  unfolding all_rows jobs_of
  row_count_same = length-map (numbers (jobs_of rows)) row ∙ numbers_length rows 0 (row_count rows)

  row_of : (i : ℕ) → i < row_count rows → get_or all_rows i (row 0) ≡ row (row_at rows i).number
  unfolding all_rows jobs_of
  row_of i l =
      get_or-map row (numbers (jobs_of rows)) i 0
      ∙ ap row (numbers_at rows 0 (row_count rows) i l ∙ ap (λ (k : ℕ). (row_at rows k).number) (omega arith))

  front_length : length (flatten all_rows) ≡ 168 * row_count rows
  front_length = flat_length 168 all_rows all_long ∙ ap (λ (n : ℕ). 168 * n) row_count_same

  planned_rows : Passes machines rows (list_order rows) → plan_rows machines (planned machines rows) ≡ all_rows
  unfolding row all_rows
  planned_rows h =
      rows_are_the_plan machines (planned machines rows) (planned_distinct machines rows h) (planned_deadlines machines rows h)
      ∙ sym (map_map (λ j. j.number) row (planned machines rows)) ∙ ap (map row) (planned_numbers machines rows)

  module _ (h : Passes machines rows (list_order rows)) where
    pub plan_length : length (flat_plan machines rows) ≡ 168 * row_count rows
    plan_length = rw (planned_rows h) front_length

    pub plan_cell : (i t : ℕ) → i < row_count rows → 1 ≤ t → t ≤ 168
        → get_or (flat_plan machines rows) (168 * i + t - 1) 0 ≡ plan machines (planned machines rows) (row_at rows i).number t
    unfolding row
    plan_cell i t l a b =
        let s : ℕ = t - 1 in
        ap₂ (λ (rs : List (List ℕ)) (m : ℕ). get_or (flatten rs) m 0) (planned_rows h) (omega arith)
        ∙ flat_at 168 all_rows all_long i s (row 0) (omega (arith, row_count_same)) (omega arith)
        ∙ ap (λ (r : List ℕ). get_or r s 0) (row_of i l)
        ∙ span_at (plan machines (planned machines rows) (row_at rows i).number) 1 168 s (omega arith)
        ∙ ap (plan machines (planned machines rows) (row_at rows i).number) (omega arith)

  module _ (lent : List ℕ) where
    module _ (e : (plan_answer machines rows (length lent)).number ≡ 0) where
      on_yes : plan_buffer machines rows lent ≡ flat_plan machines rows ++ drop (168 * row_count rows) lent
      unfolding plan_buffer written
      on_yes = rw (eq-eqb (plan_answer machines rows (length lent)).number 0 e)

      front_long : length (flat_plan machines rows) ≡ 168 * row_count rows
      front_long = plan_length (yes_passes machines rows (length lent) e)

      yes_cell : (i t : ℕ) → i < row_count rows → 1 ≤ t → t ≤ 168
          → get_or (plan_buffer machines rows lent) (168 * i + t - 1) 0 ≡ plan machines (planned machines rows) (row_at rows i).number t
      yes_cell i t l a b =
          rw on_yes (get_or-append (flat_plan machines rows) (drop (168 * row_count rows) lent) 0 (168 * i + t - 1) (omega (arith, front_long)))
          ∙ plan_cell (yes_passes machines rows (length lent) e) i t l a b

      yes_beyond : (k : ℕ) → 168 * row_count rows ≤ k → get_or (plan_buffer machines rows lent) k 0 ≡ get_or lent k 0
      yes_beyond k l = rw on_yes (beyond_front (flat_plan machines rows) lent (168 * row_count rows) front_long k l)

      yes_length : length (plan_buffer machines rows lent) ≡ length lent
      yes_length = rw on_yes (front_keeps_length (flat_plan machines rows) lent (168 * row_count rows) front_long (yes_long machines rows (length lent) e))

    on_refusal : (plan_answer machines rows (length lent)).number ≢ 0 → plan_buffer machines rows lent ≡ lent
    unfolding plan_buffer
    on_refusal h = rw (ne_eqb (plan_answer machines rows (length lent)).number 0 h)

    same_length : length (plan_buffer machines rows lent) ≡ length lent
    same_length = go (ℕ_discrete (plan_answer machines rows (length lent)).number 0)
      where
        go : Dec ((plan_answer machines rows (length lent)).number ≡ 0) → length (plan_buffer machines rows lent) ≡ length lent
        go (yes e) = yes_length e
        go (no h) = ap length (on_refusal h)

pub yes_writes_the_plan : YesWritesThePlan
yes_writes_the_plan machines rows lent e = record { cells = yes_cell machines rows lent e; beyond = yes_beyond machines rows lent e }

pub refusal_writes_nothing : RefusalWritesNothing
refusal_writes_nothing machines rows lent = (on_refusal machines rows lent, same_length machines rows lent)
