-- The refusals that come before any number is read, at the window and of the numbers that a list holds.
use Prim.Native.Nat.{ℕ, ◌/◌, ◌%◌}
use native.Mathlib.Omega.{arith}
use mathlib.Core.Path.{◌≡◌, refl, sym, ◌∙◌}
use mathlib.Core.Logic.{◌≢◌}
use mathlib.Core.Bool.{Bool, true, false, cond, not, ◌||◌}
use mathlib.Core.List.{List}
use lib.Dec.{ltb, eqb}
use lib.ListN.{length}
use borrow.Author.Tests.{eq-eqb, ne_eqb, eqb-true}
use Rattle.promise.specs.declared.Answer.{Answer}
use Rattle.promise.specs.declared.Refusal.{Refusal}
use Rattle.promise.specs.Answers.{yes, refusal, fault, first}
use Rattle.promise.specs.Rows.{row_count, rows_fault, count_fault, length_fault, many_fault, list_fault}
use Rattle.promise.specs.Window.{words_of, bytes_fault}
use Rattle.rows.specs.Rows.{shape_fault}
use Rattle.promise.specs.Refusals.{numbered}
use Rattle.promise.proofs.Ladder.{same_number, first_first, first_zero_front}
use Rattle.promise.proofs.Words.{words_count, row_count_lem}
use Rattle.window.specs.Words.{early_fault}
use Rattle.window.proofs.Refused.{refuses}

module _ (machines : ℕ) (list : List ℕ) where
  -- the shape of the bytes is tested as that of the numbers
  early_shape : shape_fault machines (length list) 16 ≡ early_fault machines list
  unfolding early_fault bytes_fault many_fault shape_fault
  early_shape = rw (row_count_lem list) (sym (first_first (count_fault machines) (fault (not (eqb (length list % 16) 0)) (refusal 2 0 0)) (fault (ltb 32 (length list / 16)) (refusal 3 0 0))))

  pub early_told : (a : Answer) → a ≡ shape_fault machines (length list) 16 → a ≡ early_fault machines list
  early_told a e = e ∙ early_shape

  -- neither 1 nor 2
  module _ (z : (bytes_fault machines list).number ≡ 0) where
    tests : (count_fault machines ≡ yes) × (length list % 16 ≡ 0)
    unfolding bytes_fault count_fault
    tests = go (ltb machines 1 || ltb 64 machines) (eqb (length list % 16) 0) refl z
      where
        go : (s t : Bool) → eqb (length list % 16) 0 ≡ t → (first (fault s (refusal 1 0 0)) (fault (not t) (refusal 2 0 0))).number ≡ 0
            → (fault s (refusal 1 0 0) ≡ yes) × (length list % 16 ≡ 0)
        go true t p e = absurd (omega arith)
        go false true p e = (refl, eqb-true (length list % 16) 0 p)
        go false false p e = absurd (omega arith)

    -- then what is wrong with the numbers is a 3 or in the rows
    three_next : list_fault machines (words_of list) ≡ first (many_fault (words_of list)) (rows_fault (words_of list) 0 (row_count (words_of list)))
    unfolding list_fault length_fault
    three_next = rw (tests.0, eq-eqb (length (words_of list) % 4) 0 (omega (arith, words_count list, tests.1))) refl

  -- an early refusal is that of the whole list
  pub refused_early : (e : Refusal) → numbered e ≡ early_fault machines list → (rest : Answer)
      → numbered e ≡ first (bytes_fault machines list) (first (list_fault machines (words_of list)) rest)
  unfolding early_fault
  refused_early e h rest = h ∙ go (eqb (bytes_fault machines list).number 0) refl (refuses e _ h)
    where
      many : Answer
      many = many_fault (words_of list)

      go : (t : Bool) → eqb (bytes_fault machines list).number 0 ≡ t → (cond t many (bytes_fault machines list)).number ≢ 0
          → cond t many (bytes_fault machines list) ≡ cond t (first (list_fault machines (words_of list)) rest) (bytes_fault machines list)
      go true p q = rw (three_next (eqb-true (bytes_fault machines list).number 0 p), ne_eqb many.number 0 q, ne_eqb many.number 0 q) refl
      go false p q = refl

  -- a list that is read
  pub read_next : yes ≡ early_fault machines list → (rest : Answer) → first (bytes_fault machines list) rest ≡ rest
  unfolding early_fault
  read_next read rest = rw (eq-eqb (bytes_fault machines list).number 0 (first_zero_front (bytes_fault machines list) (many_fault (words_of list)) (sym (same_number read)))) refl
