-- L4: the buffer of the window, in bytes.
use Prim.Native.Nat.{ℕ, zero, suc, ◌+◌, ◌*◌, ◌-◌, ◌/◌, ◌%◌, ◌≤◌, ◌<◌}
use native.Mathlib.Decide.{ℕ_discrete}
use native.Mathlib.Omega.{arith}
use mathlib.Core.Path.{◌≡◌, refl, ◌∙◌, ap}
use mathlib.Core.Logic.{◌≢◌}
use mathlib.Core.List.{List, [], ◌∷◌, ◌++◌}
use lib.ListN.{length, get_or, drop, get_or-append}
use borrow.Author.Tests.{eq-eqb, ne_eqb}
use Rattle.model.specs.Rule.{plan}
use Rattle.promise.specs.Rows.{row_at, row_count, list_order}
use Rattle.promise.specs.Lists.{planned, plan_answer}
use Rattle.promise.specs.Window.{words_of, bytes_of, bytes_fault, window_answer, window_buffer}
use Rattle.promise.specs.Claims.{WindowWritesThePlan}
use Rattle.promise.proofs.Ladder.{first_zero}
use Rattle.promise.proofs.Sound.{Passes, yes_passes, yes_long}
use Rattle.promise.proofs.Buffer.{beyond_front, front_keeps_length, flat_plan, plan_length, plan_cell}

bytes_length : (ns : List ℕ) → length (bytes_of ns) ≡ 2 * length ns
bytes_length [] = omega arith
bytes_length (n ∷ ns) = omega (arith, bytes_length ns)

-- the two bytes of the number at place k
bytes_low : (ns : List ℕ) (k : ℕ) → get_or (bytes_of ns) (2 * k) 0 ≡ get_or ns k 0 % 256
bytes_low [] k = refl
bytes_low (n ∷ ns) zero = refl
bytes_low (n ∷ ns) (suc k) = ap (λ (m : ℕ). get_or (bytes_of (n ∷ ns)) m 0) two ∙ bytes_low ns k
  where
    two : 2 * suc k ≡ suc (suc (2 * k))
    two = omega arith

bytes_high : (ns : List ℕ) (k : ℕ) → get_or (bytes_of ns) (2 * k + 1) 0 ≡ get_or ns k 0 / 256
bytes_high [] k = refl
bytes_high (n ∷ ns) zero = refl
bytes_high (n ∷ ns) (suc k) = ap (λ (m : ℕ). get_or (bytes_of (n ∷ ns)) m 0) two ∙ bytes_high ns k
  where
    two : 2 * suc k + 1 ≡ suc (suc (2 * k + 1))
    two = omega arith

module _ (machines : ℕ) (list lent : List ℕ) where
  module _ (e : (window_answer machines list (length lent)).number ≡ 0) where
    -- the numbers that the bytes hold get a yes, with half as many places
    words_yes : (plan_answer machines (words_of list) (length lent / 2)).number ≡ 0
    unfolding window_answer
    words_yes = first_zero (bytes_fault machines list) (plan_answer machines (words_of list) (length lent / 2)) e

    passes : Passes machines (words_of list) (list_order (words_of list))
    passes = yes_passes machines (words_of list) (length lent / 2) words_yes

    front_long : length (bytes_of (flat_plan machines (words_of list))) ≡ 336 * row_count (words_of list)
    front_long = omega (arith, bytes_length (flat_plan machines (words_of list)), plan_length machines (words_of list) passes)

    on_yes : window_buffer machines list lent ≡ bytes_of (flat_plan machines (words_of list)) ++ drop (336 * row_count (words_of list)) lent
    unfolding window_buffer
    on_yes = rw (eq-eqb (window_answer machines list (length lent)).number 0 e)

    -- before the end of the plan stand its bytes
    at_front : (k : ℕ) → k < 336 * row_count (words_of list)
        → get_or (window_buffer machines list lent) k 0 ≡ get_or (bytes_of (flat_plan machines (words_of list))) k 0
    at_front k l =
        rw on_yes
        (get_or-append (bytes_of (flat_plan machines (words_of list))) (drop (336 * row_count (words_of list)) lent) 0 k (omega (arith, front_long)))

    yes_low : (i t : ℕ) → i < row_count (words_of list) → 1 ≤ t → t ≤ 168
        → get_or (window_buffer machines list lent) (2 * (168 * i + t - 1)) 0 ≡ plan machines (planned machines (words_of list)) (row_at (words_of list) i).number t % 256
    yes_low i t l a b =
        at_front (2 * (168 * i + t - 1)) (omega arith) ∙ bytes_low (flat_plan machines (words_of list)) (168 * i + t - 1)
        ∙ ap (λ (n : ℕ). n % 256) (plan_cell machines (words_of list) passes i t l a b)

    yes_high : (i t : ℕ) → i < row_count (words_of list) → 1 ≤ t → t ≤ 168
        → get_or (window_buffer machines list lent) (2 * (168 * i + t - 1) + 1) 0 ≡ plan machines (planned machines (words_of list)) (row_at (words_of list) i).number t / 256
    yes_high i t l a b =
        at_front (2 * (168 * i + t - 1) + 1) (omega arith) ∙ bytes_high (flat_plan machines (words_of list)) (168 * i + t - 1)
        ∙ ap (λ (n : ℕ). n / 256) (plan_cell machines (words_of list) passes i t l a b)

    yes_beyond : (k : ℕ) → 336 * row_count (words_of list) ≤ k → get_or (window_buffer machines list lent) k 0 ≡ get_or lent k 0
    yes_beyond k l = rw on_yes (beyond_front (bytes_of (flat_plan machines (words_of list))) lent (336 * row_count (words_of list)) front_long k l)

    yes_length : length (window_buffer machines list lent) ≡ length lent
    yes_length =
        rw on_yes
        (front_keeps_length (bytes_of (flat_plan machines (words_of list))) lent (336 * row_count (words_of list)) front_long
        (omega (arith, yes_long machines (words_of list) (length lent / 2) words_yes)))

  on_refusal : (window_answer machines list (length lent)).number ≢ 0 → window_buffer machines list lent ≡ lent
  unfolding window_buffer
  on_refusal h = rw (ne_eqb (window_answer machines list (length lent)).number 0 h)

  same_length : length (window_buffer machines list lent) ≡ length lent
  same_length = go (ℕ_discrete (window_answer machines list (length lent)).number 0)
    where
      go : Dec ((window_answer machines list (length lent)).number ≡ 0) → length (window_buffer machines list lent) ≡ length lent
      go (yes e) = yes_length e
      go (no h) = ap length (on_refusal h)

pub window_writes_the_plan : WindowWritesThePlan
window_writes_the_plan machines list lent = (
  (λ e. record { low = yes_low machines list lent e; high = yes_high machines list lent e; beyond = yes_beyond machines list lent e }),
  on_refusal machines list lent,
  same_length machines list lent,
)
