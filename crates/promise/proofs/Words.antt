-- L4: the numbers that were sent as bytes are those that the window reads.
use Prim.Native.Nat.{ℕ, zero, suc, ◌+◌, ◌*◌, ◌/◌, ◌%◌, ◌<◌}
use native.Mathlib.Omega.{arith}
use mathlib.Core.Path.{◌≡◌, refl, ◌∙◌, ap, ap₂}
use mathlib.Core.List.{List, [], ◌∷◌}
use mathlib.Core.Logic.{◌≢◌, ◌⊎◌, inl, inr}
use mathlib.Core.Bool.{Bool, true, false, ◌||◌}
use lib.Dec.{ltb}
use borrow.Author.Tests.{lt-ltb, le-ltb, eq-eqb, ne_eqb}
use lib.ListN.{length, get_or}
use Rattle.model.specs.Lists.{All}
use Rattle.promise.specs.declared.Answer.{Answer}
use Rattle.promise.specs.Answers.{yes, refusal, fault, first}
use Rattle.promise.specs.Rows.{row_count, count_fault}
use Rattle.promise.specs.Window.{word_at, words_from, words_of, sent, bytes_fault, window_answer, room_window_answer}
use Rattle.promise.specs.Claims.{WindowReadsTheNumbers, WindowTakesSixteenARow, WindowCountsBytes, WindowCountsMachinesFirst, WindowReadsLowestFirst}

-- number i is read from its four bytes
pub words_at : (bytes : List ℕ) (a n i : ℕ) → i < n → get_or (words_from bytes a n) i 0 ≡ word_at bytes (a + i)
words_at bytes a zero i l = absurd (omega arith)
words_at bytes a (suc n) zero l = let e : a ≡ a + 0 = omega arith in ap (word_at bytes) e
words_at bytes a (suc n) (suc i) l = let e : suc a + i ≡ a + suc i = omega arith in words_at bytes (suc a) n i (omega arith) ∙ ap (word_at bytes) e

pub window_reads_lowest_first : WindowReadsLowestFirst
unfolding words_of word_at
window_reads_lowest_first bytes i l = let e : 0 + i ≡ i = omega arith in words_at bytes 0 (length bytes / 4) i l ∙ ap (word_at bytes) e

pub sent_length : (ns : List ℕ) → length (sent ns) ≡ 4 * length ns
sent_length [] = omega arith
sent_length (n ∷ ns) = omega (arith, sent_length ns)

-- four bytes in front move each number by one place
module _ (a b c d : ℕ) (bytes : List ℕ) where
  four_on : (k m : ℕ) → m ≡ suc (suc (suc (suc k))) → get_or (a ∷ b ∷ c ∷ d ∷ bytes) m 0 ≡ get_or bytes k 0
  four_on k m e = rw e

  pub word_on : (i : ℕ) → word_at (a ∷ b ∷ c ∷ d ∷ bytes) (suc i) ≡ word_at bytes i
  unfolding word_at
  word_on i =
      omega (
        arith,
        four_on (4 * i) (4 * suc i) (omega arith),
        four_on (4 * i + 1) (4 * suc i + 1) (omega arith),
        four_on (4 * i + 2) (4 * suc i + 2) (omega arith),
        four_on (4 * i + 3) (4 * suc i + 3) (omega arith),
      )

  pub words_on : (i n : ℕ) → words_from (a ∷ b ∷ c ∷ d ∷ bytes) (suc i) n ≡ words_from bytes i n
  words_on i zero = refl
  words_on i (suc n) = ap₂ ◌∷◌ (word_on i) (words_on (suc i) n)

pub first_word : (n : ℕ) (ns : List ℕ) → word_at (sent (n ∷ ns)) 0 ≡ n
unfolding word_at
first_word n ns = omega arith

words_read : (ns : List ℕ) → words_from (sent ns) 0 (length ns) ≡ ns
words_read [] = refl
words_read (n ∷ ns) = ap₂ ◌∷◌ (first_word n ns) (words_on (n % 256) (n / 256 % 256) (n / 65536 % 256) (n / 16777216) (sent ns) 0 (length ns) ∙ words_read ns)

pub bytes_sent : (ns : List ℕ) → All (λ n. n < 4294967296) ns → All (λ b. b < 256) (sent ns)
bytes_sent [] h = tt
bytes_sent (n ∷ ns) h = let l = h.0 in (omega arith, (omega arith, (omega arith, (omega arith, bytes_sent ns h.1))))

pub window_reads_the_numbers : WindowReadsTheNumbers
unfolding words_of
window_reads_the_numbers ns =
    let count : length (sent ns) / 4 ≡ length ns = omega (arith, sent_length ns) in
    (rw count (words_read ns), bytes_sent ns)

words_length : (bytes : List ℕ) (i n : ℕ) → length (words_from bytes i n) ≡ n
words_length bytes i zero = refl
words_length bytes i (suc n) = ap suc (words_length bytes (suc i) n)

pub words_count : (list : List ℕ) → length (words_of list) ≡ length list / 4
unfolding words_of
words_count list = words_length list 0 (length list / 4)

pub row_count_lem : (list : List ℕ) → row_count (words_of list) ≡ length list / 16
unfolding row_count
row_count_lem list = omega (arith, words_count list)

pub window_counts_bytes : WindowCountsBytes
window_counts_bytes machines list size = (row_count_lem list, ((λ l. omega arith), λ l. omega arith))

-- 1 and 2 at the window
module _ (machines : ℕ) (list : List ℕ) where
  one : (machines < 1) ⊎ (64 < machines) → count_fault machines ≡ refusal 1 0 0
  unfolding count_fault
  one (inl l) = rw (lt-ltb machines 1 l) refl
  one (inr l) = go (ltb machines 1)
    where
      go : (t : Bool) → fault (t || ltb 64 machines) (refusal 1 0 0) ≡ refusal 1 0 0
      go true = refl
      go false = rw (lt-ltb 64 machines l) refl

  bad_count : (machines < 1) ⊎ (64 < machines) → (b : Answer) → first (bytes_fault machines list) b ≡ refusal 1 0 0
  unfolding bytes_fault
  bad_count h b = rw (one h) refl

  module _ (h : ¬ ((machines < 1) ⊎ (64 < machines))) where
    good_count : count_fault machines ≡ yes
    unfolding count_fault
    good_count =
        let m : ¬ (machines < 1) = λ l. h (inl l) in
        let n : ¬ (64 < machines) = λ l. h (inr l) in
        rw (le-ltb machines 1 (omega arith), le-ltb 64 machines (omega arith)) refl

    good_length : length list % 16 ≡ 0 → (b : Answer) → first (bytes_fault machines list) b ≡ b
    unfolding bytes_fault
    good_length k b = rw (good_count, eq-eqb (length list % 16) 0 k) refl

    bad_length : length list % 16 ≢ 0 → (b : Answer) → first (bytes_fault machines list) b ≡ refusal 2 0 0
    unfolding bytes_fault
    bad_length k b = rw (good_count, ne_eqb (length list % 16) 0 k) refl

pub window_takes_sixteen_a_row : WindowTakesSixteenARow
unfolding window_answer room_window_answer
window_takes_sixteen_a_row machines list size h =
    ((λ k. (bad_length machines list h k _, bad_length machines list h k _)), λ k. (good_length machines list h k _, good_length machines list h k _))

pub window_counts_machines_first : WindowCountsMachinesFirst
unfolding window_answer room_window_answer
window_counts_machines_first machines list size h = (bad_count machines list h _, bad_count machines list h _)
