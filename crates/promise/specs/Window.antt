-- 01, "Calls": the host window. The same numbers as bytes, lowest byte first, and an answer in one word of 64 bits.
use Rattle.std.specs.Prelude.{ℕ, zero, suc, ◌+◌, ◌*◌, ◌-◌, ◌/◌, ◌%◌, ◌<◌, ◌≡◌, not, cond, eqb, ℤ, pos, negsuc, length, get_or, drop}
use mathlib.Core.List.{List, [], ◌∷◌, ◌++◌, flatten}
use Rattle.model.specs.Rule.{plan_rows}
use Rattle.promise.specs.declared.Answer.{Answer}
use Rattle.promise.specs.Answers.{refusal, fault, first}
use Rattle.promise.specs.Rows.{row_count, count_fault}
use Rattle.promise.specs.Lists.{planned, plan_answer, plan_buffer, room_answer, room_figure}

-- four bytes as a number, lowest first
abbrev pub four_of : ℕ → ℕ → ℕ → ℕ → ℕ
four_of a b c d = a + 256 * b + 65536 * c + 16777216 * d

-- "4 for a list number": the number of the four bytes at 4 × i
unfoldable pub word_at : List ℕ → ℕ → ℕ
word_at bytes i = four_of (get_or bytes (4 * i) 0) (get_or bytes (4 * i + 1) 0) (get_or bytes (4 * i + 2) 0) (get_or bytes (4 * i + 3) 0)

abbrev pub words_from : List ℕ → ℕ → ℕ → List ℕ
words_from bytes i zero = []
words_from bytes i (suc n) = word_at bytes i ∷ words_from bytes (suc i) n

unfoldable pub words_of : List ℕ → List ℕ
words_of bytes = words_from bytes 0 (length bytes / 4)

-- numbers as a host sends them: four bytes each, lowest first
abbrev pub sent : List ℕ → List ℕ
sent [] = []
sent (n ∷ ns) = n % 256 ∷ n / 256 % 256 ∷ n / 65536 % 256 ∷ n / 16777216 ∷ sent ns

-- "and 2 for a plan number"
abbrev pub bytes_of : List ℕ → List ℕ
bytes_of [] = []
bytes_of (n ∷ ns) = n % 256 ∷ n / 256 ∷ bytes_of ns

-- "(a length not a multiple of 16 is a 2)"
unfoldable pub bytes_fault : ℕ → List ℕ → Answer
bytes_fault machines list = first (count_fault machines) (fault (not (eqb (length list % 16) 0)) (refusal 2 0 0))

-- "(fewer than 336 × n bytes is a 6)": a buffer of so many bytes holds half as many numbers
unfoldable pub window_answer : ℕ → List ℕ → ℕ → Answer
window_answer machines list size = first (bytes_fault machines list) (plan_answer machines (words_of list) (size / 2))

-- the lent bytes after an answer about the numbers of a list: its plan and what was lent beyond, or all as lent
abbrev pub bytes_left : Answer → ℕ → List ℕ → List ℕ → List ℕ
bytes_left a machines rows lent =
    cond (eqb a.number 0) (bytes_of (flatten (plan_rows machines (planned machines rows))) ++ drop (336 * row_count rows) lent) lent

unfoldable pub window_buffer : ℕ → List ℕ → List ℕ → List ℕ
window_buffer machines list lent = bytes_left (window_answer machines list (length lent)) machines (words_of list) lent

-- "number + 256 × place + 2^32 × amount as 64 bits"
unfoldable pub pack : Answer → ℕ
pack a = a.number + 256 * a.place + 4294967296 * a.amount

-- an answer that packs without loss
pub record Packs (a : Answer) : Type 0 where
  pub number : a.number < 256
  pub place : a.place < 16777216
  pub amount : a.amount < 4294967296

-- a room as 32 bits: itself, or 2^32 less the shortage
abbrev pub room_word : ℤ → ℕ
room_word (pos n) = n
room_word (negsuc n) = 4294967296 - suc n

-- the promises of the exports
pub record PlanBytesPromise (machines : ℕ) (list lent : List ℕ) (word : ℕ) (after : List ℕ) : Type 0 where
  pub answered : word ≡ pack (window_answer machines list (length lent))
  pub left : after ≡ window_buffer machines list lent

pub record PlanNumbersPromise (machines : ℕ) (rows lent : List ℕ) (word : ℕ) (after : List ℕ) : Type 0 where
  pub answered : word ≡ pack (plan_answer machines rows (length lent))
  pub left : after ≡ plan_buffer machines rows lent

-- a refusal packed, or the room in the upper half
unfoldable pub room_window_answer : ℕ → List ℕ → ℕ → Answer
room_window_answer machines list b = first (bytes_fault machines list) (room_answer machines (words_of list) b)

unfoldable pub room_packed : ℕ → List ℕ → ℕ → ℕ
room_packed machines list b =
    cond (eqb (room_window_answer machines list b).number 0)
    (4294967296 * room_word (room_figure machines (words_of list) b))
    (pack (room_window_answer machines list b))

abbrev pub RoomBytesPromise : ℕ → List ℕ → ℕ → ℕ → Type 0
RoomBytesPromise machines list b word = word ≡ room_packed machines list b
