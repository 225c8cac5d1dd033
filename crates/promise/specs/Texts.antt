-- 01, "The job file and the program": texts as runs of bytes. What a number, a label and a line are.
use Rattle.std.specs.Prelude.{ℕ, zero, suc, ◌+◌, ◌*◌, ◌-◌, ◌/◌, ◌%◌, ◌^◌, ◌≤◌, ◌≡◌, Bool, true, not, cond, ◌&&◌, ◌||◌, List, [], ◌∷◌, ◌++◌, leb, ltb, eqb, length, get_or, take, replicate}
use Prim.Native.Char.{code}
use Prim.Native.String.{String}
use Prim.Native.String as str
use Rattle.std.proofs.Math.Option.{Option, some, none}
use Rattle.model.specs.Lists.{All}

-- the bytes of a quoted text
abbrev pub ascii : String → List ℕ
ascii str.[] = []
ascii (str.◌∷◌ c s) = code c ∷ ascii s

-- the first n of a run of numbers, and zeros after them if there are fewer
unfoldable pub padded : ℕ → List ℕ → List ℕ
padded n xs = take n xs ++ replicate (n - length xs) 0

-- a number printed: from the place of 10 ^ k down to the ones, zeros in front left out
abbrev pub digits_from : ℕ → ℕ → List ℕ
digits_from zero n = (48 + n % 10) ∷ []
digits_from (suc k) n = cond (ltb n (10 ^ suc k)) (digits_from k n) ((48 + n / 10 ^ suc k % 10) ∷ digits_from k n)

-- at most 7 digits
unfoldable pub decimal : ℕ → List ℕ
decimal n = digits_from 6 n

-- "A number is 1 to 7 digits with no leading zero but the single digit 0."
pub record NumberText (bytes : List ℕ) : Type 0 where
  pub least : 1 ≤ length bytes
  pub most : length bytes ≤ 7
  pub digits : All (λ b. (48 ≤ b) × (b ≤ 57)) bytes
  pub leading : get_or bytes 0 0 ≡ 48 → length bytes ≡ 1

-- "A label is 0 to 24 bytes from 0x20 to 0x7E."
pub record LabelText (bytes : List ℕ) : Type 0 where
  pub most : length bytes ≤ 24
  pub printable : All (λ b. (0x20 ≤ b) × (b ≤ 0x7e)) bytes

-- the same as tests that compute
abbrev pub all_within : ℕ → ℕ → List ℕ → Bool
all_within least most [] = true
all_within least most (b ∷ bs) = leb least b && leb b most && all_within least most bs

unfoldable pub is_number : List ℕ → Bool
is_number bytes =
    leb 1 (length bytes) && leb (length bytes) 7 && (not (eqb (get_or bytes 0 0) 48) || eqb (length bytes) 1) && all_within 48 57 bytes

unfoldable pub is_label : List ℕ → Bool
is_label bytes = leb (length bytes) 24 && all_within 0x20 0x7e bytes

-- the value of digits, read from the left after those that gave v
abbrev pub value_from : ℕ → List ℕ → ℕ
value_from v [] = v
value_from v (b ∷ bs) = value_from (10 * v + (b - 48)) bs

unfoldable pub read_number : List ℕ → Option ℕ
read_number bytes = cond (is_number bytes) (some (value_from 0 bytes)) none

-- "Lines end with one newline byte, the last line too."
abbrev pub newline : ℕ
newline = 10

abbrev pub ended : List (List ℕ) → List ℕ
ended [] = []
ended (line ∷ lines) = line ++ (newline ∷ ended lines)

-- bytes cut at their newlines: the whole lines, and what stands after the last newline
pub record Lines : Type 0 where
  pub whole : List (List ℕ)
  pub rest : List ℕ

-- a byte in front of the first line
abbrev pub in_front : ℕ → List (List ℕ) → List ℕ → Lines
in_front b [] rest = record { whole = []; rest = b ∷ rest }
in_front b (line ∷ lines) rest = record { whole = (b ∷ line) ∷ lines; rest = rest }

abbrev pub cut : List ℕ → Lines
cut [] = record { whole = []; rest = [] }
cut (b ∷ bs) = cond (eqb b newline) (record { whole = [] ∷ (cut bs).whole; rest = (cut bs).rest }) (in_front b (cut bs).whole (cut bs).rest)
