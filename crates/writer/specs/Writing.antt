-- The texts of a line, a digit and a slot, as they are written.
use Rattle.std.specs.Prelude.{ℕ, suc, ◌+◌, ◌/◌, ◌%◌, Bool, cond, ◌||◌, List, [], ◌∷◌, ◌++◌, ltb}
use Rattle.promise.specs.Texts.{ascii, decimal, newline}
use Rattle.promise.specs.PlanText.{pair_text}

-- a line of a key and a number
abbrev pub line : List ℕ → ℕ → List ℕ
line key n = (key ++ decimal n) ++ (newline ∷ [])

-- the digit of n at a power of ten, if n reaches it
unfoldable pub digit_at : ℕ → ℕ → List ℕ
digit_at n power = cond (ltb n power) [] ((48 + n / power % 10) ∷ [])

-- one slot of a run line, with its comma if a pair stands before it
unfoldable pub slot_text : Bool → ℕ → ℕ → List ℕ
slot_text comma t machines = cond (ltb 0 machines) (cond comma (ascii ",") [] ++ pair_text t machines) []

abbrev pub slots_text : Bool → ℕ → List ℕ → List ℕ
slots_text comma t [] = []
slots_text comma t (m ∷ ms) = slot_text comma t m ++ slots_text (comma || ltb 0 m) (suc t) ms
