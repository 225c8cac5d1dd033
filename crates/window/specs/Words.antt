-- The word of 64 bits that C gets, and the refusals before a list is read.
use Rattle.std.specs.Prelude.{ℕ, ◌*◌, List}
use Rattle.std.specs.declared.result.Result.{Result}
use Rattle.std.specs.declared.result.Result.TheVariants.{Ok, Err}
use Rattle.promise.specs.declared.Refusal.{Refusal}
use Rattle.promise.specs.declared.Answer.{Answer}
use Rattle.promise.specs.Answers.{first}
use Rattle.promise.specs.Rows.{many_fault}
use Rattle.promise.specs.Window.{words_of, bytes_fault, pack, Packs}
use Rattle.promise.specs.Refusals.{numbered}

-- the refusals that come before any number is read
unfoldable pub early_fault : ℕ → List ℕ → Answer
early_fault machines list = first (bytes_fault machines list) (many_fault (words_of list))

-- a figure, or a refusal that packs without loss
abbrev pub Sendable : Result ℕ Refusal → Type 0
Sendable (Ok n) = Unit {0}
Sendable (Err e) = Packs (numbered e)

-- the word of a figure, in the upper half, or of a refusal
abbrev pub word_told : Result ℕ Refusal → ℕ
word_told (Ok n) = 4294967296 * n
word_told (Err e) = pack (numbered e)
