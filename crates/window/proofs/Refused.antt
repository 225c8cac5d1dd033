-- What a refusal of the code says of an answer, and of the word that C gets.
use Prim.Native.Nat.{ℕ}
use native.Mathlib.Omega.{arith}
use mathlib.Core.Path.{◌≡◌, refl, ◌∙◌}
use mathlib.Core.Logic.{◌≢◌}
use Rattle.std.specs.Result.{MatchResult, IsOkAnd}
use Rattle.std.specs.declared.result.Result.{Result}
use Rattle.std.specs.declared.result.Result.TheVariants.{Ok, Err}
use Rattle.promise.specs.declared.Answer.{Answer}
use Rattle.promise.specs.declared.Refusal.{Refusal}
use Rattle.promise.specs.Answers.{yes}
use Rattle.promise.specs.Window.{pack, Packs}
use Rattle.promise.specs.Refusals.{numbered, as_answer}
use Rattle.window.specs.Words.{Sendable, word_told}
use Rattle.promise.proofs.Ladder.{same_number}
use Rattle.promise.proofs.Refusals.{no_yes}

-- an answer that a refusal gives
pub refuses : (e : Refusal) (a : Answer) → numbered e ≡ a → a.number ≢ 0
refuses e a h z = no_yes e (same_number h ∙ z)

pub yes_packed : 0 ≡ pack yes
unfolding pack
yes_packed = refl

-- an answer with no figure, mapped to one that has the figure 0: it is sent where the answer packs, and its word is the answer packed
pub mapped : (r : Result Unit Refusal) (told : Result ℕ Refusal) (P : Unit → ℕ → Type 0) → ((x : Unit) (n : ℕ) → P x n → n ≡ 0)
    → MatchResult r (λ x. IsOkAnd told (P x)) (λ e. told ≡ Err e) → (Packs (as_answer r) → Sendable told) × (word_told told ≡ pack (as_answer r))
unfolding pack
mapped (Ok x) (Ok n) P zero p = ((λ _. tt), omega (arith, zero x n p))
mapped (Ok x) (Err e) P zero p = absurd p
mapped (Err d) told P zero p = rw p ((λ h. h), refl)
