-- 01, "Refusal numbers": "A number is given exactly when its row holds and no earlier one in the order does."
-- An order is a list of tests; a test holds or not, and has an answer.
use Rattle.std.specs.Prelude.{ℕ, ◌≡◌, ◌≢◌, ◌↔◌, List, ◌∷◌, ◌++◌}
use Rattle.model.specs.Lists.{All}
use Rattle.promise.specs.declared.Answer.{Answer}
use Rattle.promise.specs.Answers.{yes}

module _ {A : Type 0} where
  -- x holds and none before it in the order does
  pub record FirstOf (Holds : A → Type 0) (order : List A) (x : A) : Type 0 where
    pub earlier : List A
    pub later : List A
    pub split : order ≡ earlier ++ (x ∷ later)
    pub holds : Holds x
    pub none_earlier : All (λ y. ¬ Holds y) earlier

  -- the answer a is what the order gives: for each number exactly, with its place and amount, and yes if no test holds
  pub record GivenBy (Holds : A → Type 0) (answer_of : A → Answer) (order : List A) (a : Answer) : Type 0 where
    pub exactly : (q : ℕ) → q ≢ 0 → (a.number ≡ q) ↔ ((x : A) × FirstOf Holds order x × ((answer_of x).number ≡ q))
    pub told : (x : A) → FirstOf Holds order x → a ≡ answer_of x
    pub otherwise : All (λ x. ¬ Holds x) order ↔ (a ≡ yes)
