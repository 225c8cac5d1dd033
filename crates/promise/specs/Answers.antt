-- 01, "Refusal numbers": "Every answer has a number (0 for yes), a place and an amount."
use Rattle.std.specs.Prelude.{ℕ, Bool, cond, eqb}
use Rattle.std.proofs.Math.Option.{Option, some, none}
use Rattle.model.specs.Boundaries.{Short}
use Rattle.promise.specs.declared.Answer.{Answer}

abbrev pub yes : Answer
yes = record { number = 0; place = 0; amount = 0 }

abbrev pub refusal : ℕ → ℕ → ℕ → Answer
refusal number place amount = record { number = number; place = place; amount = amount }

-- a refusal if the test holds
abbrev pub fault : Bool → Answer → Answer
fault test a = cond test a yes

-- the first of two that is a refusal, else yes
abbrev pub first : Answer → Answer → Answer
first a b = cond (eqb a.number 0) b a

-- 7, "it doesn't fit": "least short boundary, shortage"
abbrev pub fit_answer : Option Short → Answer
fit_answer none = yes
fit_answer (some s) = refusal 7 s.place s.amount
