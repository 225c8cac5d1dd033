-- What a result of the code says of the answer that it stands for, at `Err` and at `Ok`, and of the tests that come after: for each `?`.
use Rattle.std.proofs.Common.{◌≡◌}
use Rattle.std.specs.Result.{IsErrAnd}
use Rattle.std.specs.declared.result.Result.{Result}
use Rattle.std.specs.declared.result.Result.TheVariants.{Ok, Err}
use Rattle.promise.specs.declared.Answer.{Answer}
use Rattle.promise.specs.declared.Refusal.{Refusal}
use Rattle.promise.specs.Answers.{yes, first}
use Rattle.promise.specs.Refusals.{numbered, as_answer}
use Rattle.promise.proofs.Ladder.{first_stop}
use Rattle.promise.proofs.Refusals.{no_yes}

-- a refusal stops the tests
pub refused : (e : Refusal) (a rest : Answer) → numbered e ≡ a → numbered e ≡ first a rest
refused e a rest m = first_stop (numbered e) a rest m (no_yes e)

-- at the exit of a `?`: the test a refuses, and its refusal is the answer
pub stopped : {A : Type 0} (r : Result A Refusal) (e : Refusal) (a rest : Answer) → IsErrAnd r (λ d. d ≡ e) → numbered e ≡ a
    → as_answer r ≡ first a rest
stopped (Ok x) e a rest h m = absurd h
stopped (Err d) e a rest h m = rw h (refused e a rest m)

-- the same where a is the only test
pub told : {A : Type 0} (r : Result A Refusal) (e : Refusal) (a : Answer) → IsErrAnd r (λ d. d ≡ e) → numbered e ≡ a → as_answer r ≡ a
told (Ok x) e a h m = absurd h
told (Err d) e a h m = rw h m

-- past a `?`: the test a says yes, and the answer is what the others give
pub passed : (a rest r : Answer) → yes ≡ a → r ≡ rest → r ≡ first a rest
passed a rest r y e = rw (← y) e

pub ruleset exits = (stopped, told, refused, passed)
