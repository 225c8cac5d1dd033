-- What the walk's result says of the answer to it.
use Rattle.std.proofs.Common.{◌≡◌, ap}
use Rattle.std.specs.declared.result.Result.TheVariants.{Ok, Err}
use Rattle.std.proofs.Math.Option.{Option}
use Rattle.model.specs.Boundaries.{Short}
use Rattle.promise.specs.Answers.{yes, fit_answer}
use Rattle.promise.specs.Refusals.{numbered}
use Rattle.walk.specs.declared.Shortage.{Shortage}
use Rattle.walk.specs.Walk.{as_short, no_fit}

pub short_answer : (s : Shortage) (short : Option Short) → as_short (Err s) ≡ short → numbered (no_fit s) ≡ fit_answer short
short_answer s short e = ap fit_answer e

pub fit_answer_yes : (short : Option Short) → as_short (Ok tt) ≡ short → yes ≡ fit_answer short
fit_answer_yes short e = ap fit_answer e

pub ruleset fits = (short_answer, fit_answer_yes)
