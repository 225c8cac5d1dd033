-- The jobs that the walk can take, the next boundary, and what the walk comes to.
use Rattle.std.specs.Prelude.{ℕ, ◌≤◌, ltb, min, List, map}
use Rattle.std.specs.declared.option.Option as code
use Rattle.std.specs.List as list
use Rattle.std.specs.declared.result.Result.{Result}
use Rattle.std.specs.declared.result.Result.TheVariants.{Ok, Err}
use Rattle.std.proofs.Math.Option.{Option, some, none}
use Rattle.model.specs.Lists.{All}
use Rattle.model.specs.Jobs as Model
use Rattle.model.specs.Boundaries as Boundaries
use Rattle.promise.specs.declared.Refusal.{Refusal}
use Rattle.promise.specs.declared.Refusal.TheVariants.{NoFit}
use Rattle.figures.specs.declared.Job.{Job}
use Rattle.figures.specs.Jobs.{as_jobs}
use Rattle.walk.specs.declared.Shortage.{Shortage}

-- their works, deadlines and bounds are in range, so that every sum and product fits
abbrev pub InRange : Model.Job → Type 0
InRange j = (j.work ≤ 60000) × (j.deadline ≤ 168) × (j.bound ≤ 64)

abbrev pub Small : List Job → Type 0
Small jobs = All InRange (as_jobs jobs)

-- the least deadline above b, if any
abbrev pub next_of : ℕ → List Job → code.Option ℕ
next_of b jobs = list.reduce min (list.filter (ltb b) (map (λ j. j.deadline) jobs))

abbrev pub as_short : Result Unit Shortage → Option Boundaries.Short
as_short (Ok _) = none
as_short (Err s) = some (record { place = s.boundary; amount = s.amount })

-- "it doesn't fit": "least short boundary, shortage"
abbrev pub no_fit : Shortage → Refusal
no_fit s = NoFit s.boundary s.amount
