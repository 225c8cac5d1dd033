-- The shares of the code as shares of the model, and what each step of the code does to them.
use Rattle.std.specs.Prelude.{ℕ, ◌+◌, ◌-◌, ◌<◌, ◌≡◌, List, map, length}
use Rattle.std.specs.declared.option.Option.{Option}
use Rattle.std.specs.declared.option.Option.TheVariants.{None, Some}
use Rattle.std.specs.List.{HoldsAt}
use Rattle.std.proofs.Math.Option.{some, none}
use Rattle.model.specs.Lists.{Distinct}
use Rattle.model.specs.Rule as Model
use Rattle.model.specs.Rule.{next}
use Rattle.figures.specs.declared.Job.{Job}
use Rattle.figures.specs.Jobs.{as_job}
use Rattle.rule.specs.declared.Share.{Share}

abbrev pub as_share : Share → Model.Share
as_share p = record { job = as_job p.job; left = p.left; given = p.given }

abbrev pub as_shares : List Share → List Model.Share
as_shares shares = map as_share shares

-- a job before any slot is filled
abbrev pub fresh_of : Job → Share
fresh_of j = record { job = j; left = j.work; given = 0 }

-- the shares are of jobs with different numbers
abbrev pub Apart : List Share → Type 0
Apart shares = Distinct (map (λ p. p.job.number) (as_shares shares))

-- one more machine, one unit less of work
abbrev pub bumped : Share → Share
bumped p = record { job = p.job; left = p.left - 1; given = p.given + 1 }

abbrev pub cleared : Share → Share
cleared p = record { job = p.job; left = p.left; given = 0 }

-- a share that a machine can be given to
pub record Ready (p : Share) : Type 0 where
  pub more : 0 < p.left
  pub below : p.given < p.job.bound

-- the share at index i is the one that the model's rule gives the next machine of slot t to
pub record IsNext (t : ℕ) (shares : List Share) (i : ℕ) : Type 0 where
  pub within : i < length shares
  pub chosen : HoldsAt (λ p. next t (as_shares shares) ≡ some (as_share p)) shares i

-- the index of that share, or none where no share qualifies
abbrev pub Picked : ℕ → List Share → Option ℕ → Type 0
Picked t shares None = next t (as_shares shares) ≡ none
Picked t shares (Some i) = IsNext t shares i
