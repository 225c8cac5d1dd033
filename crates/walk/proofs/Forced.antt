-- The forced work of the first jobs of a list, job by job, and how large it can be.
use Rattle.std.proofs.Common.{ℕ, zero, suc, ◌+◌, ◌*◌, ◌≤◌, ◌<◌, ◌≡◌, List, [], ◌∷◌, length, get_or, take, add-one, arith}
use Rattle.model.specs.Jobs as Model
use Rattle.model.specs.Jobs.{forced, forced_of}
use Rattle.figures.specs.declared.Job.{Job}
use Rattle.figures.specs.Jobs.{as_job, as_jobs}
use Rattle.walk.specs.Walk.{InRange, Small}

pub in_range_at : (jobs : List Job) (i : ℕ) (d : Job) → i < length jobs → Small jobs → InRange (as_job (get_or jobs i d))
in_range_at [] i d h s = absurd (omega arith)
in_range_at (j ∷ jobs) zero d h s = s.0
in_range_at (j ∷ jobs) (suc i) d h s = in_range_at jobs i d (omega arith) s.1

forced_next : (jobs : List Job) (i : ℕ) (d : Job) (b : ℕ) → i < length jobs
    → forced (as_jobs (take (suc i) jobs)) b ≡ forced (as_jobs (take i jobs)) b + forced_of b (as_job (get_or jobs i d))
unfolding forced
forced_next [] i d b h = absurd (omega arith)
forced_next (j ∷ jobs) zero d b h = omega arith
forced_next (j ∷ jobs) (suc i) d b h = omega (arith, forced_next jobs i d b (omega arith))

pub forced_more : (jobs : List Job) (i : ℕ) (d : Job) (b : ℕ) → i < length jobs
    → forced (as_jobs (take (i + 1) jobs)) b ≡ forced (as_jobs (take i jobs)) b + forced_of b (as_job (get_or jobs i d))
forced_more jobs i d b h = rw (add-one i) (forced_next jobs i d b h)

pub forced_of_small : (b : ℕ) (j : Model.Job) → InRange j → forced_of b j ≤ 60000
unfolding forced_of
forced_of_small b j h = omega (arith, h.0)

pub forced_small : (jobs : List Job) (b : ℕ) → Small jobs → forced (as_jobs jobs) b ≤ 60000 * length jobs
unfolding forced
forced_small [] b s = omega arith
forced_small (j ∷ jobs) b s = omega (arith, forced_of_small b (as_job j) s.0, forced_small jobs b s.1)
