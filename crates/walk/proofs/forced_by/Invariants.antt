use Rattle.std.proofs.Common.{◌≡◌, ◌≤◌, ◌*◌, take}
use Rattle.model.specs.Jobs.{forced}
use Rattle.figures.specs.Jobs.{as_jobs}
use Rattle.walk.proofs.forced_by.Given as goal

abbrev pub invariant-loop-job : goal.invariant-loop-job
invariant-loop-job l = record { so_far : l.sum ≡ forced (as_jobs (take l.job-index l.jobs.items)) l.b; within : l.sum ≤ 60000 * l.job-index }
