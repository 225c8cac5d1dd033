use Rattle.std.proofs.Common.{◌≡◌, length}
use Rattle.model.specs.Jobs.{counted}
use Rattle.figures.specs.Jobs.{as_jobs}
use Rattle.promise.specs.Rows.{job_rows}
use Rattle.rows.proofs.load.Given as goal

abbrev pub invariant-loop-i : goal.invariant-loop-i
invariant-loop-i l = record { many : length l.jobs.items ≡ l.i; so_far : as_jobs l.jobs.items ≡ counted l.machines (job_rows l.rows 0 l.i) }
