use Rattle.std.proofs.Common.{◌-◌, ◌≤◌}
use Rattle.figures.specs.Jobs.{as_jobs}
use Rattle.walk.proofs.Steps.{FromHere}
use Rattle.walk.proofs.walk.Given as goal

abbrev pub invariant-loop-room : goal.invariant-loop-room
invariant-loop-room l = record { within : l.b ≤ 168; from_here : FromHere (as_jobs l.jobs.items) l.machines l.b }

abbrev pub decreases-loop-room : goal.decreases-loop-room
decreases-loop-room l = 168 - l.b
