use Rattle.std.proofs.Common.{◌≡◌, length, take}
use Rattle.figures.specs.Jobs.{as_jobs}
use Rattle.promise.specs.Desk.{to_plan}
use Rattle.sound.proofs.jobs_of.Given as goal

abbrev pub invariant-loop-h : goal.invariant-loop-h
invariant-loop-h l = record {
  counted : length l.jobs.items ≡ l.h-index;
  so_far : as_jobs l.jobs.items ≡ to_plan l.machines l.clock (take l.h-index l.held);
}
