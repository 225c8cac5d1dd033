use Rattle.std.proofs.Common.{◌≡◌, map, take}
use Rattle.rule.specs.Shares.{fresh_of}
use Rattle.planner.proofs.start.Given as goal

-- the shares so far are those of the jobs so far, fresh
abbrev pub invariant-loop-job : goal.invariant-loop-job
invariant-loop-job l = l.shares.items ≡ map fresh_of (take l.job-index l.jobs.items)
