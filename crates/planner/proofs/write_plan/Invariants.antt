use Rattle.std.proofs.Common.{◌≡◌, length}
use Rattle.model.specs.Rule.{plan_rows}
use Rattle.model.proofs.Shares.{jobs_of}
use Rattle.figures.specs.Jobs.{as_jobs}
use Rattle.rule.specs.Shares.{as_shares}
use Rattle.promise.specs.Lists.{written}
use Rattle.planner.proofs.Writing.{write_from}
use Rattle.planner.proofs.write_plan.Given as goal

-- the slots that are left, written from here, make the plan; the shares stay the jobs' own
abbrev pub invariant-loop-t : goal.invariant-loop-t
invariant-loop-t l = record {
  rest :
      write_from l.machines l.t (as_shares l.shares.items) l.plan ≡ written (plan_rows l.machines (as_jobs l.jobs.items)) (length l.jobs.items) l.fn.plan;
  theirs : jobs_of (as_shares l.shares.items) ≡ as_jobs l.jobs.items;
}
