use Rattle.std.proofs.Common.{◌≡◌, map}
use Rattle.model.specs.Rule.{fresh}
use Rattle.model.proofs.Shares.{jobs_of}
use Rattle.figures.specs.Jobs.{as_jobs}
use Rattle.rule.specs.Shares.{as_shares}
use Rattle.slot.specs.Slot.{fill_down}
use Rattle.slot.proofs.first_slot.Given as goal

-- the slots that are left, filled from here, come to what all of them come to; the shares stay the jobs' own
abbrev pub invariant-loop-t : goal.invariant-loop-t
invariant-loop-t l = record {
  rest : fill_down l.machines l.t (as_shares l.shares.items) ≡ fill_down l.machines 168 (map fresh (as_jobs l.jobs.items));
  theirs : jobs_of (as_shares l.shares.items) ≡ as_jobs l.jobs.items;
}
