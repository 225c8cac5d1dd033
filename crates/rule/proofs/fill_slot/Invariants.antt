use Rattle.std.proofs.Common.{◌≡◌, ◌-◌}
use Rattle.model.specs.Rule.{hand_out, fill}
use Rattle.rule.specs.Shares.{as_shares, Apart}
use Rattle.rule.proofs.fill_slot.Given as goal

-- what is left to hand out, handed out, makes the same shares as all of it at the start
abbrev pub invariant-loop : goal.invariant-loop
invariant-loop l = record {
  same : fill l.machines l.t (as_shares l.fn.shares) ≡ hand_out (l.machines - l.counter) l.t (as_shares l.shares);
  apart : Apart l.shares;
}
