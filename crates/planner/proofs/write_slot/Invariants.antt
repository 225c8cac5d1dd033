use Rattle.std.proofs.Common.{◌≡◌, drop}
use Rattle.rule.specs.Shares.{as_shares}
use Rattle.planner.specs.Writing.{column_of}
use Rattle.planner.proofs.write_slot.Given as goal

-- what is still to be written makes the same column of what is written so far
abbrev pub invariant-loop-i : goal.invariant-loop-i
invariant-loop-i l = column_of l.t 0 (as_shares l.shares) l.fn.plan ≡ column_of l.t l.i (as_shares (drop l.i l.shares)) l.plan
