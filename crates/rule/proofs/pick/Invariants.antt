use Rattle.std.proofs.Common.{take}
use Rattle.rule.specs.Shares.{Picked}
use Rattle.rule.proofs.pick.Given as goal

-- the choice among the shares so far
abbrev pub invariant-loop-i : goal.invariant-loop-i
invariant-loop-i l = Picked l.t (take l.i l.shares) l.best
