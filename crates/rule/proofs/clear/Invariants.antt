use Rattle.std.proofs.Common.{◌≡◌, ◌++◌, map, take, drop}
use Rattle.rule.specs.Shares.{cleared}
use Rattle.rule.proofs.clear.Given as goal

-- the shares so far are cleared, the others as they were
abbrev pub invariant-loop-share : goal.invariant-loop-share
invariant-loop-share l = l.shares ≡ map cleared (take l.share-index l.fn.shares) ++ drop l.share-index l.fn.shares
