use Rattle.std.proofs.Common.{◌≡◌}
use Rattle.promise.specs.DeskCalls.{pairs}
use Rattle.slot.proofs.Laws.{pairs_so_far}
use Rattle.slot.proofs.pairs_of.Given as goal

-- a pair for each of the first i shares, zeros after them
abbrev pub invariant-loop-i : goal.invariant-loop-i
invariant-loop-i l = l.given ≡ pairs (pairs_so_far l.i l.shares.items)
