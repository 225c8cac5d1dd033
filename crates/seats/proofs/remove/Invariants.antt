use Rattle.std.proofs.Common.{◌≡◌}
use Rattle.std.specs.List.{remove}
use Rattle.seats.proofs.remove.Given as goal

-- the seat here, taken out, leaves the same seats as the one taken out at the start
abbrev pub invariant-loop-i : goal.invariant-loop-i
invariant-loop-i l = remove l.seats l.i ≡ remove l.fn.seats l.at
