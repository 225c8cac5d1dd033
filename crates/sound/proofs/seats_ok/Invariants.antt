use Rattle.std.proofs.Common.{◌≡◌, drop}
use Rattle.promise.specs.DeskCalls.{seats_ok}
use Rattle.sound.proofs.seats_ok.Given as goal

abbrev pub invariant-loop-i : goal.invariant-loop-i
invariant-loop-i l = seats_ok l.clock 0 l.seats ≡ seats_ok l.clock l.before (drop l.i l.seats)
