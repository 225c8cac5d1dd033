use Rattle.std.proofs.Common.{◌≡◌}
use Rattle.std.specs.List.{insert}
use Rattle.seats.proofs.insert.Given as goal

-- the job carried, put in here, makes the same seats as the new one put in at the start
abbrev pub invariant-loop-i : goal.invariant-loop-i
invariant-loop-i l = insert l.seats l.i l.carried ≡ insert l.fn.seats l.at l.fn.h
