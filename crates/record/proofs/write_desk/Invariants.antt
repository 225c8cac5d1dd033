use Rattle.std.proofs.Common.{◌≡◌, ◌∷◌, take}
use mathlib.Core.List.{map, flatten}
use Rattle.promise.specs.DeskWindow.{seat_numbers, sent_over}
use Rattle.record.proofs.write_desk.Given as goal

-- the two numbers before the seats are written, and the first i seats
abbrev pub invariant-loop-i : goal.invariant-loop-i
invariant-loop-i l = l.out ≡ sent_over (l.desk.machines ∷ l.desk.clock ∷ flatten (map seat_numbers (take l.i l.desk.seats))) l.fn.out
