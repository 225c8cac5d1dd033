use Rattle.std.proofs.Common.{◌≡◌, take}
use mathlib.Core.List.{map, flatten}
use Rattle.promise.specs.DeskWindow.{pair_numbers, sent_over}
use Rattle.record.proofs.write_pairs.Given as goal

-- the first i pairs are written
abbrev pub invariant-loop-i : goal.invariant-loop-i
invariant-loop-i l = l.out ≡ sent_over (flatten (map pair_numbers (take l.i l.given))) l.initial.out
