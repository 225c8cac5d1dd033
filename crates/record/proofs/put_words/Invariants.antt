use Rattle.std.proofs.Common.{◌≡◌, take}
use Rattle.promise.specs.DeskWindow.{sent_over}
use Rattle.record.proofs.put_words.Given as goal

-- the first i numbers are written
abbrev pub invariant-loop-i : goal.invariant-loop-i
invariant-loop-i l = l.out ≡ sent_over (take l.i l.words) l.initial.out
