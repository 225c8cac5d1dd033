use Rattle.std.proofs.Common.{◌≡◌, length, take}
use Rattle.promise.specs.Window.{words_from}
use Rattle.window.proofs.words.Given as goal

-- the first i numbers are read
abbrev pub invariant-loop-i : goal.invariant-loop-i
invariant-loop-i l = record { size : length l.numbers ≡ 128; so_far : take l.i l.numbers ≡ words_from l.list 0 l.i }
