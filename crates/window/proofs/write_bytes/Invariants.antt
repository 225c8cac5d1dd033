use Rattle.std.proofs.Common.{◌≡◌, ◌++◌, ◌*◌, take, drop}
use Rattle.promise.specs.Window.{bytes_of}
use Rattle.window.proofs.write_bytes.Given as goal

-- the first i numbers are written
abbrev pub invariant-loop-i : goal.invariant-loop-i
invariant-loop-i l = l.plan ≡ bytes_of (take l.i l.numbers) ++ drop (2 * l.i) l.initial.plan
