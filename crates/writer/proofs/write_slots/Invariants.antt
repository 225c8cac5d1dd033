use Rattle.std.proofs.Common.{◌≡◌, ◌++◌, ◌+◌, ◌≤◌, length, drop, false}
use Rattle.writer.specs.Writing.{slots_text}
use Rattle.writer.proofs.write_slots.Given as goal

abbrev pub invariant-loop-i : goal.invariant-loop-i
invariant-loop-i l =
    record {
      so_far : l.page.items ++ slots_text l.comma (l.i + 1) (drop l.i l.machines) ≡ l.fn.page.items ++ slots_text false 1 l.machines;
      fits : length l.page.items + length (slots_text l.comma (l.i + 1) (drop l.i l.machines)) ≤ 40960;
    }
