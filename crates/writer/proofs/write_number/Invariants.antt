use Rattle.std.proofs.Common.{◌≡◌, ◌++◌, ◌+◌, ◌≤◌, length}
use Rattle.promise.specs.Texts.{decimal}
use Rattle.writer.proofs.Laws.{places_from}
use Rattle.writer.proofs.write_number.Given as goal

abbrev pub invariant-loop-power : goal.invariant-loop-power
invariant-loop-power l =
    record {
      so_far : l.page.items ++ places_from l.power-index l.n ≡ l.fn.page.items ++ decimal l.n;
      fits : length l.page.items + length (places_from l.power-index l.n) ≤ 40960;
    }
