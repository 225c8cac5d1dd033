use Rattle.std.proofs.Common.{◌≡◌, ◌++◌, ◌+◌, ◌*◌, ◌≤◌, length}
use Rattle.std.specs.Iterator.Adapters.{zip_first, zip_second}
use Rattle.std.specs.Slice.Iter.{chunks_exact_rest, chunks_exact_size}
use Rattle.promise.specs.Rows.{row_count}
use Rattle.plantext.specs.Rows.{rows_lines}
use Rattle.plantext.proofs.write_rows.Given as goal

-- what is still to be written is the lines of the rows that the iterator has left
abbrev pub invariant-loop-row : goal.invariant-loop-row
invariant-loop-row l =
    let rows = chunks_exact_rest (zip_first l.row-iterator) in
    let plan = chunks_exact_rest (zip_second l.row-iterator) in
    record {
      four : chunks_exact_size (zip_first l.row-iterator) ≡ 4;
      slots : chunks_exact_size (zip_second l.row-iterator) ≡ 168;
      parts : 168 * row_count rows ≤ length plan;
      so_far : l.page.items ++ rows_lines rows plan ≡ l.fn.page.items ++ rows_lines l.rows l.plan;
      fits : length l.page.items + length (rows_lines rows plan) ≤ 40960;
    }
