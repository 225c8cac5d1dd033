use Rattle.std.proofs.Common.{◌≡◌, ◌-◌}
use Rattle.promise.specs.Rows.{row_count, rows_fault}
use Rattle.rows.proofs.rows_fault.Given as goal

abbrev pub invariant-loop-i : goal.invariant-loop-i
invariant-loop-i l = rows_fault l.rows 0 (row_count l.rows) ≡ rows_fault l.rows l.i (row_count l.rows - l.i)
