use Rattle.rows.proofs.Rows.{shape_stops}
use Rattle.rows.proofs.list_fault.Goals as goal

pub returns-in_err-shape_fault : goal.returns-in_err-shape_fault
returns-in_err-shape_fault c = shape_stops _ _ _ _ c.from_residual.ensures.1 c.in_err-shape_fault.ensures.answer
