use Rattle.std.proofs.lemmas.Result.{err_from_is_err_and}
use Rattle.window.proofs.Plans.{rows_refused, rows_planned}
use Rattle.window.proofs.plan_rows.Goals as goal

pub returns-in_err-plan : goal.returns-in_err-plan
returns-in_err-plan c =
    let p = err_from_is_err_and c.from_residual.result c.from_residual.ensures.1 in
    let r = rows_refused c.args.machines c.args.rows.now c.args.plan.now c.args.cells.now _ c.requires _ c.in_err-plan.ensures in
    rw (p.1, p.2) record { answer = r.0; left = r.1 }

pub returns : goal.returns
returns c =
    let r = rows_planned c.args.machines c.args.rows.now c.args.plan.now c.args.cells.now _ c.requires c.in_ok-plan.ensures _ c.write_bytes.ensures in
    record { answer = r.0; left = r.1 }
