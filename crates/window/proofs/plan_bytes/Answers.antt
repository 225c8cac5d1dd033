use Rattle.std.proofs.Common.{length, ◌*◌, ◌/◌, refl, arith, length-take-le, ◌∙◌}
use Rattle.std.proofs.lemmas.List.{length-take}
use Rattle.std.proofs.lemmas.Result.{err_from_is_err_and}
use Rattle.promise.specs.Rows.{row_count}
use Rattle.window.proofs.Lists.{rows_read}
use Rattle.window.proofs.Refused.{yes_packed}
use Rattle.window.proofs.Plans.{plan_early, plan_read}
use Rattle.window.proofs.plan_bytes.Goals as goal

pub plan_rows-requires : goal.plan_rows-requires
unfolding row_count
plan_rows-requires c =
    let n = 4 * (length c.args.list.now / 16) in
    length-take-le _ _ (omega (arith, c.in_ok-early_fault.ensures.shaped.1, length-take n c.words-numbers.result)) ∙ c.min-size.ensures

pub returns-in_err-early_fault : goal.returns-in_err-early_fault
returns-in_err-early_fault c =
    let p = err_from_is_err_and c.from_residual.result c.from_residual.ensures.1 in
    let r = plan_early c.args.machines c.args.list.now c.args.plan.now _ c.in_err-early_fault.ensures.answer in
    rw (p.1, p.2) record { sendable = r.0; promised = r.1 }

pub returns-in_err-plan_rows : goal.returns-in_err-plan_rows
returns-in_err-plan_rows c =
    let p = err_from_is_err_and c.from_residual-in_err-plan_rows.result c.from_residual-in_err-plan_rows.ensures.1 in
    let early = c.in_ok-early_fault.ensures in
    let told = c.in_err-plan_rows.ensures in
    let r = plan_read c.args.machines c.args.list.now c.args.plan.now early.answer _ (rows_read c.args.list.now _ early.shaped.0 c.words-numbers.ensures) _ told.answer _ _ refl told.left in
    rw (p.1, p.2) record { sendable = r.0; promised = r.1 }

pub returns-clause-promised : goal.returns-clause-promised
returns-clause-promised c =
    let early = c.in_ok-early_fault.ensures in
    let told = c.in_ok-plan_rows.ensures in
    (plan_read c.args.machines c.args.list.now c.args.plan.now early.answer _ (rows_read c.args.list.now _ early.shaped.0 c.words-numbers.ensures) _ told.answer _ _ yes_packed told.left).1
