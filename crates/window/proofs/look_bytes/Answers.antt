use Rattle.std.proofs.Common.{rules}
use Rattle.std.proofs.lemmas.Result.{err_from_is_err_and}
use Rattle.window.proofs.Desks.{look_no_record, look_early, look_no, look_yes}
use Rattle.window.proofs.look_bytes.Goals as goal

pub returns-in_err-record : goal.returns-in_err-record
returns-in_err-record c =
    let p = err_from_is_err_and c.from_residual.result c.from_residual.ensures.1 in
    let r = look_no_record c.args.bytes.now c.args.number c.args.figures.now (search rules) c.in_err-record.field-0.0 (search rules) in
    rw (p.1, p.2) record { sendable = r.0; promised = r.1 }

pub returns-in_err-held : goal.returns-in_err-held
returns-in_err-held c =
    let p = err_from_is_err_and c.from_residual-in_err-held.result c.from_residual-in_err-held.ensures.1 in
    let r = look_early c.args.bytes.now c.args.number c.args.figures.now _ (search rules) in
    rw (p.1, p.2) record { sendable = r.0; promised = r.1 }

pub returns-in_err-told : goal.returns-in_err-told
returns-in_err-told c =
    let p = err_from_is_err_and c.from_residual-in_err-told.result c.from_residual-in_err-told.ensures.1 in
    let r = look_no c.args.bytes.now c.args.number c.args.figures.now (search rules) _ (search rules) _ c.look.ensures _ c.in_err-told.was in
    rw (p.1, p.2) record { sendable = r.0; promised = r.1 }

pub returns-clause-promised : goal.returns-clause-promised
returns-clause-promised c =
    look_yes c.args.bytes.now c.args.number c.args.figures.now (search rules) _ (search rules) _ c.look.ensures _ c.in_ok-told.was _ c.write_figures.ensures
