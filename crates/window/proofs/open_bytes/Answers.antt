use Rattle.std.proofs.Common.{rules}
use Rattle.std.proofs.lemmas.Result.{err_from_is_err_and}
use Rattle.window.proofs.Desks.{open_no, open_no_record, open_yes}
use Rattle.window.proofs.open_bytes.Goals as goal

pub returns-in_err-opened : goal.returns-in_err-opened
returns-in_err-opened c =
    let p = err_from_is_err_and c.from_residual.result c.from_residual.ensures.1 in
    let r = open_no c.args.machines c.args.bytes.now _ c.open-opened.ensures _ c.in_err-opened.was in
    rw (p.1, p.2) record { sendable = r.0; promised = r.1 }

pub returns-in_err-record : goal.returns-in_err-record
returns-in_err-record c =
    let p = err_from_is_err_and c.from_residual-in_err-record.result c.from_residual-in_err-record.ensures.1 in
    let r =
    open_no_record c.args.machines c.args.bytes.now _ c.open-opened.ensures c.in_ok-opened.was (search rules) c.in_err-record.field-0.0 (search rules) in
    rw (p.1, p.2) record { sendable = r.0; promised = r.1 }

pub returns-clause-promised : goal.returns-clause-promised
returns-clause-promised c =
    open_yes c.args.machines c.args.bytes.now _ c.open-opened.ensures c.in_ok-opened.was (search rules) _ c.write_desk.ensures
