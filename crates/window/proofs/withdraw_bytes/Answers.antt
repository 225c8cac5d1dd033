use Rattle.std.proofs.Common.{rules, ◌≡◌}
use Rattle.std.proofs.lemmas.Result.{err_from_is_err_and}
use Rattle.window.proofs.Desks.{withdraw_no_record, withdraw_no, withdraw_yes}
use Rattle.window.proofs.withdraw_bytes.Goals as goal

pub returns-in_err-record : goal.returns-in_err-record
returns-in_err-record c =
    let p = err_from_is_err_and c.from_residual.result c.from_residual.ensures.1 in
    let r = withdraw_no_record c.args.bytes.now c.args.number (search rules) c.in_err-record.field-0.0 (search rules) in
    rw (p.1, p.2) record { sendable = r.0; promised = r.1 }

pub returns-in_err-left : goal.returns-in_err-left
returns-in_err-left c =
    let p = err_from_is_err_and c.from_residual-in_err-left.result c.from_residual-in_err-left.ensures.1 in
    let same : c.in_ok-record.record.now ≡ c.args.bytes.now = search rules in
    let r = withdraw_no c.args.bytes.now c.args.number (search rules) _ (search rules) _ c.withdraw-withdrawn.ensures _ c.in_err-left.was in
    rw (p.1, p.2, same) record { sendable = r.0; promised = r.1 }

pub returns-clause-promised : goal.returns-clause-promised
returns-clause-promised c =
    withdraw_yes c.args.bytes.now c.args.number (search rules) _ (search rules) _ c.withdraw-withdrawn.ensures _ c.in_ok-left.was _ c.write_desk.ensures
