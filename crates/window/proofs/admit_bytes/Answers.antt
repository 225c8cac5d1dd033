use Rattle.std.proofs.Common.{rules, ◌≡◌}
use Rattle.std.proofs.lemmas.Result.{err_from_is_err_and}
use Rattle.window.proofs.Desks.{admit_no_record, admit_no, admit_yes}
use Rattle.window.proofs.admit_bytes.Goals as goal

pub returns-in_err-record : goal.returns-in_err-record
returns-in_err-record c =
    let p = err_from_is_err_and c.from_residual.result c.from_residual.ensures.1 in
    let r = admit_no_record c.args.bytes.now _ (search rules) c.in_err-record.field-0.0 (search rules) in
    rw (p.1, p.2) record { sendable = r.0; promised = r.1 }

pub returns-in_err-admitted : goal.returns-in_err-admitted
returns-in_err-admitted c =
    let p = err_from_is_err_and c.from_residual-in_err-admitted.result c.from_residual-in_err-admitted.ensures.1 in
    let same : c.in_ok-record.record.now ≡ c.args.bytes.now = search rules in
    let r = admit_no c.args.bytes.now _ (search rules) _ (search rules) _ c.admit-admitted.ensures _ c.in_err-admitted.was in
    rw (p.1, p.2, same) record { sendable = r.0; promised = r.1 }

pub returns-clause-promised : goal.returns-clause-promised
returns-clause-promised c =
    admit_yes c.args.bytes.now _ (search rules) _ (search rules) _ c.admit-admitted.ensures c.in_ok-admitted.was _ c.write_desk.ensures
