use Rattle.std.proofs.Common.{rules, ◌≡◌}
use Rattle.std.proofs.lemmas.Result.{err_from_is_err_and}
use Rattle.window.proofs.Desks.{run_no_record, run_early, run_no, run_yes}
use Rattle.window.proofs.run_bytes.Goals as goal

pub returns-in_err-record : goal.returns-in_err-record
returns-in_err-record c =
    let p = err_from_is_err_and c.from_residual.result c.from_residual.ensures.1 in
    let r = run_no_record c.args.bytes.now c.args.given.now (search rules) c.in_err-record.field-0.0 (search rules) in
    rw (p.1, p.2) record { sendable = r.0; promised = r.1 }

pub returns-in_err-sound_desk : goal.returns-in_err-sound_desk
returns-in_err-sound_desk c =
    let p = err_from_is_err_and c.from_residual-in_err-sound_desk.result c.from_residual-in_err-sound_desk.ensures.1 in
    let same : c.in_ok-record.record.now ≡ c.args.bytes.now = search rules in
    let r = run_early c.args.bytes.now c.args.given.now _ (search rules) in
    rw (p.1, p.2, same) record { sendable = r.0; promised = r.1 }

pub returns-in_err-pairs : goal.returns-in_err-pairs
returns-in_err-pairs c =
    let p = err_from_is_err_and c.from_residual-in_err-pairs.result c.from_residual-in_err-pairs.ensures.1 in
    let same : c.in_ok-record.record.now ≡ c.args.bytes.now = search rules in
    let r = run_no c.args.bytes.now c.args.given.now (search rules) _ (search rules) _ c.run-ran.ensures _ c.in_err-pairs.was in
    rw (p.1, p.2, same) record { sendable = r.0; promised = r.1 }

pub returns-clause-promised : goal.returns-clause-promised
returns-clause-promised c =
    run_yes c.args.bytes.now c.args.given.now (search rules) _ (search rules) _ c.run-ran.ensures _ c.in_ok-pairs.was _ _ c.write_desk.ensures c.write_pairs.ensures
