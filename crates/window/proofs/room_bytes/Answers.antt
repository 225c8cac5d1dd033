use mir.Val.{SFits}
use Rattle.std.proofs.Common.{rules, w32}
use Rattle.std.proofs.lemmas.Int.{to_z-of_z}
use Rattle.std.proofs.lemmas.Result.{err_from_is_err_and}
use Rattle.window.proofs.Lists.{rows_read}
use Rattle.window.proofs.Plans.{room_early, room_no, room_yes}
use Rattle.window.proofs.room_bytes.Goals as goal

pub returns-in_err-early_fault : goal.returns-in_err-early_fault
returns-in_err-early_fault c =
    let p = err_from_is_err_and c.from_residual.result c.from_residual.ensures.1 in
    let r = room_early c.args.machines c.args.list.now c.args.boundary _ c.in_err-early_fault.ensures.answer in
    rw (p.1, p.2) record { sendable = r.0; promised = r.1 }

pub returns-in_err-room : goal.returns-in_err-room
returns-in_err-room c =
    let p = err_from_is_err_and c.from_residual-in_err-room.result c.from_residual-in_err-room.ensures.1 in
    let early = c.in_ok-early_fault.ensures in
    let r = room_no c.args.machines c.args.list.now c.args.boundary early.answer _ (rows_read c.args.list.now _ early.shaped.0 c.words-numbers.ensures) _ c.in_err-room.ensures in
    rw (p.1, p.2) record { sendable = r.0; promised = r.1 }

pub returns-clause-promised : goal.returns-clause-promised
returns-clause-promised c =
    let early = c.in_ok-early_fault.ensures in
    let fits : SFits w32 c.in_ok-room.room = search rules in
    room_yes c.args.machines c.args.list.now c.args.boundary early.answer _ (rows_read c.args.list.now _ early.shaped.0 c.words-numbers.ensures) _ c.in_ok-room.ensures _
    (simp to_z-of_z at c.room_word.ensures)
