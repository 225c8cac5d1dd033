use Rattle.std.proofs.Common.{arith, rules, refl, ◌∷◌, []}
use Rattle.promise.specs.Desk.{unused}
use Rattle.promise.specs.DeskWindow.{seat_numbers}
use Rattle.record.proofs.Buffers.{row_step, desk_end}
use Rattle.record.proofs.write_desk.Goals as goal

pub loop-i-preserved : goal.loop-i-preserved
loop-i-preserved c =
    let l = c.loop-i in
    let d = c.args.desk.now in
    row_step seat_numbers 6 (λ h. refl) (d.machines ∷ d.clock ∷ []) d.seats c.args.out.now l.out _ l.i _ _ unused (omega arith) (omega arith) (omega arith)
    (omega arith) l.invariant c.put_words-in-loop-i.ensures

pub returns : goal.returns
returns c =
    let l = c.loop-i in
    desk_end c.args.desk.now c.args.out.now l.out l.i (search rules) (search rules) c.loop-i-test.false l.invariant
