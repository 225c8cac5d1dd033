use Rattle.std.proofs.Common.{arith, refl, []}
use Rattle.promise.specs.DeskWindow.{pair_numbers}
use Rattle.record.proofs.Buffers.{row_step}
use Rattle.record.proofs.write_pairs.Goals as goal

pub loop-i-preserved : goal.loop-i-preserved
loop-i-preserved c =
    let l = c.loop-i in
    row_step pair_numbers 2 (λ g. refl) [] c.args.given.now c.args.out.now l.out _ l.i _ _ _ (omega arith) (omega arith) (omega arith) (omega arith)
    l.invariant c.put_words.ensures
