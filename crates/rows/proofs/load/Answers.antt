use Rattle.std.proofs.Common.{arith}
use Rattle.rows.proofs.Rows.{loaded_more}
use Rattle.rows.proofs.load.Goals as goal

pub loop-i-preserved : goal.loop-i-preserved
loop-i-preserved c =
    let l = c.loop-i in
    record {
      many = omega arith;
      so_far = rw c.push.ensures.items (loaded_more c.args.machines c.args.rows.now l.jobs.items l.i _ _ l.invariant.so_far c.row-j.ensures c.width.ensures);
    }
