use Rattle.std.proofs.Common.{length-set, ◌∙◌, arith}
use Rattle.window.proofs.Lists.{word_read}
use Rattle.window.proofs.words.Goals as goal

pub loop-i-preserved : goal.loop-i-preserved
loop-i-preserved c =
    let l = c.loop-i in
    record {
      size = length-set l.numbers l.i c.word_at.result ∙ l.invariant.size;
      so_far = word_read c.args.list.now l.numbers l.i c.word_at.result (omega (arith, l.invariant.size)) c.word_at.ensures l.invariant.so_far;
    }
