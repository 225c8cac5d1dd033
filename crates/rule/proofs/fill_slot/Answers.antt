use Rattle.std.proofs.Common.{arith, ◌∙◌}
use Rattle.rule.proofs.Laws.{hand_ready, hand_one, hand_apart}
use Rattle.rule.proofs.fill_slot.Goals as goal

pub give-requires : goal.give-requires
give-requires c = hand_ready _ _ _ c.in-Some.ensures _

pub loop-preserved : goal.loop-preserved
loop-preserved c =
    let v = c.loop.invariant in record {
      same = v.same ∙ hand_one _ _ _ c.in-Some.ensures _ _ c.give.ensures v.apart c.args.machines c.loop.counter (omega arith);
      apart = hand_apart _ _ _ c.in-Some.ensures _ _ c.give.ensures v.apart;
    }
