use Rattle.std.proofs.Common.{rules, ap, ◌∙◌}
use Rattle.promise.specs.Window.{pack}
use Rattle.promise.proofs.Theorems.{answers_pack}
use Rattle.window.proofs.Refused.{mapped}
use Rattle.window.proofs.vezhdanur_plan_numbers.Goals as goal

pub word-requires : goal.word-requires
word-requires c =
    (mapped c.plan.result c.map.result _ (λ x n p. search rules) c.map.ensures.cases).0 (rw c.plan.ensures.answered (answers_pack _ _ _).0)

pub returns : goal.returns
returns c = record {
  answered = c.word.ensures ∙ (mapped c.plan.result c.map.result _ (λ x n p. search rules) c.map.ensures.cases).1 ∙ ap pack c.plan.ensures.answered;
  left = c.plan.ensures.left;
}
