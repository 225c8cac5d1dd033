use Rattle.std.proofs.Common.{rules, ap, ◌∙◌, eqb, unwrap_or}
use Rattle.std.proofs.lemmas.Iterator.{YieldsList-from_slice}
use Rattle.std.proofs.lemmas.Iterator.Search.{position_from_yields_List}
use Rattle.sound.proofs.Laws.{held_first}
use Rattle.sound.proofs.held.Goals as goal

pub returns-clause-seats : goal.returns-clause-seats
returns-clause-seats c =
    let desk = c.args.desk.now in
    let e = position_from_yields_List (λ h. eqb h.number 0) _ _ c.position.result c.position.ensures.ran (YieldsList-from_slice desk.seats cc) (λ x b q k. search rules) in
    held_first desk c.unwrap_or-n.result (search rules) (c.unwrap_or-n.ensures ∙ ap (λ o. unwrap_or o 32) e)
