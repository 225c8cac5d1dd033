use Rattle.std.proofs.Common.{rules, ◌∙◌, eqb}
use Rattle.std.proofs.lemmas.Iterator.{YieldsList-from_slice}
use Rattle.std.proofs.lemmas.Iterator.Search.{position_from_yields_List}
use Rattle.std.proofs.lemmas.Iterator.Adapters.{position_from-zero}
use Rattle.seats.proofs.Laws.{find_from}
use Rattle.seats.proofs.find.Goals as goal

pub returns : goal.returns
returns c =
    let held = c.args.held.now in
    let n = c.args.number in
    position_from_yields_List (λ h. eqb h.number n) _ _ _ c.position.ensures.ran (YieldsList-from_slice held cc) (λ x b q k. search rules)
    ∙ position_from-zero (λ h. eqb h.number n) held
    ∙ find_from n 0 held
