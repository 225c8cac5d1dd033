use Rattle.std.proofs.Common.{rules, ◌∙◌, ltb, length, ap, unwrap_or}
use Rattle.std.proofs.lemmas.Iterator.{YieldsList-from_slice}
use Rattle.std.proofs.lemmas.Iterator.Search.{position_from_yields_List}
use Rattle.seats.proofs.Laws.{rank_found}
use Rattle.seats.proofs.rank.Goals as goal

pub returns : goal.returns
returns c =
    let held = c.args.held.now in
    let n = c.args.number in
    let e = position_from_yields_List (λ h. ltb n h.number) _ _ c.position.result c.position.ensures.ran (YieldsList-from_slice held cc) (λ x b q k. search rules) in
    rank_found n c.unwrap_or.result held (c.unwrap_or.ensures ∙ ap (λ o. unwrap_or o (length held)) e)
