use Rattle.std.proofs.Common.{◌*◌, eqb, get_or, ◌∙◌, rules, tests}
use Rattle.std.proofs.lemmas.Iterator.Search.{any_from_yields_List}
use Rattle.rows.proofs.Rows.{YieldsList-from_down, seen_any}
use Rattle.rows.proofs.seen.Goals as goal

pub returns : goal.returns
returns c =
    let a = c.args in
    any_from_yields_List (λ k. eqb (get_or a.rows.now (4 * k) 0) a.number) _ _ _ c.any.ensures.ran (YieldsList-from_down a.i c.rev.ensures.source)
    (λ x b q k. search (rules, tests))
    ∙ seen_any a.rows.now a.number a.i
