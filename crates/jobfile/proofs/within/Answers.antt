use Rattle.std.proofs.Common.{leb, ◌&&◌, ◌∙◌, rules, tests}
use Rattle.std.proofs.lemmas.Iterator.{YieldsList-from_slice}
use Rattle.std.proofs.lemmas.Iterator.Search.{all_from_yields_List}
use Rattle.jobfile.proofs.Laws.{all_within_is}
use Rattle.jobfile.proofs.within.Goals as goal

pub returns : goal.returns
returns c =
    let least = c.args.least in
    let most = c.args.most in
    all_from_yields_List (λ b. leb least b && leb b most) _ _ _ c.all.ensures.ran (YieldsList-from_slice c.args.text.now cc) (λ x b q k. search (rules, tests))
    ∙ all_within_is least most c.args.text.now
