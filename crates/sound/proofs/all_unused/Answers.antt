use Rattle.std.proofs.Common.{rules, sym, ◌∙◌}
use Rattle.std.proofs.lemmas.Iterator.{YieldsList-from_slice}
use Rattle.std.proofs.lemmas.Iterator.Search.{all_from_yields_List}
use Rattle.promise.specs.DeskCalls.{is_unused}
use Rattle.sound.proofs.Laws.{unused_each}
use Rattle.sound.proofs.all_unused.Goals as goal

pub returns : goal.returns
returns c =
    let seats = c.args.seats.now in
    all_from_yields_List is_unused _ _ _ c.all.ensures.ran (YieldsList-from_slice seats cc) (λ x b q k. search rules) ∙ sym (unused_each seats)
