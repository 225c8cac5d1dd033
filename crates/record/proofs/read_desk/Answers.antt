use Rattle.std.proofs.Common.{rules}
use Rattle.promise.specs.DeskWindow.{desk_read}
use Rattle.record.proofs.Seats.{seats_read}
use Rattle.record.proofs.read_desk.Goals as goal

pub returns : goal.returns
unfolding desk_read
returns c =
    let items = c.from_fn.ensures.items in
    let seats = seats_read _ _ c.args.bytes.now (λ i h q k. search rules) c.from_fn.result items.long items.each in
    λ t. record { machines = c.word_at.ensures t; clock = c.word_at-2.ensures t; seats = seats t }
