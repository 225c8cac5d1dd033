-- Rm: the figure of Room.
use Prim.Native.Nat.{ℕ}
use mathlib.Core.Path.{◌≡◌}
use borrow.Author.Tests.{eq-eqb, ne_eqb}
use Rattle.model.specs.Jobs.{room}
use Rattle.promise.specs.Answers.{yes}
use Rattle.promise.specs.Lists.{Holds, answer_of, room_order, room_answer, room_figure}
use Rattle.promise.specs.Claims.{RoomFigureIsTheRoom}
use Rattle.promise.proofs.Ladder.{same_number, zero_yes}
use Rattle.promise.proofs.Table.{refuses, gives_room}

pub room_figure_is_the_room : RoomFigureIsTheRoom
unfolding room_figure room
room_figure_is_the_room machines rows b =
    ((λ e. rw (eq-eqb number 0 (same_number e))), λ n. rw (ne_eqb number 0 (λ z. n (zero_is_yes z))))
  where
    number : ℕ
    number = (room_answer machines rows b).number

    zero_is_yes : number ≡ 0 → room_answer machines rows b ≡ yes
    zero_is_yes z =
        zero_yes (Holds machines rows) (answer_of machines rows) (refuses machines rows) (room_order rows b) (room_answer machines rows b) z
        (gives_room machines rows b)
