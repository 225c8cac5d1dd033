-- One answer, one figure and one content of the buffer meet a promise.
use mathlib.Core.Path.{sym, ◌∙◌}
use Rattle.promise.specs.Claims.{PlanPromiseLeavesOne, RoomPromiseLeavesOne, WindowPromisesLeaveOne}
use Rattle.promise.specs.TextClaims.{TextPromisesLeaveOne}

pub plan_promise_leaves_one : PlanPromiseLeavesOne
plan_promise_leaves_one machines rows lent a a' after after' p q = (p.answered ∙ sym q.answered, p.left ∙ sym q.left)

pub room_promise_leaves_one : RoomPromiseLeavesOne
room_promise_leaves_one machines rows b r r' p q =
    λ i. record { answer = (p.answered ∙ sym q.answered) i; room = (p.figure ∙ sym q.figure) i }

pub window_promises_leave_one : WindowPromisesLeaveOne
window_promises_leave_one machines list lent word word' after after' = (
  (λ p q. (p.answered ∙ sym q.answered, p.left ∙ sym q.left)),
  (λ p q. (p.answered ∙ sym q.answered, p.left ∙ sym q.left)),
  λ b p q. p ∙ sym q,
)

pub text_promises_leave_one : TextPromisesLeaveOne
text_promises_leave_one bytes = (
  (λ r r' p q. p ∙ sym q),
  λ x x' p q i. record { bytes = (p.printed ∙ sym q.printed) i; len = (p.counted ∙ sym q.counted) i },
)
