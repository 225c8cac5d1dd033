-- L3: the 7 is true.
use Prim.Native.Nat.{ℕ, suc, ◌<◌}
use native.Mathlib.Omega.{arith}
use mathlib.Core.Path.{◌≡◌, refl}
use mathlib.Core.Logic.{◌↔◌}
use mathlib.Core.List.{List, [], ◌∷◌}
use mathlib.Core.Option.{Option, some, none}
use lib.Dec.{ltb→lt}
use lib.IntN.{ℤ, pos, negsuc, neg_ℤ}
use lib.Signed.{◌<ℤ◌, clash_ℤ}
use Rattle.model.specs.Lists.{Distinct}
use Rattle.model.specs.Jobs.{Job, numbers, room, counted}
use Rattle.model.specs.Boundaries.{RoomEverywhere, Short, least_short}
use Rattle.model.specs.Schedules.{Possible}
use Rattle.model.proofs.LeastShort.{least_short_is_named, none_short_is_named}
use Rattle.model.proofs.Exactly.{schedule_exactly_if_room, counted_changes_nothing}
use Rattle.promise.specs.Answers.{fit_answer}
use Rattle.promise.specs.Rows.{jobs_of, plan_buffer_test, list_fault, list_order}
use Rattle.promise.specs.Lists.{planned, Holds, answer_of}
use Rattle.promise.specs.Claims.{SevenIsTrue, PlanSevenIsTrue}
use Rattle.promise.proofs.Ladder.{All-front, All-back, none_holds}
use Rattle.promise.proofs.Table.{gives_list}
use Rattle.promise.proofs.Sound.{planned_distinct, answers_fit}

-- a negative room, negated, is above 0
above_zero : (n : ℕ) (z : ℤ) → z <ℤ pos 0 → pos n ≡ neg_ℤ z → 0 < n
above_zero n (pos k) h e = absurd (omega (arith, ltb→lt k 0 h.lt))
above_zero n (negsuc k) h e = let p : n ≡ suc k = cc in omega arith

counted_possible : (C : ℕ) (jobs : List Job) → Possible C (counted C jobs) ↔ Possible C jobs
counted_possible C jobs =
    ((λ s. (s.0, (counted_changes_nothing C jobs s.0).0 s.1)), λ s. (s.0, (counted_changes_nothing C jobs s.0).1 s.1))

module _ (machines : ℕ) (rows : List ℕ) (d : Distinct (numbers (planned machines rows))) where
  possible_if_room : Possible machines (jobs_of rows) ↔ RoomEverywhere machines (planned machines rows)
  unfolding planned
  possible_if_room =
      let c = counted_possible machines (jobs_of rows) in
      let m = schedule_exactly_if_room machines (planned machines rows) d in
      ((λ s. m.0 (c.1 s)), λ r. c.0 (m.1 r))

  fit_seven : (o : Option Short) → least_short machines (planned machines rows) ≡ o → SevenIsTrue machines rows (fit_answer o)
  fit_seven none e = record {
    exactly = ((λ q. absurd (omega arith)), λ n. absurd (n (possible_if_room.1 ((none_short_is_named machines (planned machines rows)).0 e))));
    names = λ q. absurd (omega arith);
  }
  fit_seven (some s) e =
      let l = (least_short_is_named machines (planned machines rows) s).0 e in
      record {
        exactly = ((λ q p. clash_ℤ l.short (possible_if_room.0 p s.place l.boundary)), λ n. refl);
        names = λ q. (l, above_zero s.amount (room machines (planned machines rows) s.place) l.short l.amount);
      }

pub plan_seven_is_true : PlanSevenIsTrue
plan_seven_is_true machines rows size h =
    let front = All-front (λ x. ¬ Holds machines rows x) (list_order rows) (plan_buffer_test size ∷ []) h in
    let back = All-back (λ x. ¬ Holds machines rows x) (list_order rows) (plan_buffer_test size ∷ []) h in
    let faultless = none_holds (Holds machines rows) (answer_of machines rows) (list_order rows) (list_fault machines rows) (gives_list machines rows) front in
    rw (answers_fit machines rows size faultless (omega (arith, back.0)))
    (fit_seven machines rows (planned_distinct machines rows front) (least_short machines (planned machines rows)) refl)
