-- S4: Admit's 7 is true.
use native.Mathlib.Omega.{arith}
use mathlib.Core.Path.{◌≡◌, refl}
use mathlib.Core.Logic.{◌↔◌}
use mathlib.Core.List.{map}
use mathlib.Core.Option.{Option, some, none}
use lib.Signed.{clash_ℤ}
use Rattle.model.specs.Lists.{Distinct}
use Rattle.model.specs.Jobs.{Job, numbers}
use Rattle.model.specs.Boundaries.{RoomEverywhere, Short, least_short}
use Rattle.model.specs.Schedules.{Possible}
use Rattle.model.proofs.LeastShort.{least_short_is_named, none_short_is_named}
use Rattle.model.proofs.Exactly.{schedule_exactly_if_room, counted_changes_nothing}
use Rattle.promise.specs.declared.Desk.{Desk}
use Rattle.promise.specs.Desk.{as_planned, to_plan}
use Rattle.promise.specs.DeskCalls.{desk_fit, with_new, jobs_with, admit_answer}
use Rattle.promise.specs.DeskClaims.{AdmitIsExact, AdmitSevenIsTrue}
use Rattle.promise.proofs.DeskSeats.{sound_seated, to_plan_distinct}
use Rattle.promise.proofs.DeskTable.{answers_fit}
use Rattle.promise.proofs.DeskKept.{new_rising}

module _ (desk : Desk) (j : Job) (d : Distinct (numbers (jobs_with desk j))) where
  -- the jobs as they count have the schedules of the jobs as they are
  possible_if_room : Possible desk.machines (map (as_planned desk.clock) (with_new desk j)) ↔ RoomEverywhere desk.machines (jobs_with desk j)
  unfolding to_plan
  possible_if_room =
      let m = schedule_exactly_if_room desk.machines (jobs_with desk j) d in
      let c = counted_changes_nothing desk.machines (map (as_planned desk.clock) (with_new desk j)) in
      ((λ s. m.0 (s.0, (c s.0).1 s.1)), λ r. let s = m.1 r in (s.0, (c s.0).0 s.1))

  fit_exact : (o : Option Short) → least_short desk.machines (jobs_with desk j) ≡ o → admit_answer desk j ≡ desk_fit desk.clock o → AdmitIsExact desk j
  fit_exact none e a = record {
    exactly = rw a ((λ q. absurd (omega arith)), λ n. absurd (n (possible_if_room.1 ((none_short_is_named desk.machines (jobs_with desk j)).0 e))));
    names = rw a (λ q. absurd (omega arith));
  }
  fit_exact (some s) e a =
      let l = (least_short_is_named desk.machines (jobs_with desk j) s).0 e in
      record {
        exactly = rw a ((λ q p. clash_ℤ l.short (possible_if_room.0 p s.place l.boundary)), λ n. refl);
        names = rw a (λ q. (s.place, refl, l));
      }

pub admit_seven_is_true : AdmitSevenIsTrue
admit_seven_is_true desk j s f n g =
    fit_exact desk j (to_plan_distinct desk.machines desk.clock (with_new desk j) (new_rising desk j s.rising n))
    (least_short desk.machines (jobs_with desk j)) refl (answers_fit desk j (sound_seated desk s) s f n g)
