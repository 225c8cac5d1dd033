-- M1 and R1 from their parts; and the jobs as they count.
use Prim.Native.Nat.{ℕ, ◌≤◌}
use native.Mathlib.Nat.{le_refl}
use mathlib.Core.Path.{refl, ap}
use mathlib.Core.List.{List, [], ◌∷◌}
use Rattle.model.specs.Jobs.{Job, greatest_deadline, width, counted}
use Rattle.model.specs.Rule.{plan_in, plan}
use Rattle.model.specs.Claims.{ScheduleExactlyIfRoom, PlanIsValid, BoundsCountAsAsked, CountedChangesNothing}
use Rattle.model.proofs.Signed.{enough_room}
use Rattle.model.proofs.AllSlots.{enough_everywhere}
use Rattle.model.proofs.Necessity.{necessary}
use Rattle.model.proofs.Sufficiency.{sufficient}
use Rattle.model.proofs.Start.{deadlines_le}

pub plan_is_valid : PlanIsValid
unfolding plan plan_in
plan_is_valid C jobs d h = sufficient C (greatest_deadline jobs) jobs d (deadlines_le jobs) (enough_everywhere C jobs h)

pub schedule_exactly_if_room : ScheduleExactlyIfRoom
schedule_exactly_if_room C jobs d =
    ((λ s b _. enough_room C jobs b (necessary C jobs s.0 s.1 b)), λ h. (plan C jobs, plan_is_valid C jobs d h))

pub bounds_count_as_asked : BoundsCountAsAsked
unfolding counted width
bounds_count_as_asked C [] = refl
bounds_count_as_asked C (j ∷ jobs) = ap (λ (js : List Job). j ∷ js) (bounds_count_as_asked C jobs)

-- the bound that counts is never above the job's own
pub width_le : (C bound : ℕ) → width C bound ≤ bound
unfolding width
width_le C bound = le_refl bound

pub counted_changes_nothing : CountedChangesNothing
counted_changes_nothing C jobs y = ((λ v. rw (bounds_count_as_asked C jobs) at v), λ v. rw (bounds_count_as_asked C jobs) v)
