-- How great the figures of the desk calls can be: the jobs that Admit walks, a 7's place and amount, a remaining work.
use Prim.Native.Nat.{ℕ, ◌-◌, ◌≤◌}
use native.Mathlib.Omega.{arith}
use mathlib.Core.Path.{◌≡◌, ◌∙◌}
use mathlib.Core.Bool.{Bool, true, false, cond}
use mathlib.Core.List.{List, [], ◌∷◌, map}
use mathlib.Core.Option.{some}
use lib.Dec.{eqb}
use lib.ListN.{length, length-map}
use Rattle.model.specs.Lists.{All}
use Rattle.model.specs.Jobs.{Job, counted}
use Rattle.model.specs.Boundaries.{Short, least_short}
use Rattle.model.proofs.Lists.{All-map, perm_all}
use Rattle.model.proofs.LeastShort.{least_short_is_named}
use Rattle.model.proofs.Exactly.{width_le}
use Rattle.promise.specs.declared.Held.{Held}
use Rattle.promise.specs.declared.Desk.{Desk}
use Rattle.promise.specs.Rows.{Field, the_work, the_deadline, the_bound}
use Rattle.promise.specs.Desk.{held_of, as_planned, to_plan, SoundSeat, Sound}
use Rattle.promise.specs.DeskCalls.{seat_of, admit_dues, new_held, with_new, jobs_with, asked, DeskHolds}
use Rattle.promise.proofs.Sound.{InRange}
use Rattle.promise.proofs.Bounds.{forced_le, boundary_le, shortage_le}
use Rattle.promise.proofs.DeskSeats.{seated_perm, length_seated}
use Rattle.promise.proofs.DeskKept.{in_range}

-- jobs that the walk can take
abbrev pub Light : ℕ → Held → Type 0
Light clock h = (h.left ≤ 60000) × (h.deadline - clock ≤ 168) × (h.bound ≤ 64)

pub light_in_range : (machines clock : ℕ) (hs : List Held) → All (Light clock) hs → All InRange (to_plan machines clock hs)
unfolding to_plan counted as_planned
light_in_range machines clock [] a = tt
light_in_range machines clock (h ∷ hs) a =
    ((a.0.0, a.0.1, omega (arith, width_le machines h.bound)), light_in_range machines clock hs a.1)

-- held jobs are such jobs
pub held_light : (desk : Desk) → Sound desk → All (Light desk.clock) (held_of desk)
held_light desk s =
    All-map (λ (h : Held) (q : SoundSeat desk.clock h). omega (arith, q.work, q.left, q.due, q.slots, q.bound)) (held_of desk) s.seats

to_plan_length : (machines clock : ℕ) (hs : List Held) → length (to_plan machines clock hs) ≡ length hs
unfolding to_plan counted
to_plan_length machines clock hs = length-map (map (as_planned clock) hs) _ ∙ length-map hs (as_planned clock)

-- and so is the new job, once its fields are in range
module _ (desk : Desk) (s : Sound desk) (j : Job) (f : (g : Field) → ¬ DeskHolds desk j (asked g)) where
  pub asked_in_range : All InRange (jobs_with desk j)
  unfolding with_new new_held admit_dues
  asked_in_range =
      let w = admit_dues desk.clock in
      light_in_range desk.machines desk.clock (with_new desk j)
      (perm_all (Light desk.clock) (seated_perm (new_held desk.clock j) (held_of desk))
      (omega (arith, in_range w the_work j (f the_work), in_range w the_deadline j (f the_deadline), in_range w the_bound j (f the_bound)), held_light desk s))

  -- 33 jobs of 60,000 hours
  pub seven_bounds : (o : Short) → least_short desk.machines (jobs_with desk j) ≡ some o → (o.place ≤ 168) × (o.amount ≤ 1980000)
  unfolding with_new
  seven_bounds o e =
      let l = (least_short_is_named desk.machines (jobs_with desk j) o).0 e in
      let works = forced_le (jobs_with desk j) o.place asked_in_range in (
        boundary_le 168 (jobs_with desk j) (All-map (λ i r. r.1) (jobs_with desk j) asked_in_range) o.place l.boundary,
        omega (arith, shortage_le desk.machines (jobs_with desk j) o l, works, to_plan_length desk.machines desk.clock (with_new desk j), length_seated (new_held desk.clock j) (held_of desk), s.few),
      )

-- a remaining work, or 0 for a number that is not held
left_le : (n : ℕ) (hs : List Held) → All (λ h. h.left ≤ 60000) hs → (seat_of n hs).left ≤ 60000
left_le n [] a = omega arith
left_le n (h ∷ hs) a = go (eqb h.number n) (left_le n hs a.1)
  where
    go : (t : Bool) → (seat_of n hs).left ≤ 60000 → (cond t h (seat_of n hs)).left ≤ 60000
    go true l = a.0
    go false l = l

pub held_left : (desk : Desk) → Sound desk → (n : ℕ) → (seat_of n (held_of desk)).left ≤ 60000
held_left desk s n = left_le n (held_of desk) (All-map (λ h l. l.0) (held_of desk) (held_light desk s))
