-- S5: Run gives out slot 1 of the plan.
use Prim.Native.Nat.{ℕ, zero, suc, ◌+◌, ◌-◌, ◌≤◌, ◌<◌}
use native.Mathlib.Nat.{le_trans}
use native.Mathlib.Omega.{arith}
use mathlib.Core.Path.{◌≡◌, refl, ap}
use mathlib.Core.Bool.{Bool, true, false, cond}
use mathlib.Core.List.Memᴰ
use mathlib.Core.List.{List, [], ◌∷◌, ◌++◌, Memᴰ}
use lib.Dec.{leb}
use lib.ListN.{length, replicate}
use borrow.Author.Tests.{leb-false, lt-leb}
use Rattle.model.specs.Lists.{All, total}
use Rattle.model.specs.Jobs.{counted}
use Rattle.model.specs.Schedules.{Serves}
use Rattle.model.specs.Rule.{plan}
use Rattle.model.proofs.Exactly.{width_le}
use Rattle.promise.specs.declared.Held.{Held}
use Rattle.promise.specs.declared.Desk.{Desk}
use Rattle.promise.specs.declared.Given.{Given}
use Rattle.promise.specs.Desk.{held_of, desk_of, as_planned, to_plan, jobs_for, SoundSeat, Sound, column}
use Rattle.promise.specs.DeskCalls.{run_answer, pairs, given_of, lowered, after_run, run_of}
use Rattle.promise.specs.DeskClaims.{GivesOut, RunGivesOutThePlan}
use Rattle.promise.proofs.DeskSeats.{held_again, All-after}
use Rattle.promise.proofs.DeskKept.{plan_valid}

-- sums over two lists, and over zeros
module _ {A : Type 0} (f : A → ℕ) where
  total_append : (xs ys : List A) → total f (xs ++ ys) ≡ total f xs + total f ys
  total_append [] ys = omega arith
  total_append (x ∷ xs) ys = omega (arith, total_append xs ys)

  pub total_replicate : (n : ℕ) (x : A) → f x ≡ 0 → total f (replicate n x) ≡ 0
  total_replicate zero x e = refl
  total_replicate (suc n) x e = omega (arith, total_replicate n x e)

-- the sum of what each seat has is the sum over the jobs to plan
total_to_plan : (machines clock : ℕ) (f : ℕ → ℕ) (hs : List Held) → total (λ j. f j.number) (to_plan machines clock hs) ≡ total (λ h. f h.number) hs
unfolding to_plan counted as_planned
total_to_plan machines clock f [] = refl
total_to_plan machines clock f (h ∷ hs) = omega (arith, total_to_plan machines clock f hs)

-- the bound of a seat holds what serves its job to plan
bounds_to_plan : (machines clock : ℕ) (y : ℕ → ℕ → ℕ) (hs : List Held) → All (λ j. Serves (y j.number) j) (to_plan machines clock hs)
    → All (λ h. y h.number 1 ≤ h.bound) hs
unfolding to_plan counted as_planned
bounds_to_plan machines clock y [] v = tt
bounds_to_plan machines clock y (h ∷ hs) v =
    (le_trans (v.0.within 1 (omega arith)) (width_le machines h.bound), bounds_to_plan machines clock y hs v.1)

-- a seat with more work than machines stays, lowered
stays : (given : ℕ → ℕ) (h : Held) {hs : List Held} → Memᴰ h hs → given h.number < h.left
    → Memᴰ (lowered (given h.number) h) (after_run given hs)
stays given h (Memᴰ.head {x = q} {xs = qs} e) l =
    rw (lt-leb q.left (given q.number) (rw e at l)) (Memᴰ.head (ap (λ (g : Held). lowered (given g.number) g) e))
stays given h (Memᴰ.tail {x = q} {xs = qs} m) l = go (leb q.left (given q.number)) (stays given h m l)
  where
    go : (t : Bool) → Memᴰ (lowered (given h.number) h) (after_run given qs)
        → Memᴰ (lowered (given h.number) h) (cond t (after_run given qs) (lowered (given q.number) q ∷ after_run given qs))
    go true i = i
    go false i = Memᴰ.tail i

-- g is one of those
abbrev LoweredFrom : (ℕ → ℕ) → List Held → Held → Type 0
LoweredFrom given hs g = (h : Held) × Memᴰ h hs × (given h.number < h.left) × (g ≡ lowered (given h.number) h)

-- no other seat is there after the Run
only_those : (given : ℕ → ℕ) (g : Held) (hs : List Held) → Memᴰ g (after_run given hs) → LoweredFrom given hs g
only_those given g [] m = absurd (Memᴰ.not-nil m)
only_those given g (h ∷ hs) m = go (leb h.left (given h.number)) refl (λ k. further (only_those given g hs k)) m
  where
    further : LoweredFrom given hs g → LoweredFrom given (h ∷ hs) g
    further l = (l.0, Memᴰ.tail l.1, l.2, l.3)

    go : (t : Bool) → leb h.left (given h.number) ≡ t → (Memᴰ g (after_run given hs) → LoweredFrom given (h ∷ hs) g)
        → Memᴰ g (cond t (after_run given hs) (lowered (given h.number) h ∷ after_run given hs)) → LoweredFrom given (h ∷ hs) g
    go true e i k = i k
    go false e i (Memᴰ.head q) = (h, Memᴰ.head refl, leb-false h.left (given h.number) e, q)
    go false e i (Memᴰ.tail k) = i k

length_given : (given : ℕ → ℕ) (hs : List Held) → length (given_of given hs) ≡ length hs
unfolding given_of
length_given given [] = refl
length_given given (h ∷ hs) = ap suc (length_given given hs)

total_given : (given : ℕ → ℕ) (hs : List Held) → total (λ g. g.machines) (given_of given hs) ≡ total (λ h. given h.number) hs
unfolding given_of
total_given given [] = refl
total_given given (h ∷ hs) = omega (arith, total_given given hs)

-- the pair of an unused seat
nothing : Given
nothing = record { number = 0; machines = 0 }

module _ (desk : Desk) (s : Sound desk) (e : (run_answer desk).number ≡ 0) where
  given_pairs : (run_of desk).given ≡ given_of (column desk) (held_of desk) ++ replicate (32 - length (held_of desk)) nothing
  unfolding run_of pairs nothing
  given_pairs = rw (e, length_given (column desk) (held_of desk))

  given_room : total (λ g. g.machines) (run_of desk).given ≤ desk.machines
  unfolding column jobs_for nothing
  given_room =
      let given = given_of (column desk) (held_of desk) in
      let zeros = replicate (32 - length (held_of desk)) nothing in
      rw given_pairs
      (omega (
        arith,
        total_append (λ g. g.machines) given zeros,
        total_replicate (λ g. g.machines) (32 - length (held_of desk)) nothing refl,
        total_given (column desk) (held_of desk),
        total_to_plan desk.machines desk.clock (column desk) (held_of desk),
        (plan_valid desk s).fits 1 (omega arith),
      ))

  ran_desk : (run_of desk).desk ≡ desk_of desk.machines (desk.clock + 1) (after_run (column desk) (held_of desk))
  unfolding run_of
  ran_desk = rw e

  pub ran_held : held_of (run_of desk).desk ≡ after_run (column desk) (held_of desk)
  unfolding lowered
  ran_held =
      rw ran_desk
      (held_again desk.machines (desk.clock + 1) (after_run (column desk) (held_of desk))
      (All-after (column desk) (SoundSeat desk.clock) (λ h. 1 ≤ h.number) (λ h l q. q.number.0) (held_of desk) s.seats))

  gives_out : GivesOut desk
  unfolding column given_of jobs_for desk_of nothing lowered
  gives_out = record {
    pairs = given_pairs;
    room = given_room;
    bounds = bounds_to_plan desk.machines desk.clock (plan desk.machines (jobs_for desk)) (held_of desk) (plan_valid desk s).serves;
    clock = ap (λ (d : Desk). d.clock) ran_desk;
    machines = ap (λ (d : Desk). d.machines) ran_desk;
    stay = λ h m l. rw ran_held (stays (column desk) h m l);
    only = λ g m. only_those (column desk) g (held_of desk) (rw ran_held at m);
  }

pub run_gives_out_the_plan : RunGivesOutThePlan
run_gives_out_the_plan = gives_out
