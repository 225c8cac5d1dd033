-- A desk that passes the sound test, and figures as they are worked out.
use Prim.Native.Nat.{ℕ, zero, suc, ◌*◌, ◌-◌, ◌/◌, ◌≤◌, ◌<◌}
use native.Mathlib.Omega.{arith}
use mathlib.Core.Path.{◌≡◌, refl, sym, ◌∙◌, ap}
use mathlib.Core.Bool.{Bool, true, false, not, ◌&&◌}
use mathlib.Core.List.{List, [], ◌∷◌}
use lib.Dec.{leb}
use lib.ListN.{length, get_or}
use borrow.Author.Tests.{leb-true}
use Rattle.model.specs.Lists.{All}
use Rattle.model.specs.Jobs.{run_length, width}
use Rattle.model.specs.Boundaries.{least_short}
use Rattle.model.proofs.Lists.{and_true}
use Rattle.model.proofs.Choice.{le_run}
use Rattle.promise.specs.declared.Held.{Held}
use Rattle.promise.specs.declared.Desk.{Desk}
use Rattle.promise.specs.Answers.{yes, refusal, fault}
use Rattle.promise.specs.Desk.{Sound, leeway, jobs_for}
use Rattle.promise.specs.DeskCalls.{seats_ok, none_short, is_sound, sound_fault, new_held}
use Rattle.promise.specs.DeskClaims.{Has32Seats}
use Rattle.figures.specs.declared.Job.{Job}
use Rattle.figures.specs.Jobs.{as_job}
use Rattle.promise.proofs.Ladder.{same_number}
use Rattle.promise.proofs.DeskSound.{sound_is_tested}

pub all_nth : (P : Held → Type 0) (hs : List Held) (i : ℕ) (d : Held) → All P hs → i < length hs → P (get_or hs i d)
all_nth P [] i d a l = absurd (omega arith)
all_nth P (h ∷ hs) zero d a l = a.0
all_nth P (h ∷ hs) (suc i) d a l = all_nth P hs i d a.1 (omega arith)

-- work to do takes a slot at least; a bound of one or more counts as one or more
pub run_positive : (work k : ℕ) → 1 ≤ work → 1 ≤ k → 0 < run_length work k
run_positive work k w h = go (run_length work k) refl
  where
    go : (r : ℕ) → run_length work k ≡ r → 0 < run_length work k
    go zero e = absurd (omega (arith, le_run work k 0 h (omega arith)))
    go (suc r) e = omega arith

pub width_positive : (machines bound : ℕ) → 1 ≤ machines → 1 ≤ bound → 1 ≤ width machines bound
unfolding width
width_positive machines bound m b = b

-- a desk that passes the sound test
module _ (desk : Desk) (clear : (sound_fault desk).number ≡ 0) where
  tested : is_sound desk ≡ true
  unfolding sound_fault
  tested = go (is_sound desk) refl clear
    where
      go : (t : Bool) → is_sound desk ≡ t → (fault (not t) (refusal 12 0 0)).number ≡ 0 → is_sound desk ≡ true
      go true e z = e
      go false e z = absurd (omega arith)

  pub good : Has32Seats desk → Sound desk
  good len = (sound_is_tested desk len).0 tested

-- its clock leaves room for sums
pub early_clock : (desk : Desk) → yes ≡ sound_fault desk → desk.clock ≤ 100000
unfolding is_sound
early_clock desk clear =
    let machines = leb 1 desk.machines && leb desk.machines 64 in
    let clock = leb desk.clock 100000 in
    let seats = seats_ok desk.clock 0 desk.seats in
    let a = and_true (machines && clock && seats) (none_short (least_short desk.machines (jobs_for desk))) (tested desk (sym (same_number clear))) in
    leb-true desk.clock 100000 (and_true machines clock (and_true (machines && clock) seats a.0).0).1

-- the new job's seat, and a leeway, from figures that were worked out
pub new_made : (clock s : ℕ) (j : Job) → s ≡ j.deadline - clock
    → record { number = j.number; work = j.work; left = j.work; deadline = j.deadline; bound = j.bound; slots = s } ≡ new_held clock (as_job j)
unfolding new_held
new_made clock s j e = rw e refl

pub leeway_made : (machines : ℕ) (h : Held) (w r : ℕ) → w ≡ width machines h.bound → r ≡ run_length h.work w → 100 * h.slots / r ≡ leeway machines h
unfolding leeway
leeway_made machines h w r ew er = ap (λ (x : ℕ). 100 * h.slots / x) (er ∙ ap (run_length h.work) ew)

pub ruleset leeway_laws = (run_positive, width_positive, leeway_made)
