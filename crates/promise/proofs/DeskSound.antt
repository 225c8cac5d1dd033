-- S1: the test that computes tells whether a record is sound.
use Prim.Native.Nat.{ℕ, ◌*◌, ◌-◌, ◌≤◌, ◌<◌}
use native.Mathlib.Nat.{sub-zero, suc-sub-suc}
use native.Mathlib.Omega.{arith}
use mathlib.Core.Path.{◌≡◌, refl, sym, ◌∙◌, ap₂}
use mathlib.Core.Logic.{◌≢◌, ◌↔◌}
use mathlib.Core.Bool.{Bool, true, false, cond, ◌&&◌, true≢false}
use mathlib.Core.List.{List, [], ◌∷◌, ◌++◌, map}
use mathlib.Core.Option.{Option, some, none, some-ne-none}
use lib.Dec.{leb, ltb, eqb}
use lib.ListN.{length, replicate}
use borrow.Author.Tests.{leb-true, leb-false}
use Rattle.model.specs.Lists.{All, Rising}
use Rattle.model.specs.Jobs.{Job}
use Rattle.model.specs.Boundaries.{RoomEverywhere, Short, least_short}
use Rattle.model.proofs.Lists.{All-map, All-under}
use Rattle.model.proofs.LeastShort.{none_short_is_named}
use Rattle.promise.specs.declared.Held.{Held}
use Rattle.promise.specs.declared.Desk.{Desk}
use Rattle.promise.specs.Desk.{unused, in_use, held_of, table, jobs_for, SoundSeat, Sound}
use Rattle.promise.specs.DeskCalls.{seat_ok, seat_fits, is_unused, all_unused, seats_ok, none_short, is_sound}
use Rattle.promise.specs.DeskClaims.{Has32Seats, SoundIsTested}
use Rattle.promise.proofs.Ladder.{Tells, holds, fails, tells_lt, tells_eq, tells_same}

pub tells_le : (a b : ℕ) → Tells (a ≤ b) (leb a b)
tells_le a b = go (leb a b) refl
  where
    go : (t : Bool) → leb a b ≡ t → Tells (a ≤ b) t
    go true e = holds (leb-true a b e)
    go false e = fails (omega (arith, leb-false a b e))

infixl 20 ◌and◌
-- one test after the other, as seat_ok, is_unused and is_sound join theirs
◌and◌ : {P Q : Type 0} {s t : Bool} → Tells P s → Tells Q t → Tells (P × Q) (s && t)
◌and◌ (holds h) (holds k) = holds (h, k)
◌and◌ (holds h) (fails k) = fails (λ b. k b.1)
◌and◌ (fails h) k = fails (λ b. h b.0)

-- a seat in use
tells_seat : (clock : ℕ) (h : Held) → h.number ≢ 0 → Tells (SoundSeat clock h) (seat_ok clock h)
unfolding seat_ok seat_fits
tells_seat clock h n =
    tells_same (omega arith)
    (tells_le h.number 65535 and tells_le 1 h.work and tells_le h.work 60000 and tells_le 1 h.left and tells_le h.left h.work
    and tells_lt clock h.deadline and tells_le h.deadline 100000
    and (tells_le 1 h.bound and tells_le h.bound 64 and tells_le 1 h.slots and tells_le h.slots 168 and tells_le (h.deadline - clock) h.slots
    and tells_le h.work (h.bound * h.slots)))

-- a seat not in use
tells_unused : (h : Held) → Tells (h ≡ unused) (is_unused h)
unfolding is_unused
tells_unused h =
    tells_same ((λ p. zeros p.0.0.0.0.0 p.0.0.0.0.1 p.0.0.0.1 p.0.0.1 p.0.1 p.1), same)
    (tells_eq h.number 0 and tells_eq h.work 0 and tells_eq h.left 0 and tells_eq h.deadline 0 and tells_eq h.bound 0
    and tells_eq h.slots 0)
  where
    zeros : h.number ≡ 0 → h.work ≡ 0 → h.left ≡ 0 → h.deadline ≡ 0 → h.bound ≡ 0 → h.slots ≡ 0 → h ≡ unused
    zeros n w l d b s = λ i. record { number = n i; work = w i; left = l i; deadline = d i; bound = b i; slots = s i }

    same : h ≡ unused → (((((h.number ≡ 0) × (h.work ≡ 0)) × (h.left ≡ 0)) × (h.deadline ≡ 0)) × (h.bound ≡ 0)) × (h.slots ≡ 0)
    same e = rw e (((((refl, refl), refl), refl), refl), refl)

-- two lists are the same if their heads and tails are, and only then
module _ {A : Type 0} where
  cons_same : (x y : A) (xs ys : List A) → ((x ≡ y) × (xs ≡ ys)) ↔ (x ∷ xs ≡ y ∷ ys)
  cons_same x y xs ys = ((λ p. ap₂ ◌∷◌ p.0 p.1), λ e. (cc, cc))

-- unused seats and no others
tells_all_unused : (hs : List Held) → Tells (hs ≡ replicate (length hs) unused) (all_unused hs)
tells_all_unused [] = holds refl
tells_all_unused (h ∷ hs) =
    tells_same (cons_same h unused hs (replicate (length hs) unused)) (tells_unused h and tells_all_unused hs)

-- what seats_ok tests of seats, those in `used` and then zeros, that follow one with number `before`
record GoodSeats (clock before : ℕ) (used seats : List Held) : Type 0 where
  above : All (λ n. before < n) (map (λ h. h.number) used)
  rising : Rising (map (λ h. h.number) used)
  zeros : seats ≡ used ++ replicate (length seats - length used) unused
  sound : All (SoundSeat clock) used

-- none in use: all are zeros
none_used : (clock before : ℕ) (seats : List Held) → (seats ≡ replicate (length seats) unused) ↔ GoodSeats clock before [] seats
none_used clock before seats =
    ((λ e. record { above = tt; rising = tt; zeros = rw (sub-zero (length seats)) e; sound = tt }), λ g. rw (sub-zero (length seats)) at g.zeros)

-- one more in use, before these
module _ (clock before : ℕ) (h : Held) (used seats : List Held) where
  one_more_used : ((before < h.number) × SoundSeat clock h) × GoodSeats clock h.number used seats → GoodSeats clock before (h ∷ used) (h ∷ seats)
  one_more_used p = record {
    above = (p.0.0, All-map (λ m l. omega arith) (map (λ h. h.number) used) p.1.above);
    rising = (p.1.above, p.1.rising);
    zeros = rw (suc-sub-suc (length seats) (length used)) ((cons_same h h seats (used ++ replicate (length seats - length used) unused)).0 (refl, p.1.zeros));
    sound = (p.0.1, p.1.sound);
  }

  one_less_used : GoodSeats clock before (h ∷ used) (h ∷ seats) → ((before < h.number) × SoundSeat clock h) × GoodSeats clock h.number used seats
  one_less_used g = (
    (g.above.0, g.sound.0),
    record {
      above = g.rising.0;
      rising = g.rising.1;
      zeros = ((cons_same h h seats (used ++ replicate (length seats - length used) unused)).1 (rw (suc-sub-suc (length seats) (length used)) at g.zeros)).1;
      sound = g.sound.1;
    },
  )

tells_seats : (clock before : ℕ) (seats : List Held) → Tells (GoodSeats clock before (in_use seats) seats) (seats_ok clock before seats)
tells_seats clock before [] = holds (record { above = tt; rising = tt; zeros = refl; sound = tt })
tells_seats clock before (h ∷ hs) = go (eqb h.number 0) (tells_eq h.number 0) (tells_seats clock h.number hs)
  where
    go : (t : Bool) → Tells (h.number ≡ 0) t → Tells (GoodSeats clock h.number (in_use hs) hs) (seats_ok clock h.number hs)
        → Tells (GoodSeats clock before (cond t [] (h ∷ in_use hs)) (h ∷ hs))
        (cond t (all_unused (h ∷ hs)) (ltb before h.number && seat_ok clock h && seats_ok clock h.number hs))
    go true e i = tells_same (none_used clock before (h ∷ hs)) (tells_all_unused (h ∷ hs))
    go false (fails n) i =
        tells_same (one_more_used clock before h (in_use hs) hs, one_less_used clock before h (in_use hs) hs)
        (tells_lt before h.number and tells_seat clock h n and i)

-- no more seats are in use than there are
few_used : (seats : List Held) → length (in_use seats) ≤ length seats
few_used [] = omega arith
few_used (h ∷ hs) = go (eqb h.number 0) (few_used hs)
  where
    go : (t : Bool) → length (in_use hs) ≤ length hs → length (cond t [] (h ∷ in_use hs)) ≤ length (h ∷ hs)
    go true i = omega arith
    go false i = omega arith

pub tells_room : (machines : ℕ) (jobs : List Job) → Tells (RoomEverywhere machines jobs) (none_short (least_short machines jobs))
tells_room machines jobs = go (least_short machines jobs) refl
  where
    go : (o : Option Short) → least_short machines jobs ≡ o → Tells (RoomEverywhere machines jobs) (none_short o)
    go none e = holds ((none_short_is_named machines jobs).0 e)
    go (some s) e = fails (λ r. some-ne-none s (sym e ∙ (none_short_is_named machines jobs).1 r))

module _ (desk : Desk) (seated : Has32Seats desk) where
  -- what is_sound tests, in its order
  abbrev Tested : Type 0
  Tested =
      ((((1 ≤ desk.machines) × (desk.machines ≤ 64)) × (desk.clock ≤ 100000)) × GoodSeats desk.clock 0 (held_of desk) desk.seats)
      × RoomEverywhere desk.machines (jobs_for desk)

  to_sound : Tested → Sound desk
  unfolding held_of table
  to_sound p = record {
    machines = p.0.0.0;
    clock = p.0.0.1;
    rising = p.0.1.rising;
    zeros = rw seated at p.0.1.zeros;
    few = omega (arith, few_used desk.seats);
    seats = p.0.1.sound;
    room = p.1;
  }

  to_tested : Sound desk → Tested
  unfolding table
  to_tested s = (
    (
      (s.machines, s.clock),
      record {
        above = All-under (λ h. h.number) (λ n. 0 < n) (held_of desk) (All-map (λ h (q : SoundSeat desk.clock h). q.number.0) (held_of desk) s.seats);
        rising = s.rising;
        zeros = rw seated s.zeros;
        sound = s.seats;
      },
    ),
    s.room,
  )

  pub tells_sound : Tells (Sound desk) (is_sound desk)
  unfolding is_sound held_of
  tells_sound =
      tells_same (to_sound, to_tested)
      (tells_le 1 desk.machines and tells_le desk.machines 64 and tells_le desk.clock 100000 and tells_seats desk.clock 0 desk.seats
      and tells_room desk.machines (jobs_for desk))

-- a test that tells is true exactly if the statement holds
told_true : {P : Type 0} {t : Bool} → Tells P t → (t ≡ true) ↔ P
told_true (holds h) = ((λ e. h), λ p. refl)
told_true (fails h) = ((λ e. absurd (true≢false (sym e))), λ p. absurd (h p))

pub sound_is_tested : SoundIsTested
sound_is_tested desk seated = told_true (tells_sound desk seated)
