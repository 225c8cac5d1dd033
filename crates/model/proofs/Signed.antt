-- The signed room against the two natural numbers that it is the difference of.
use Prim.Native.Nat.{ℕ, zero, suc, ◌*◌, ◌-◌, ◌≤◌, ◌<◌}
use native.Mathlib.Omega.{arith}
use native.Mathlib.Decide.{dec_lt}
use mathlib.Core.Path.{◌≡◌, refl, ap}
use mathlib.Core.Bool.{true, false, true≢false}
use mathlib.Core.List.{List}
use lib.Dec.{le→leb, ltb→lt}
use lib.IntN.{ℤ, pos, negsuc, neg_ℤ, ◌-ℤ◌}
use lib.Signed.{lt_z, ◌<ℤ◌, ◌≤ℤ◌}
use borrow.Author.Tests.{lt-ltb, le-ltb, ltb-true}
use Rattle.model.specs.Jobs.{Job, forced, room}
use Rattle.model.specs.Boundaries.{shortage}

pub sub_ge : (a b : ℕ) → b ≤ a → pos a -ℤ pos b ≡ pos (a - b)
sub_ge a zero h = ap pos (omega arith)
sub_ge a (suc b) h = simp (le-ltb a (suc b) h)

pub sub_lt : (a b : ℕ) → a < b → pos a -ℤ pos b ≡ negsuc (b - suc a)
sub_lt a zero h = absurd (omega arith)
sub_lt a (suc b) h = simp (lt-ltb a (suc b) h)

module _ (C : ℕ) (jobs : List Job) (b : ℕ) where
  pub room_enough : forced jobs b ≤ C * b → room C jobs b ≡ pos (C * b - forced jobs b)
  unfolding room
  room_enough h = sub_ge (C * b) (forced jobs b) h

  pub room_short : C * b < forced jobs b → room C jobs b ≡ negsuc (forced jobs b - suc (C * b))
  unfolding room
  room_short h = sub_lt (C * b) (forced jobs b) h

  -- the room is not negative exactly if the forced work is at most C × b
  pub enough_room : forced jobs b ≤ C * b → pos 0 ≤ℤ room C jobs b
  enough_room h = rw (room_enough h) (record { le = le→leb 0 (C * b - forced jobs b) (omega arith) })

  pub room_forced : pos 0 ≤ℤ room C jobs b → forced jobs b ≤ C * b
  room_forced h = go (dec_lt (C * b) (forced jobs b))
    where
      go : Dec (C * b < forced jobs b) → forced jobs b ≤ C * b
      go (yes l) = absurd (rw (room_short l) at h).le
      go (no l) = omega arith

  -- it is negative exactly if the forced work is more
  pub short_room : C * b < forced jobs b → room C jobs b <ℤ pos 0
  short_room h = rw (room_short h) (record { lt = tt })

  pub room_over : room C jobs b <ℤ pos 0 → C * b < forced jobs b
  room_over h = go (dec_lt (C * b) (forced jobs b))
    where
      go : Dec (C * b < forced jobs b) → C * b < forced jobs b
      go (yes l) = l
      go (no l) = absurd (omega (arith, ltb→lt (C * b - forced jobs b) 0 (rw (room_enough (omega arith)) at h).lt))

pub short_true : (z : ℤ) → lt_z z (pos 0) ≡ true → z <ℤ pos 0
short_true (pos n) e = absurd (omega (arith, ltb-true n 0 e))
short_true (negsuc n) e = record { lt = tt }

pub short_false : (z : ℤ) → lt_z z (pos 0) ≡ false → pos 0 ≤ℤ z
short_false (pos n) e = record { le = le→leb 0 n (omega arith) }
short_false (negsuc n) e = absurd (true≢false e)

-- the shortage is the negative room, negated
pub shortage_neg : (z : ℤ) → z <ℤ pos 0 → pos (shortage z) ≡ neg_ℤ z
shortage_neg (pos n) h = absurd (omega (arith, ltb→lt n 0 h.lt))
shortage_neg (negsuc n) h = refl
