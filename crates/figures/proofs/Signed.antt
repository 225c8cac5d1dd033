-- Laws of a signed difference, in the form that the code's i32 asks.
use Prim.Native.Nat.{ℕ, ◌<◌}
use native.Mathlib.Decide.{dec_lt}
use native.Mathlib.Omega.{arith}
use mathlib.Core.Path.{◌≡◌}
use lib.IntN.{ℤ, pos, ◌-ℤ◌}
use lib.Signed.{mag}
use mir.Syntax.{w32}
use mir.Val.{to_z, of_z}
use mir.Facts.{to_z-of_z}
use Rattle.model.proofs.Signed.{sub_ge, sub_lt}

-- a difference is no larger than its parts
pub sub_mag : (a b H : ℕ) → a < H → b < H → mag (pos a -ℤ pos b) < H
sub_mag a b H ha hb = go (dec_lt a b)
  where
    go : Dec (a < b) → mag (pos a -ℤ pos b) < H
    go (yes h) = rw (sub_lt a b h) (omega arith)
    go (no h) = rw (sub_ge a b (omega arith)) (omega arith)

-- an i32 of small magnitude is read back as it was written
pub back : (z : ℤ) → mag z < 2147483648 → to_z w32 (of_z w32 z) ≡ z
back z h = to_z-of_z {w = w32} (record { sfits = h })
