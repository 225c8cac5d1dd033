-- The room at a boundary, as the code works it out: small enough for its figures, and the model's.
use Rattle.std.proofs.Common.{ℕ, ◌*◌, ◌≤◌, ◌<◌, ◌≡◌, ◌∙◌, ap, List, ℤ, to_z, of_z, w32, arith}
use native.Mathlib.Nat.{mul-le-mul}
use lib.Signed.{mag}
use Rattle.model.specs.Jobs as Model
use Rattle.model.specs.Jobs.{forced, room, room_of}
use Rattle.figures.specs.declared.Job.{Job}
use Rattle.figures.specs.Jobs.{as_jobs}
use Rattle.figures.proofs.Signed.{sub_mag, back}

-- z is the room at b, and an i32 that is read back as it was written
pub record IsRoom (C : ℕ) (jobs : List Model.Job) (b : ℕ) (z : ℤ) : Type 0 where
  pub same : z ≡ room C jobs b
  pub fits : mag z < 2000000
  pub read : to_z w32 (of_z w32 z) ≡ z

pub capacity_fits : (C b : ℕ) → C ≤ 64 → b ≤ 168 → C * b ≤ 10752
capacity_fits C b machines within = omega (arith, mul-le-mul machines within)

-- of the figures that the code works out
pub is_room :
    (jobs : List Job) (C b : ℕ) → C ≤ 64 → b ≤ 168 → (f : ℕ) (z : ℤ) → f ≡ forced (as_jobs jobs) b → f ≤ 1920000 → z ≡ room_of (C * b) f
    → IsRoom C (as_jobs jobs) b z
unfolding room
is_room jobs C b machines within f z ef small ez =
    let small_enough : mag z < 2000000 = rw ez (sub_mag (C * b) f 2000000 (omega (arith, capacity_fits C b machines within)) (omega arith)) in
    record { same = ez ∙ ap (room_of (C * b)) ef; fits = small_enough; read = back z (omega arith) }
