-- Fewer jobs, less work, a later deadline, a larger bound, more machines: no yes becomes a no.
use Prim.Native.Nat.{ℕ, ◌-◌, ◌≤◌}
use native.Mathlib.Nat.{mul-le-mul, mul-le-mul_right}
use native.Mathlib.Omega.{arith}
use mathlib.Core.Logic.{◌≢◌}
use mathlib.Core.List.{List}
use Rattle.model.specs.Lists.{All, Distinct}
use Rattle.model.specs.Jobs.{Job, numbers, forced_of, forced}
use Rattle.model.specs.Boundaries.{RoomEverywhere}
use Rattle.model.specs.Schedules.{NoHarder, Eases, neither, without, with}
use Rattle.model.specs.Claims.{EasierStaysPossible}
use Rattle.model.proofs.Signed.{enough_room}
use Rattle.model.proofs.AllSlots.{enough_everywhere}
use Rattle.model.proofs.Exactly.{schedule_exactly_if_room}

forced_easier : (b : ℕ) (i j : Job) → NoHarder i j → forced_of b i ≤ forced_of b j
unfolding forced_of
forced_easier b i j h =
    let d : j.deadline - b ≤ i.deadline - b = omega arith in
    omega (arith, mul-le-mul h.bound d)

forced_eases : (b : ℕ) {is js : List Job} → Eases is js → forced is b ≤ forced js b
unfolding forced
forced_eases b neither = omega arith
forced_eases b (without j e) = omega (arith, forced_eases b e)
forced_eases b (with {i = i} {j = j} h e) = omega (arith, forced_easier b i j h, forced_eases b e)

-- on the boundaries alone, for any numbers
pub easier_room : (C C' : ℕ) (jobs jobs' : List Job) → C ≤ C' → Eases jobs' jobs → RoomEverywhere C jobs → RoomEverywhere C' jobs'
easier_room C C' jobs jobs' c e h b _ =
    enough_room C' jobs' b (omega (arith, forced_eases b e, enough_everywhere C jobs h b, mul-le-mul_right b c))

all_eases : (P : ℕ → Type 0) {is js : List Job} → Eases is js → All P (numbers js) → All P (numbers is)
all_eases P neither h = tt
all_eases P (without j e) h = all_eases P e h.1
all_eases P (with k e) h = (rw k.number h.0, all_eases P e h.1)

distinct_eases : {is js : List Job} → Eases is js → Distinct (numbers js) → Distinct (numbers is)
distinct_eases neither d = d
distinct_eases (without j e) d = distinct_eases e d.1
distinct_eases (with k e) d = (rw k.number (all_eases (λ m. _ ≢ m) e d.0), distinct_eases e d.1)

pub easier_stays_possible : EasierStaysPossible
easier_stays_possible C C' jobs jobs' c e d y =
    (schedule_exactly_if_room C' jobs' (distinct_eases e d)).1 (easier_room C C' jobs jobs' c e ((schedule_exactly_if_room C jobs d).0 y))
