-- 01, "Calls": the desk's record, what a sound one is, and the jobs on it as they count for planning.
use Rattle.std.specs.Prelude.{ℕ, ◌*◌, ◌-◌, ◌/◌, ◌≤◌, ◌≡◌, cond, List, [], ◌∷◌, ◌++◌, map, eqb, length, replicate}
use Rattle.model.specs.Lists.{All, Rising}
use Rattle.model.specs.Jobs.{Job, run_length, width, counted}
use Rattle.model.specs.Boundaries.{RoomEverywhere}
use Rattle.model.specs.Rule.{plan}
use Rattle.promise.specs.declared.Held.{Held}
use Rattle.promise.specs.declared.Desk.{Desk}

-- "unused places after them, all zero"
abbrev pub unused : Held
unused = record { number = 0; work = 0; left = 0; deadline = 0; bound = 0; slots = 0 }

-- the seats in use: those before the first with number 0
abbrev pub in_use : List Held → List Held
in_use [] = []
in_use (h ∷ hs) = cond (eqb h.number 0) [] (h ∷ in_use hs)

unfoldable pub held_of : Desk → List Held
held_of desk = in_use desk.seats

-- the table of so many held jobs: 32 seats
unfoldable pub table : List Held → List Held
table held = held ++ replicate (32 - length held) unused

-- every desk that a call makes is built here
unfoldable pub desk_of : ℕ → ℕ → List Held → Desk
desk_of machines clock held = record { machines = machines; clock = clock; seats = table held }

-- "For planning, a held job counts with its remaining work and deadline − clock."
unfoldable pub as_planned : ℕ → Held → Job
as_planned clock h = record { number = h.number; work = h.left; deadline = h.deadline - clock; bound = h.bound }

-- the jobs to plan, of some held jobs at this clock
unfoldable pub to_plan : ℕ → ℕ → List Held → List Job
to_plan machines clock held = counted machines (map (as_planned clock) held)

unfoldable pub jobs_for : Desk → List Job
jobs_for desk = to_plan desk.machines desk.clock (held_of desk)

-- one held job of a sound desk
pub record SoundSeat (clock : ℕ) (h : Held) : Type 0 where
  pub number : (1 ≤ h.number) × (h.number ≤ 65535)
  pub work : (1 ≤ h.work) × (h.work ≤ 60000)
  pub left : (1 ≤ h.left) × (h.left ≤ h.work)
  pub deadline : (1 ≤ h.deadline) × (h.deadline ≤ 100000)
  pub bound : (1 ≤ h.bound) × (h.bound ≤ 64)
  pub slots : (1 ≤ h.slots) × (h.slots ≤ 168)
  pub due : (1 ≤ h.deadline - clock) × (h.deadline - clock ≤ h.slots)
  pub admissible : h.work ≤ h.bound * h.slots

-- "A desk is sound if all fields are in range, the order and zeros are as stated, remaining is 1 to admitted work,
-- deadline − clock is 1 to the slots at admission (1 to 168), admitted work is at most bound × slots at admission,
-- and no boundary has negative room."
pub record Sound (desk : Desk) : Type 0 where
  pub machines : (1 ≤ desk.machines) × (desk.machines ≤ 64)
  pub clock : desk.clock ≤ 100000
  pub rising : Rising (map (λ h. h.number) (held_of desk))
  pub zeros : desk.seats ≡ table (held_of desk)
  pub few : length (held_of desk) ≤ 32
  pub seats : All (SoundSeat desk.clock) (held_of desk)
  pub room : RoomEverywhere desk.machines (jobs_for desk)

-- what Run gives out: slot 1 of the plan
unfoldable pub column : Desk → ℕ → ℕ
column desk n = plan desk.machines (jobs_for desk) n 1

-- "100 × slots at admission / run length of the admitted work, rounded down"
unfoldable pub leeway : ℕ → Held → ℕ
leeway machines h = 100 * h.slots / run_length h.work (width machines h.bound)
