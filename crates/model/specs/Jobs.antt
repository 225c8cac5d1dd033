-- 01, "The room and the desk" and "Forced work and boundaries": jobs, run length, forced work, room.
-- `a - b` of two naturals is max(0, a − b) throughout; only the room is a signed number.
use Rattle.std.specs.Prelude.{ℕ, ◌+◌, ◌*◌, ◌-◌, ◌/◌, max, List, [], ◌∷◌, map, ℤ, pos, ◌-ℤ◌}
use Rattle.model.specs.Lists.{total}

-- a job: its number, its work D, its deadline d and its bound k
pub record Job : Type 0 where
  pub number : ℕ
  pub work : ℕ
  pub deadline : ℕ
  pub bound : ℕ

abbrev pub numbers : List Job → List ℕ
numbers jobs = map (λ j. j.number) jobs

unfoldable pub whole_work : List Job → ℕ
whole_work jobs = total (λ j. j.work) jobs

abbrev pub greatest_deadline : List Job → ℕ
greatest_deadline [] = 0
greatest_deadline (j ∷ jobs) = max j.deadline (greatest_deadline jobs)

-- "The run length of a job is D / k rounded up."
unfoldable pub run_length : ℕ → ℕ → ℕ
run_length work bound = (work + (bound - 1)) / bound

-- the part of one job in "the work forced into slots 1 to b": max(0, D − k × max(0, d − b))
unfoldable pub forced_of : ℕ → Job → ℕ
forced_of b j = j.work - j.bound * (j.deadline - b)

-- ".. is the sum over jobs"
unfoldable pub forced : List Job → ℕ → ℕ
forced jobs b = total (forced_of b) jobs

-- "The room at b is C × b less the forced work: a signed number"
abbrev pub room_of : ℕ → ℕ → ℤ
room_of capacity forcedWork = pos capacity -ℤ pos forcedWork

unfoldable pub room : ℕ → List Job → ℕ → ℤ
room C jobs b = room_of (C * b) (forced jobs b)

-- the bound that counts in a room of C machines: the job's own
unfoldable pub width : ℕ → ℕ → ℕ
width C bound = bound

-- the jobs as they count in a room of C machines: what is planned is `counted` of what was asked for
unfoldable pub counted : ℕ → List Job → List Job
counted C jobs = map (λ j. record { number = j.number; work = j.work; deadline = j.deadline; bound = width C j.bound }) jobs
