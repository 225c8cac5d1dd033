-- 01, "The room and the desk": what a valid schedule is. y n t is the machines of job number n in slot t; slots count from 1.
use Rattle.std.specs.Prelude.{ℕ, ◌-◌, ◌≤◌, ◌<◌, ◌≡◌, cond, List, [], ◌∷◌, leb}
use Rattle.model.specs.Lists.{All, total, upto}
use Rattle.model.specs.Jobs.{Job}

-- one job: "a whole number of machines from 0 to k in each slot 1 to d and 0 after it, these sum to exactly D"
pub record Serves (y : ℕ → ℕ) (j : Job) : Type 0 where
  pub within : (t : ℕ) → 1 ≤ t → y t ≤ j.bound
  pub late : (t : ℕ) → j.deadline < t → y t ≡ 0
  pub whole : upto y j.deadline ≡ j.work

-- all jobs: ".. and no slot uses more than C", here with a machine count of its own for each slot
pub record ValidIn (count : ℕ → ℕ) (jobs : List Job) (y : ℕ → ℕ → ℕ) : Type 0 where
  pub serves : All (λ j. Serves (y j.number) j) jobs
  pub fits : (t : ℕ) → 1 ≤ t → total (λ j. y j.number t) jobs ≤ count t

-- in a room of C machines
abbrev pub Valid : ℕ → List Job → (ℕ → ℕ → ℕ) → Type 0
Valid C = ValidIn (λ t. C)

-- some schedule is valid
abbrev pub Possible : ℕ → List Job → Type 0
Possible C jobs = (y : ℕ → ℕ → ℕ) × Valid C jobs y

-- job j with slot 1 done on so many machines: less work, a deadline one nearer
unfoldable pub less_first : Job → ℕ → Job
less_first j machines = record { number = j.number; work = j.work - machines; deadline = j.deadline - 1; bound = j.bound }

-- the jobs with slot 1 done, a finished one gone; `column n` is what job number n has in slot 1
abbrev pub after_first : (ℕ → ℕ) → List Job → List Job
after_first column [] = []
after_first column (j ∷ jobs) =
    cond (leb j.work (column j.number)) (after_first column jobs) (less_first j (column j.number) ∷ after_first column jobs)

-- i asks for no more than j: no more work, by a deadline no earlier, with a bound no smaller
pub record NoHarder (i j : Job) : Type 0 where
  pub number : i.number ≡ j.number
  pub work : i.work ≤ j.work
  pub deadline : j.deadline ≤ i.deadline
  pub bound : j.bound ≤ i.bound

-- the first list asks for no more than the second: fewer jobs, or easier ones
pub data Eases : List Job → List Job → Type 0 where
  neither : Eases [] []
  without : (j : Job) {is js : List Job} → Eases is js → Eases is (j ∷ js)
  with : {i j : Job} → NoHarder i j → {is js : List Job} → Eases is js → Eases (i ∷ is) (j ∷ js)
