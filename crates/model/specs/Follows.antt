-- 01, "The rule of the plan", as a relation: what it is for a schedule y to follow the rule.
-- Nothing here is a function that computes the plan.
use Rattle.std.specs.Prelude.{ℕ, zero, suc, ◌+◌, ◌*◌, ◌-◌, ◌≤◌, ◌<◌, ◌≡◌, ◌≢◌}
use mathlib.Core.List.{List, Memᴰ}
use Rattle.model.specs.Lists.{All, upto}
use Rattle.model.specs.Jobs.{Job}

-- L is r / k rounded up, for r above 0: k × (L − 1) < r ≤ k × L
pub record RunLength (k r L : ℕ) : Type 0 where
  pub above : k * (L - 1) < r
  pub within : r ≤ k * L

-- the state of a slot: for each job number what remains of its work, and the machines it has in this slot
pub record Slot : Type 0 where
  pub left : ℕ → ℕ
  pub given : ℕ → ℕ

-- "jobs with deadline at or after this slot, work remaining, and fewer than k machines in this slot"
pub record Qualifies (t : ℕ) (s : Slot) (j : Job) : Type 0 where
  pub due : t ≤ j.deadline
  pub more : 0 < s.left j.number
  pub below : s.given j.number < j.bound

-- j is no worse than i: a run length at least as great, and if they are equal a number at most i's
pub record NoWorse (s : Slot) (j i : Job) : Type 0 where
  pub longer : (L M : ℕ) → RunLength i.bound (s.left i.number) L → RunLength j.bound (s.left j.number) M → L ≤ M
  pub tie : (L : ℕ) → RunLength i.bound (s.left i.number) L → RunLength j.bound (s.left j.number) L → j.number ≤ i.number

-- "Each goes to the job with the greatest run length": j takes the next machine
pub record Takes (t : ℕ) (jobs : List Job) (s : Slot) (j : Job) : Type 0 where
  pub listed : Memᴰ j jobs
  pub may : Qualifies t s j
  pub best : All (λ i. Qualifies t s i → NoWorse s j i) jobs

-- one machine for job number n: from state s to state s'
pub record OneMore (n : ℕ) (s s' : Slot) : Type 0 where
  pub work : suc (s'.left n) ≡ s.left n
  pub machine : s'.given n ≡ suc (s.given n)
  pub others_left : (m : ℕ) → m ≢ n → s'.left m ≡ s.left m
  pub others_given : (m : ℕ) → m ≢ n → s'.given m ≡ s.given m

-- slot t is filled from state s, with c machines still to hand out, and each job then has the machines that `got` says:
-- "The slot is done when no job qualifies or C are handed out."
pub data Filled (t : ℕ) (jobs : List Job) (got : ℕ → ℕ) : ℕ → Slot → Type 0 where
  all_out : {s : Slot} → All (λ j. got j.number ≡ s.given j.number) jobs → Filled t jobs got zero s
  none_qualifies : {c : ℕ} {s : Slot} → All (λ j. ¬ Qualifies t s j) jobs → All (λ j. got j.number ≡ s.given j.number) jobs → Filled t jobs got c s
  hand : {c : ℕ} {s s' : Slot} (j : Job) → Takes t jobs s j → OneMore j.number s s' → Filled t jobs got c s' → Filled t jobs got (suc c) s

-- what y gives in the slots after t, up to slot d
unfoldable pub later : (ℕ → ℕ) → ℕ → ℕ → ℕ
later y t d = upto (λ s. y (t + s)) (d - t)

-- slot t before its first machine: of each job remains its work less what it has in later slots
pub record Begins (t : ℕ) (jobs : List Job) (y : ℕ → ℕ → ℕ) (s : Slot) : Type 0 where
  pub left : All (λ j. s.left j.number + later (y j.number) t j.deadline ≡ j.work) jobs
  pub given : All (λ j. s.given j.number ≡ 0) jobs

-- y follows the rule in a room with `count t` machines in slot t
pub record FollowsIn (count : ℕ → ℕ) (jobs : List Job) (y : ℕ → ℕ → ℕ) : Type 0 where
  pub start : ℕ → Slot
  pub begins : (t : ℕ) → 1 ≤ t → Begins t jobs y (start t)
  pub filled : (t : ℕ) → 1 ≤ t → Filled t jobs (λ n. y n t) (count t) (start t)

-- y follows the rule in a room of C machines
abbrev pub Follows : ℕ → List Job → (ℕ → ℕ → ℕ) → Type 0
Follows C = FollowsIn (λ t. C)
