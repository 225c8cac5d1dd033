-- The headline statements, each a proposition with a name. proofs/Theorems.antt has one line for each.
use Rattle.std.specs.Prelude.{ℕ, suc, ◌+◌, ◌*◌, ◌-◌, ◌≤◌, ◌<◌, ◌≡◌, ◌⊎◌, ◌↔◌, ℤ, pos, ◌<ℤ◌, ◌≤ℤ◌}
use mathlib.Core.List.{List, map, Memᴰ}
use Rattle.std.proofs.Math.Option.{some, none}
use Rattle.model.specs.Lists.{All, Perm, Distinct, Rising, span}
use Rattle.model.specs.Jobs.{Job, numbers, whole_work, forced, room, counted}
use Rattle.model.specs.Boundaries.{Boundary, RoomEverywhere, boundaries, Short, least_short, LeastShort}
use Rattle.model.specs.Schedules.{ValidIn, Valid, Possible, after_first, Eases}
use Rattle.model.specs.Rule.{Share, fill, plan_from, plan, plan_rows, excess}
use Rattle.model.specs.Follows.{Follows}
use Rattle.model.specs.Document.{tau, last_index, Tasks, lambda, lambda_c, BoundaryCondition}
use Rattle.model.specs.Monday.{work_by, Greatest, figure, OptimalState}

-- M1 (document 002, Lemma 1 and Theorem 1): a valid schedule exists exactly if no boundary has negative room
abbrev pub ScheduleExactlyIfRoom : Type 0
ScheduleExactlyIfRoom = (C : ℕ) (jobs : List Job) → Distinct (numbers jobs) → Possible C jobs ↔ RoomEverywhere C jobs

-- M2: at each boundary the forced work is the total work less document 002's lambda
abbrev pub ForcedIsTotalLessLambda : Type 0
ForcedIsTotalLessLambda =
    (jobs : List Job) → Tasks jobs → (m : ℕ) → m ≤ last_index jobs → forced jobs (tau jobs m) + lambda jobs (last_index jobs - m) ≡ whole_work jobs

-- M2: document 002's condition holds exactly if no boundary has negative room
abbrev pub DocumentSaysTheSame : Type 0
DocumentSaysTheSame = (C : ℕ) (jobs : List Job) → Tasks jobs → BoundaryCondition C jobs ↔ RoomEverywhere C jobs

-- M2: no difference in Definition 2 and in μ is cut off at 0
abbrev pub NothingIsCutOff : Type 0
NothingIsCutOff =
    (C : ℕ) (jobs : List Job) → Tasks jobs
    → ((m : ℕ) → m < last_index jobs → lambda_c C jobs m ≤ lambda jobs (suc m)) × ((m : ℕ) → m ≤ last_index jobs → lambda_c C jobs m ≤ whole_work jobs)

-- M3: boundary 0 is short exactly if some job could not finish even alone in an endless room
abbrev pub ZeroIsShort : Type 0
ZeroIsShort =
    (C : ℕ) (jobs : List Job) → (room C jobs 0 <ℤ pos 0) ↔ ((j : Job) × Memᴰ j jobs × (j.bound * j.deadline < j.work))

-- M4: boundaries suffice, for if none is short then no b at all is
abbrev pub BoundariesSuffice : Type 0
BoundariesSuffice = (C : ℕ) (jobs : List Job) → RoomEverywhere C jobs → (b : ℕ) → pos 0 ≤ℤ room C jobs b

-- M5: the list of boundaries rises and has just the boundaries
abbrev pub BoundariesAreListed : Type 0
BoundariesAreListed = (jobs : List Job) → Rising (boundaries jobs) × ((b : ℕ) → Memᴰ b (boundaries jobs) ↔ Boundary jobs b)

-- M5: the least short boundary and its shortage
abbrev pub LeastShortIsNamed : Type 0
LeastShortIsNamed = (C : ℕ) (jobs : List Job) (s : Short) → (least_short C jobs ≡ some s) ↔ LeastShort C jobs s

-- M5: none is named exactly if none is short
abbrev pub NoneShortIsNamed : Type 0
NoneShortIsNamed = (C : ℕ) (jobs : List Job) → (least_short C jobs ≡ none) ↔ RoomEverywhere C jobs

-- the slot lemma: a slot filled with at most c machines lowers the excess over each level L as much as any filling can
abbrev pub SlotLemma : Type 0
SlotLemma =
    (c t L : ℕ) (ps : List Share) → (excess t L (fill c t ps) ≤ excess t (suc L) ps) ⊎ (excess t L (fill c t ps) + c ≤ excess t L ps)

-- R1: the rule works
abbrev pub PlanIsValid : Type 0
PlanIsValid = (C : ℕ) (jobs : List Job) → Distinct (numbers jobs) → RoomEverywhere C jobs → Valid C jobs (plan C jobs)

-- R2: it is the stated rule, and nothing else follows that rule
abbrev pub PlanIsTheRule : Type 0
PlanIsTheRule =
    (C : ℕ) (jobs : List Job) → Distinct (numbers jobs) → (y : ℕ → ℕ → ℕ)
    → Follows C jobs y ↔ All (λ j. (t : ℕ) → 1 ≤ t → y j.number t ≡ plan C jobs j.number t) jobs

-- R2: to start at any slot past all deadlines, at 168 say, is to start at the greatest deadline
abbrev pub StartPlaysNoPart : Type 0
StartPlaysNoPart =
    (C last : ℕ) (jobs : List Job) → All (λ j. j.deadline ≤ last) jobs → (n t : ℕ) → plan_from last (λ s. C) jobs n t ≡ plan C jobs n t

-- R3: the order of the list plays no part
pub record SameFigures (C : ℕ) (jobs jobs' : List Job) : Type 0 where
  pub machines : (n t : ℕ) → plan C jobs n t ≡ plan C jobs' n t
  pub forced_work : (b : ℕ) → forced jobs b ≡ forced jobs' b
  pub rooms : (b : ℕ) → room C jobs b ≡ room C jobs' b
  pub least_short_lem : least_short C jobs ≡ least_short C jobs'

abbrev pub OrderPlaysNoPart : Type 0
OrderPlaysNoPart = (C : ℕ) (jobs jobs' : List Job) → Perm jobs jobs' → Distinct (numbers jobs) → SameFigures C jobs jobs'

-- R4: the rows of 168 slots are the plan, job by job
abbrev pub RowsAreThePlan : Type 0
RowsAreThePlan =
    (C : ℕ) (jobs : List Job) → Distinct (numbers jobs) → All (λ j. j.deadline ≤ 168) jobs
    → plan_rows C jobs ≡ map (λ j. span 1 168 (plan C jobs j.number)) jobs

-- the first-column law: slot 1 of any valid schedule leaves jobs that the rest of that schedule finishes, none of them late
abbrev pub FirstColumnLeavesRoom : Type 0
FirstColumnLeavesRoom =
    (count : ℕ → ℕ) (jobs : List Job) (y : ℕ → ℕ → ℕ) → ValidIn count jobs y
    → ValidIn (λ t. count (suc t)) (after_first (λ n. y n 1) jobs) (λ n t. y n (suc t)) × All (λ j. 1 ≤ j.deadline) (after_first (λ n. y n 1) jobs)

-- fewer jobs, less work, a later deadline, a larger bound, more machines never turn a yes into a no
abbrev pub EasierStaysPossible : Type 0
EasierStaysPossible =
    (C C' : ℕ) (jobs jobs' : List Job) → C ≤ C' → Eases jobs' jobs → Distinct (numbers jobs) → Possible C jobs → Possible C' jobs'

-- the bound that counts is the job's own: the jobs that are planned are those that were asked for
abbrev pub BoundsCountAsAsked : Type 0
BoundsCountAsAsked = (C : ℕ) (jobs : List Job) → counted C jobs ≡ jobs

-- the jobs as they count have the valid schedules of the jobs as they were asked for
abbrev pub CountedChangesNothing : Type 0
CountedChangesNothing = (C : ℕ) (jobs : List Job) (y : ℕ → ℕ → ℕ) → Valid C (counted C jobs) y ↔ Valid C jobs y

-- O1: no valid schedule does less work in slots 1 to b than the plan
abbrev pub PlanTakesTheLeast : Type 0
PlanTakesTheLeast =
    (C : ℕ) (jobs : List Job) → Distinct (numbers jobs) → (y : ℕ → ℕ → ℕ) → Valid C jobs y → (b : ℕ) → work_by jobs (plan C jobs) b ≤ work_by jobs y b

-- O2: the work that the plan does in slots 1 to b is the figure of 02
abbrev pub LeastIsTheFigure : Type 0
LeastIsTheFigure =
    (C : ℕ) (jobs : List Job) → Distinct (numbers jobs) → RoomEverywhere C jobs → (b : ℕ) → pos (work_by jobs (plan C jobs) b) ≡ figure C jobs b

-- O2: the figure is the greatest of those that 02 names, and nothing else is
abbrev pub FigureIsTheGreatest : Type 0
FigureIsTheGreatest = (C : ℕ) (jobs : List Job) (b : ℕ) (z : ℤ) → (figure C jobs b ≡ z) ↔ Greatest C jobs b z

-- O2: it is never below 0, for any list
abbrev pub FigureIsNeverNegative : Type 0
FigureIsNeverNegative = (C : ℕ) (jobs : List Job) (b : ℕ) → pos 0 ≤ℤ figure C jobs b

-- O3: the plan is in the optimal state of document 002's Definition 3
abbrev pub PlanIsOptimal : Type 0
PlanIsOptimal = (C : ℕ) (jobs : List Job) → Distinct (numbers jobs) → Tasks jobs → RoomEverywhere C jobs → OptimalState C jobs (plan C jobs)
