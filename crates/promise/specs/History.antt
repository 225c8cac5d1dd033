-- Demand 3: any sequence of calls from Open, and what one who saw only the calls and their answers would write down.
use Rattle.std.specs.Prelude.{ℕ, ◌+◌, ◌-◌, ◌<◌, ◌≡◌, cond, ltb, eqb}
use mathlib.Core.List.{List, [], ◌∷◌, map, Memᴰ}
use Rattle.model.specs.Lists.{total}
use Rattle.model.specs.Jobs.{Job}
use Rattle.promise.specs.declared.Answer.{Answer}
use Rattle.promise.specs.declared.Desk.{Desk}
use Rattle.promise.specs.declared.Given.{Given}
use Rattle.promise.specs.DeskCalls.{open_of, admit_of, withdraw_of, look_of, run_of}

-- a call with its arguments; a job's deadline is its due slot on the clock
pub data Call : Type 0 where
  admit : Job → Call
  withdraw look : ℕ → Call
  run : Call

-- a call with what was answered: the remaining work of Withdraw and Look, the pairs of Run
pub data Event : Type 0 where
  admitted : Job → Answer → Event
  withdrew looked : ℕ → Answer → ℕ → Event
  ran : Answer → List Given → Event

abbrev pub event_answer : Event → Answer
event_answer (admitted j a) = a
event_answer (withdrew n a left) = a
event_answer (looked n a left) = a
event_answer (ran a given) = a

-- one call on a desk
abbrev pub happens : Desk → Call → Event
happens desk (admit j) = admitted j (admit_of desk j).answer
happens desk (withdraw n) = withdrew n (withdraw_of desk n).answer (withdraw_of desk n).left
happens desk (look n) = looked n (look_of desk n).answer (look_of desk n).left
happens desk run = ran (run_of desk).answer (run_of desk).given

abbrev pub returned : Desk → Call → Desk
returned desk (admit j) = (admit_of desk j).desk
returned desk (withdraw n) = (withdraw_of desk n).desk
returned desk (look n) = (look_of desk n).desk
returned desk run = (run_of desk).desk

-- a history: each call on the desk that the last one returned
abbrev pub events_from : Desk → List Call → List Event
events_from desk [] = []
events_from desk (call ∷ calls) = happens desk call ∷ events_from (returned desk call) calls

abbrev pub desk_from : Desk → List Call → Desk
desk_from desk [] = desk
desk_from desk (call ∷ calls) = desk_from (returned desk call) calls

-- the desk after a history that starts with Open of so many machines
unfoldable pub desk_after : ℕ → List Call → Desk
desk_after machines calls = desk_from (open_of machines).desk calls

unfoldable pub history_of : ℕ → List Call → List Event
history_of machines calls = events_from (open_of machines).desk calls

-- the room: Open's count, or 1 if it was refused
unfoldable pub room_opened : ℕ → ℕ
room_opened machines = cond (eqb (open_of machines).answer.number 0) machines 1

-- an admission in force: an Admit answered 0, until its number is withdrawn or admitted again with answer 0,
-- and what the Runs since have answered for its number
pub record Promised : Type 0 where
  pub job : Job
  pub had : ℕ

-- the admissions in force, and how many slots have run
pub record Ledger : Type 0 where
  pub clock : ℕ
  pub in_force : List Promised

-- an admission of this number is in force and has work left
abbrev pub Owed : Ledger → ℕ → Type 0
Owed l n = (p : Promised) × Memᴰ p l.in_force × (p.job.number ≡ n) × (p.had < p.job.work)

-- the machines that a Run answered for a number
unfoldable pub answered_for : ℕ → List Given → ℕ
answered_for n given = total (λ g. cond (eqb g.number n) g.machines 0) given

unfoldable pub credited : List Given → Promised → Promised
credited given p = record { job = p.job; had = p.had + answered_for p.job.number given }

-- no longer in force
abbrev pub off : ℕ → List Promised → List Promised
off n [] = []
off n (p ∷ ps) = cond (eqb p.job.number n) (off n ps) (p ∷ off n ps)

-- an event, entered: a refused call changes nothing
abbrev pub entered : Ledger → Event → Ledger
entered l (admitted j a) =
    cond (eqb a.number 0) (record { clock = l.clock; in_force = record { job = j; had = 0 } ∷ off j.number l.in_force }) l
entered l (withdrew n a left) = cond (eqb a.number 0) (record { clock = l.clock; in_force = off n l.in_force }) l
entered l (looked n a left) = l
entered l (ran a given) = cond (eqb a.number 0) (record { clock = l.clock + 1; in_force = map (credited given) l.in_force }) l

abbrev pub ledger_from : Ledger → List Event → Ledger
ledger_from l [] = l
ledger_from l (e ∷ es) = ledger_from (entered l e) es

unfoldable pub ledger_of : List Event → Ledger
ledger_of es = ledger_from (record { clock = 0; in_force = [] }) es

-- the ledger of a history
unfoldable pub ledger_after : ℕ → List Call → Ledger
ledger_after machines calls = ledger_of (history_of machines calls)

-- those with work left, each with its work less what the Runs have answered since, and the slots left to its due slot
unfoldable pub remaining : ℕ → Promised → Job
remaining clock p = record { number = p.job.number; work = p.job.work - p.had; deadline = p.job.deadline - clock; bound = p.job.bound }

abbrev pub unfinished : ℕ → List Promised → List Job
unfinished clock [] = []
unfinished clock (p ∷ ps) = cond (ltb p.had p.job.work) (remaining clock p ∷ unfinished clock ps) (unfinished clock ps)

-- the new job and the admissions in force, from this slot on
unfoldable pub to_finish : Ledger → Job → List Job
to_finish l j = remaining l.clock (record { job = j; had = 0 }) ∷ unfinished l.clock l.in_force
