-- The headline statements about the desk, each a proposition with a name.
use Rattle.std.specs.Prelude.{ℕ, ◌+◌, ◌*◌, ◌-◌, ◌/◌, ◌≤◌, ◌<◌, ◌≡◌, ◌≢◌, ◌⊎◌, ◌↔◌, true, length, replicate}
use mathlib.Core.List.{List, [], ◌∷◌, ◌++◌, map, Memᴰ}
use Rattle.model.specs.Lists.{All, total}
use Rattle.model.specs.Jobs.{Job, run_length, width}
use Rattle.model.specs.Boundaries.{LeastShort}
use Rattle.model.specs.Schedules.{Possible}
use Rattle.model.specs.Rule.{plan}
use Rattle.promise.specs.declared.Held.{Held}
use Rattle.promise.specs.declared.Desk.{Desk}
use Rattle.promise.specs.Records.{Desked}
use Rattle.promise.specs.Records.{Withdrawn}
use Rattle.promise.specs.Records.{Looked}
use Rattle.promise.specs.Records.{Ran}
use Rattle.promise.specs.Answers.{yes, refusal}
use Rattle.promise.specs.Order.{GivenBy}
use Rattle.promise.specs.Rows.{Field}
use Rattle.promise.specs.Desk.{held_of, desk_of, as_planned, jobs_for, Sound}
use Rattle.promise.specs.DeskCalls.{is_sound, open_of, with_new, jobs_with, admit_answer, admit_of, find_answer, withdraw_of, look_of, run_answer, run_of, asked, held_already, full, DeskHolds, desk_answer_of, admit_order, find_order, run_order}
use Rattle.promise.specs.History.{Call, event_answer, history_of, desk_after, room_opened, Promised, Owed, answered_for, ledger_after, to_finish}

-- a record has 32 seats
abbrev pub Has32Seats : Desk → Type 0
Has32Seats desk = length desk.seats ≡ 32

-- S1: the test agrees with soundness on every record
abbrev pub SoundIsTested : Type 0
SoundIsTested = (desk : Desk) → Has32Seats desk → (is_sound desk ≡ true) ↔ Sound desk

-- S2: each number exactly when its row holds and no earlier one in the order does
abbrev pub DeskAnswersByTheTable : Type 0
DeskAnswersByTheTable =
    (desk : Desk) (j : Job) (n : ℕ) → Has32Seats desk
    → GivenBy (DeskHolds desk j) (desk_answer_of desk j) admit_order (admit_answer desk j)
    × GivenBy (DeskHolds desk j) (desk_answer_of desk j) (find_order n) (find_answer desk n)
    × GivenBy (DeskHolds desk j) (desk_answer_of desk j) run_order (run_answer desk)

-- S2: Open answers 1 for a count out of range, with an empty one-machine desk; else yes, with an empty desk of that count
abbrev pub OpenAnswersByTheTable : Type 0
OpenAnswersByTheTable =
    (machines : ℕ)
    → ((1 ≤ machines) × (machines ≤ 64) → open_of machines ≡ record { answer = yes; desk = desk_of machines 0 [] })
    × ((machines < 1) ⊎ (64 < machines) → open_of machines ≡ record { answer = refusal 1 0 0; desk = desk_of 1 0 [] })

-- S3: Open returns a sound desk for every count, and every call on a sound desk returns a sound one
pub record StaysSound (desk : Desk) : Type 0 where
  pub admit : (j : Job) → Sound (admit_of desk j).desk
  pub withdraw : (n : ℕ) → Sound (withdraw_of desk n).desk
  pub look : (n : ℕ) → Sound (look_of desk n).desk
  pub run : Sound (run_of desk).desk

abbrev pub SoundnessIsKept : Type 0
SoundnessIsKept = ((machines : ℕ) → Sound (open_of machines).desk) × ((desk : Desk) → Sound desk → StaysSound desk)

-- S3: a refused call returns the desk as it came, and "A call's other figures are 0 in a refusal"
pub record HandsBack (desk : Desk) : Type 0 where
  pub admit : (j : Job) → (admit_of desk j).answer.number ≢ 0 → (admit_of desk j).desk ≡ desk
  pub withdraw : (n : ℕ) → (withdraw_of desk n).answer.number ≢ 0 → (withdraw_of desk n).desk ≡ desk
  pub look : (n : ℕ) → (look_of desk n).desk ≡ desk
  pub run : (run_of desk).answer.number ≢ 0 → (run_of desk).desk ≡ desk
  pub withdraw_figure : (n : ℕ) → (withdraw_of desk n).answer.number ≢ 0 → (withdraw_of desk n).left ≡ 0
  pub look_figures : (n : ℕ) → (look_of desk n).answer.number ≢ 0
      → ((look_of desk n).left ≡ 0) × ((look_of desk n).deadline ≡ 0) × ((look_of desk n).bound ≡ 0) × ((look_of desk n).leeway ≡ 0)
  pub run_pairs : (run_of desk).answer.number ≢ 0 → (run_of desk).given ≡ replicate 32 (record { number = 0; machines = 0 })

abbrev pub RefusalHandsTheDeskBack : Type 0
RefusalHandsTheDeskBack = (desk : Desk) → HandsBack desk

-- S4: Admit is exact
pub record AdmitIsExact (desk : Desk) (j : Job) : Type 0 where
  pub exactly : ((admit_answer desk j).number ≡ 7) ↔ (¬ Possible desk.machines (map (as_planned desk.clock) (with_new desk j)))
  pub names : (admit_answer desk j).number ≡ 7
      → (b : ℕ) × ((admit_answer desk j).place ≡ desk.clock + b)
      × LeastShort desk.machines (jobs_with desk j) (record { place = b; amount = (admit_answer desk j).amount })

abbrev pub AdmitSevenIsTrue : Type 0
AdmitSevenIsTrue =
    (desk : Desk) (j : Job) → Sound desk → ((f : Field) → ¬ DeskHolds desk j (asked f)) → ¬ DeskHolds desk j held_already → ¬ DeskHolds desk j full
    → AdmitIsExact desk j

-- S5: Run gives out slot 1 of the plan, within room and bounds, and lowers the works by just that
pub record GivesOut (desk : Desk) : Type 0 where
  pub pairs : (run_of desk).given
      ≡ map (λ h. record { number = h.number; machines = plan desk.machines (jobs_for desk) h.number 1 }) (held_of desk)
      ++ replicate (32 - length (held_of desk)) (record { number = 0; machines = 0 })
  pub room : total (λ g. g.machines) (run_of desk).given ≤ desk.machines
  pub bounds : All (λ h. plan desk.machines (jobs_for desk) h.number 1 ≤ h.bound) (held_of desk)
  pub clock : (run_of desk).desk.clock ≡ desk.clock + 1
  pub machines : (run_of desk).desk.machines ≡ desk.machines
  -- exactly the seats with work left, each lowered by exactly what was answered and all else as before
  pub stay : (h : Held) → Memᴰ h (held_of desk) → plan desk.machines (jobs_for desk) h.number 1 < h.left
      → Memᴰ (record { number = h.number; work = h.work; left = h.left - plan desk.machines (jobs_for desk) h.number 1; deadline = h.deadline; bound = h.bound; slots = h.slots }) (held_of (run_of desk).desk)
  pub only : (g : Held) → Memᴰ g (held_of (run_of desk).desk)
      → (h : Held) × Memᴰ h (held_of desk) × (plan desk.machines (jobs_for desk) h.number 1 < h.left)
      × (g ≡ record { number = h.number; work = h.work; left = h.left - plan desk.machines (jobs_for desk) h.number 1; deadline = h.deadline; bound = h.bound; slots = h.slots })

abbrev pub RunGivesOutThePlan : Type 0
RunGivesOutThePlan = (desk : Desk) → Sound desk → (run_answer desk).number ≡ 0 → GivesOut desk

-- what Admit, Withdraw and Look do to the seats and tell of them, written out
pub record SeatBySeat (desk : Desk) : Type 0 where
  pub admit : (j : Job) → (admit_of desk j).answer.number ≡ 0
      → (front back : List Held) × (held_of desk ≡ front ++ back)
      × ((admit_of desk j).desk
      ≡ desk_of desk.machines desk.clock
      (front
      ++ record { number = j.number; work = j.work; left = j.work; deadline = j.deadline; bound = j.bound; slots = j.deadline - desk.clock } ∷ back))
  pub withdraw : (front back : List Held) (h : Held) → held_of desk ≡ front ++ h ∷ back
      → withdraw_of desk h.number ≡ record { answer = yes; left = h.left; desk = desk_of desk.machines desk.clock (front ++ back) }
  pub look : (h : Held) → Memᴰ h (held_of desk)
      → look_of desk h.number
      ≡ record {
        answer = yes;
        left = h.left;
        deadline = h.deadline;
        bound = h.bound;
        leeway = 100 * h.slots / run_length h.work (width desk.machines h.bound);
        desk = desk;
      }

abbrev pub SeatsAreToldAndKept : Type 0
SeatsAreToldAndKept = (desk : Desk) → Sound desk → SeatBySeat desk

-- uniqueness: whatever the record, one answer, one figure each and one desk meet the promise of a call
pub record OneOutcome (desk : Desk) : Type 0 where
  pub admit : (j : Job) (r r' : Desked) → r ≡ admit_of desk j → r' ≡ admit_of desk j → r ≡ r'
  pub withdraw : (n : ℕ) (r r' : Withdrawn) → r ≡ withdraw_of desk n → r' ≡ withdraw_of desk n → r ≡ r'
  pub look : (n : ℕ) (r r' : Looked) → r ≡ look_of desk n → r' ≡ look_of desk n → r ≡ r'
  pub run : (r r' : Ran) → r ≡ run_of desk → r' ≡ run_of desk → r ≡ r'

-- and these are whole: a desk of 32 seats, a Run of 32 pairs
pub record WholeOutcome (desk : Desk) : Type 0 where
  pub admit : (j : Job) → Has32Seats (admit_of desk j).desk
  pub withdraw : (n : ℕ) → Has32Seats (withdraw_of desk n).desk
  pub look : (n : ℕ) → Has32Seats (look_of desk n).desk
  pub run : Has32Seats (run_of desk).desk
  pub pairs : length (run_of desk).given ≡ 32

abbrev pub DeskCallsLeaveOne : Type 0
DeskCallsLeaveOne = ((machines : ℕ) (r r' : Desked) → r ≡ open_of machines → r' ≡ open_of machines → r ≡ r')
    × ((desk : Desk) → Has32Seats desk → OneOutcome desk × WholeOutcome desk)

-- H, demand 3: the history of any calls from any Open, as its ledger has it, and any one call more
pub record PromiseKept (machines : ℕ) (calls : List Call) : Type 0 where
  -- (b) never more than its work
  pub within : All (λ p. p.had ≤ p.job.work) (ledger_after machines calls).in_force
  -- (c) once its due slot has run it has had exactly its work
  pub in_time : All (λ p. p.job.deadline ≤ (ledger_after machines calls).clock → p.had ≡ p.job.work) (ledger_after machines calls).in_force
  -- (c) and also if its number is admitted again before that
  pub before_again : (j : Job) → (admit_of (desk_after machines calls) j).answer.number ≡ 0
      → All (λ p. p.job.number ≡ j.number → p.had ≡ p.job.work) (ledger_after machines calls).in_force
  -- (a) never above its bound in a Run, (b) nothing from a Run at or past its due slot, (a) each Run within the room
  pub bounds : All (λ p. answered_for p.job.number (run_of (desk_after machines calls)).given ≤ p.job.bound) (ledger_after machines calls).in_force
  pub late : All (λ p. p.job.deadline ≤ (ledger_after machines calls).clock → answered_for p.job.number (run_of (desk_after machines calls)).given ≡ 0)
      (ledger_after machines calls).in_force
  pub room : total (λ g. g.machines) (run_of (desk_after machines calls)).given ≤ room_opened machines
  -- and nothing for a number with no work owed to it
  pub nobody_else : (n : ℕ) → ¬ Owed (ledger_after machines calls) n → answered_for n (run_of (desk_after machines calls)).given ≡ 0
  -- (d) no call answers 12
  pub sound : All (λ e. (event_answer e).number ≢ 12) (history_of machines calls)
  -- (e) an Admit answered 0 or 7 is answered 7 exactly if nothing could finish it with the admissions in force
  pub exact : (j : Job) → ((admit_of (desk_after machines calls) j).answer.number ≡ 0) ⊎ ((admit_of (desk_after machines calls) j).answer.number ≡ 7)
      → ((admit_of (desk_after machines calls) j).answer.number ≡ 7) ↔ (¬ Possible (room_opened machines) (to_finish (ledger_after machines calls) j))
  -- (f) Look and Withdraw find just the admissions in force with work left, and answer that work
  pub found : (n : ℕ) → ((look_of (desk_after machines calls) n).answer.number ≡ 0) ↔ Owed (ledger_after machines calls) n
  pub withdrawn : (n : ℕ) → ((withdraw_of (desk_after machines calls) n).answer.number ≡ 0) ↔ Owed (ledger_after machines calls) n
  pub left : (p : Promised) → Memᴰ p (ledger_after machines calls).in_force → p.had < p.job.work
      → ((look_of (desk_after machines calls) p.job.number).left ≡ p.job.work - p.had)
      × ((withdraw_of (desk_after machines calls) p.job.number).left ≡ p.job.work - p.had)
  -- and Look tells the due slot and the bound that it was admitted with
  pub told : (p : Promised) → Memᴰ p (ledger_after machines calls).in_force → p.had < p.job.work
      → ((look_of (desk_after machines calls) p.job.number).deadline ≡ p.job.deadline)
      × ((look_of (desk_after machines calls) p.job.number).bound ≡ p.job.bound)
  -- (g) below clock 100,000 Run answers 0, so every due slot is reached
  pub runs : (ledger_after machines calls).clock < 100000 → (run_of (desk_after machines calls)).answer ≡ yes
  -- (g) and no other call moves the clock: it is the number of Runs answered 0
  pub clock : (desk_after machines calls).clock ≡ (ledger_after machines calls).clock

abbrev pub DemandThree : Type 0
DemandThree = (machines : ℕ) (calls : List Call) → PromiseKept machines calls
