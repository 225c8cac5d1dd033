-- 01, "Calls" and "Refusal numbers": the whole outcome of each desk call, for every record and every argument.
use Rattle.std.specs.Prelude.{ℕ, ◌+◌, ◌*◌, ◌-◌, ◌≤◌, min, ◌≡◌, Bool, true, false, not, cond, ◌&&◌, ◌||◌, leb, ltb, eqb, length, replicate}
use mathlib.Core.List.{List, [], ◌∷◌, ◌++◌, map, Memᴰ}
use Rattle.std.proofs.Math.Option.{Option, some, none}
use Rattle.model.specs.Jobs.{Job}
use Rattle.model.specs.Boundaries.{RoomEverywhere, Short, least_short}
use Rattle.promise.specs.declared.Answer.{Answer}
use Rattle.promise.specs.declared.Held.{Held}
use Rattle.promise.specs.declared.Desk.{Desk}
use Rattle.promise.specs.Records.{Desked}
use Rattle.promise.specs.Records.{Withdrawn}
use Rattle.promise.specs.Records.{Looked}
use Rattle.promise.specs.declared.Given.{Given}
use Rattle.promise.specs.Records.{Ran}
use Rattle.promise.specs.Answers.{yes, refusal, fault, first}
use Rattle.promise.specs.Rows.{Field, the_number, the_work, the_deadline, the_bound, field_number, DueRange, OutOfRange, fields_fault, count_fault}
use Rattle.promise.specs.Desk.{unused, held_of, desk_of, to_plan, jobs_for, Sound, column, leeway}

-- soundness as a test that computes: the seats one after the other, with the number before each
unfoldable pub seat_fits : ℕ → Held → Bool
seat_fits clock h =
    leb 1 h.bound && leb h.bound 64 && leb 1 h.slots && leb h.slots 168 && leb (h.deadline - clock) h.slots
    && leb h.work (h.bound * h.slots)

unfoldable pub seat_ok : ℕ → Held → Bool
seat_ok clock h =
    leb h.number 65535 && leb 1 h.work && leb h.work 60000 && leb 1 h.left && leb h.left h.work && ltb clock h.deadline
    && leb h.deadline 100000 && seat_fits clock h

unfoldable pub is_unused : Held → Bool
is_unused h = eqb h.number 0 && eqb h.work 0 && eqb h.left 0 && eqb h.deadline 0 && eqb h.bound 0 && eqb h.slots 0

abbrev pub all_unused : List Held → Bool
all_unused [] = true
all_unused (h ∷ hs) = is_unused h && all_unused hs

abbrev pub seats_ok : ℕ → ℕ → List Held → Bool
seats_ok clock before [] = true
seats_ok clock before (h ∷ hs) =
    cond (eqb h.number 0) (all_unused (h ∷ hs)) (ltb before h.number && seat_ok clock h && seats_ok clock h.number hs)

abbrev pub none_short : Option Short → Bool
none_short none = true
none_short (some s) = false

unfoldable pub is_sound : Desk → Bool
is_sound desk =
    leb 1 desk.machines && leb desk.machines 64 && leb desk.clock 100000 && seats_ok desk.clock 0 desk.seats
    && none_short (least_short desk.machines (jobs_for desk))

-- "Every desk call but Open tests 12 first."
unfoldable pub sound_fault : Desk → Answer
sound_fault desk = fault (not (is_sound desk)) (refusal 12 0 0)

-- the held job of a number
abbrev pub is_held : ℕ → List Held → Bool
is_held n [] = false
is_held n (h ∷ hs) = eqb h.number n || is_held n hs

abbrev pub seat_of : ℕ → List Held → Held
seat_of n [] = unused
seat_of n (h ∷ hs) = cond (eqb h.number n) h (seat_of n hs)

abbrev pub without : ℕ → List Held → List Held
without n [] = []
without n (h ∷ hs) = cond (eqb h.number n) hs (h ∷ without n hs)

-- a job in its seat, by rising number
abbrev pub seated : Held → List Held → List Held
seated h [] = h ∷ []
seated h (g ∷ gs) = cond (ltb h.number g.number) (h ∷ g ∷ gs) (g ∷ seated h gs)

-- Open: "1, and it then returns an empty one-machine desk"
unfoldable pub open_of : ℕ → Desked
open_of machines = record {
  answer = count_fault machines;
  desk = desk_of (cond (eqb (count_fault machines).number 0) machines 1) 0 [];
}

-- Admit. "its field 3 must be clock + 1 to the smaller of clock + 168 and 100,000"
unfoldable pub admit_dues : ℕ → DueRange
admit_dues clock = record { from = clock + 1; to = min (clock + 168) 100000 }

-- the job that is asked for, its deadline a slot number on the clock, in its seat
unfoldable pub new_held : ℕ → Job → Held
new_held clock j = record { number = j.number; work = j.work; left = j.work; deadline = j.deadline; bound = j.bound; slots = j.deadline - clock }

-- "place in a 7 is clock + boundary"
abbrev pub desk_fit : ℕ → Option Short → Answer
desk_fit clock none = yes
desk_fit clock (some s) = refusal 7 (clock + s.place) s.amount

-- the held jobs with the new one, and as they count for planning
unfoldable pub with_new : Desk → Job → List Held
with_new desk j = seated (new_held desk.clock j) (held_of desk)

abbrev pub jobs_with : Desk → Job → List Job
jobs_with desk j = to_plan desk.machines desk.clock (with_new desk j)

-- "Admit: 12, 4, 5, 8, 7"
unfoldable pub admit_answer : Desk → Job → Answer
admit_answer desk j =
    first (sound_fault desk)
    (first (fields_fault (admit_dues desk.clock) 0 j)
    (first (fault (is_held j.number (held_of desk)) (refusal 5 0 0))
    (first (fault (leb 32 (length (held_of desk))) (refusal 8 0 0))
    (desk_fit desk.clock (least_short desk.machines (jobs_with desk j))))))

-- a yes hands back the new desk, a refusal "the desk back as it came"
abbrev pub handed : Answer → Desk → Desk → Desk
handed a new old = cond (eqb a.number 0) new old

-- "A call's other figures are 0 in a refusal"
abbrev pub figure : Answer → ℕ → ℕ
figure a n = cond (eqb a.number 0) n 0

unfoldable pub admit_of : Desk → Job → Desked
admit_of desk j = record {
  answer = admit_answer desk j;
  desk = handed (admit_answer desk j) (desk_of desk.machines desk.clock (with_new desk j)) desk;
}

-- Withdraw and Look: "12, 10"
unfoldable pub find_answer : Desk → ℕ → Answer
find_answer desk n = first (sound_fault desk) (fault (not (is_held n (held_of desk))) (refusal 10 0 0))

-- "Withdraw: the desk without that job; answers its remaining work."
unfoldable pub withdraw_of : Desk → ℕ → Withdrawn
withdraw_of desk n = record {
  answer = find_answer desk n;
  left = figure (find_answer desk n) (seat_of n (held_of desk)).left;
  desk = handed (find_answer desk n) (desk_of desk.machines desk.clock (without n (held_of desk))) desk;
}

-- "Look: remaining work, deadline, bound and leeway."
unfoldable pub look_of : Desk → ℕ → Looked
look_of desk n = record {
  answer = find_answer desk n;
  left = figure (find_answer desk n) (seat_of n (held_of desk)).left;
  deadline = figure (find_answer desk n) (seat_of n (held_of desk)).deadline;
  bound = figure (find_answer desk n) (seat_of n (held_of desk)).bound;
  leeway = figure (find_answer desk n) (leeway desk.machines (seat_of n (held_of desk)));
  desk = desk;
}

-- Run: "12, 11"
unfoldable pub run_answer : Desk → Answer
run_answer desk = first (sound_fault desk) (fault (eqb desk.clock 100000) (refusal 11 0 0))

-- "answered as 32 pairs of job number and machines .. zeros after the last"
unfoldable pub pairs : List Given → List Given
pairs given = given ++ replicate (32 - length given) (record { number = 0; machines = 0 })

unfoldable pub given_of : (ℕ → ℕ) → List Held → List Given
given_of machines held = map (λ h. record { number = h.number; machines = machines h.number }) held

-- "Remaining works fall by them, a job at zero leaves"
unfoldable pub lowered : ℕ → Held → Held
lowered machines h = record { number = h.number; work = h.work; left = h.left - machines; deadline = h.deadline; bound = h.bound; slots = h.slots }

abbrev pub after_run : (ℕ → ℕ) → List Held → List Held
after_run machines [] = []
after_run machines (h ∷ hs) =
    cond (leb h.left (machines h.number)) (after_run machines hs) (lowered (machines h.number) h ∷ after_run machines hs)

unfoldable pub run_of : Desk → Ran
run_of desk = record {
  answer = run_answer desk;
  given = cond (eqb (run_answer desk).number 0) (pairs (given_of (column desk) (held_of desk))) (pairs []);
  desk = handed (run_answer desk) (desk_of desk.machines (desk.clock + 1) (after_run (column desk) (held_of desk))) desk;
}

-- the rows of the refusal table that speak of a desk, as statements about the desk and the arguments alone
pub data DeskTest : Type 0 where
  not_sound : DeskTest
  asked : Field → DeskTest
  held_already full no_fit : DeskTest
  not_held : ℕ → DeskTest
  at_the_end : DeskTest

abbrev pub HeldAs : Desk → ℕ → Type 0
HeldAs desk n = (h : Held) × Memᴰ h (held_of desk) × (h.number ≡ n)

-- j is the job that Admit is asked for; the other calls look at none of its fields
abbrev pub DeskHolds : Desk → Job → DeskTest → Type 0
DeskHolds desk j not_sound = ¬ Sound desk
DeskHolds desk j (asked f) = OutOfRange (record { from = desk.clock + 1; to = min (desk.clock + 168) 100000 }) f j
DeskHolds desk j held_already = HeldAs desk j.number
DeskHolds desk j full = 32 ≤ length (held_of desk)
DeskHolds desk j no_fit = ¬ RoomEverywhere desk.machines (jobs_with desk j)
DeskHolds desk j (not_held n) = ¬ HeldAs desk n
DeskHolds desk j at_the_end = desk.clock ≡ 100000

abbrev pub desk_answer_of : Desk → Job → DeskTest → Answer
desk_answer_of desk j not_sound = refusal 12 0 0
desk_answer_of desk j (asked f) = refusal 4 0 (field_number f)
desk_answer_of desk j held_already = refusal 5 0 0
desk_answer_of desk j full = refusal 8 0 0
desk_answer_of desk j no_fit = desk_fit desk.clock (least_short desk.machines (jobs_with desk j))
desk_answer_of desk j (not_held n) = refusal 10 0 0
desk_answer_of desk j at_the_end = refusal 11 0 0

-- the orders, as 01 writes them
abbrev pub admit_order : List DeskTest
admit_order = not_sound ∷ asked the_number ∷ asked the_work ∷ asked the_deadline ∷ asked the_bound ∷ held_already ∷ full ∷ no_fit ∷ []

abbrev pub find_order : ℕ → List DeskTest
find_order n = not_sound ∷ not_held n ∷ []

abbrev pub run_order : List DeskTest
run_order = not_sound ∷ at_the_end ∷ []
