-- What is read back of a numbered refusal: the refusal itself.
use Rattle.std.proofs.Common.{ℕ, ℤ, ◌≡◌, ◌≢◌, ◌≤◌, cond, eqb, List, refl, arith, ap, sym, ◌∙◌}
use Rattle.std.specs.declared.result.Result.{Result}
use Rattle.std.specs.declared.result.Result.TheVariants.{Ok, Err}
use Rattle.promise.specs.declared.Answer.{Answer}
use Rattle.promise.specs.declared.Field.{Field}
use Rattle.promise.specs.declared.Field.TheVariants.{Number, Work, Deadline, Bound}
use Rattle.promise.specs.declared.Refusal.{Refusal}
use Rattle.promise.specs.declared.Refusal.TheVariants.{MachineCount, ListLength, ManyRows, BadField, SeenNumber, ShortBuffer, NoFit, FullDesk, FarBoundary, NotHeld, ClockAtEnd, NotSound, BadLine, LongFile}
use Rattle.promise.specs.declared.Desk.{Desk}
use Rattle.promise.specs.declared.Outcome.{Outcome}
use Rattle.promise.specs.declared.Figures.{Figures}
use Rattle.promise.specs.declared.Given.{Given}
use Rattle.promise.specs.declared.JobFile.{JobFile}
use Rattle.promise.specs.Refusals.{numbered, as_answer, as_room_answer, as_withdrawn, as_looked, as_ran, as_reading, no_figures, no_pairs}
use Rattle.std.specs.Result.{result_unwrap_or}
use Rattle.promise.specs.Records.{Looked}
use Rattle.promise.specs.Answers.{yes}
use Rattle.promise.specs.Claims.{RefusalsAreNumbered, RefusalsAreToldApart, OutcomesLeaveOne}

abbrev field_back : ℕ → Field
field_back n = cond (eqb n 1) Number (cond (eqb n 2) Work (cond (eqb n 3) Deadline Bound))

abbrev late_back : Answer → Refusal
late_back a =
    cond (eqb a.number 8) FullDesk
    (cond (eqb a.number 9) FarBoundary
    (cond (eqb a.number 10) NotHeld
    (cond (eqb a.number 11) ClockAtEnd
    (cond (eqb a.number 12) NotSound
    (cond (eqb a.number 13) (BadLine a.place) LongFile)))))

abbrev read_back : Answer → Refusal
read_back a =
    cond (eqb a.number 1) MachineCount
    (cond (eqb a.number 2) ListLength
    (cond (eqb a.number 3) ManyRows
    (cond (eqb a.number 4) (BadField a.place (field_back a.amount))
    (cond (eqb a.number 5) (SeenNumber a.place)
    (cond (eqb a.number 6) ShortBuffer
    (cond (eqb a.number 7) (NoFit a.place a.amount) (late_back a)))))))

field_lem : (row : ℕ) (f : Field) → read_back (numbered (BadField row f)) ≡ BadField row f
field_lem row Number = refl
field_lem row Work = refl
field_lem row Deadline = refl
field_lem row Bound = refl

back : (e : Refusal) → read_back (numbered e) ≡ e
back MachineCount = refl
back ListLength = refl
back ManyRows = refl
back (BadField row field) = field_lem row field
back (SeenNumber row) = refl
back ShortBuffer = refl
back (NoFit boundary shortage) = refl
back FullDesk = refl
back FarBoundary = refl
back NotHeld = refl
back ClockAtEnd = refl
back NotSound = refl
back (BadLine line) = refl
back LongFile = refl

pub told_apart : RefusalsAreToldApart
told_apart e f same = sym (back e) ∙ ap read_back same ∙ back f

pub are_numbered : RefusalsAreNumbered
are_numbered MachineCount = search arith
are_numbered ListLength = search arith
are_numbered ManyRows = search arith
are_numbered (BadField row field) = search arith
are_numbered (SeenNumber row) = search arith
are_numbered ShortBuffer = search arith
are_numbered (NoFit boundary shortage) = search arith
are_numbered FullDesk = search arith
are_numbered FarBoundary = search arith
are_numbered NotHeld = search arith
are_numbered ClockAtEnd = search arith
are_numbered NotSound = search arith
are_numbered (BadLine line) = search arith
are_numbered LongFile = search arith

-- no refusal is a yes
pub is_refusal : (e : Refusal) → 1 ≤ (numbered e).number
is_refusal e = (are_numbered e).0

pub no_yes : (e : Refusal) → (numbered e).number ≢ 0
no_yes e = omega (arith, is_refusal e)

crossed : (e : Refusal) → yes ≡ numbered e → ⊥
crossed e same = no_yes e (sym (ap (λ a. a.number) same))

plan_lem : (r s : Result Unit Refusal) → as_answer r ≡ as_answer s → r ≡ s
plan_lem (Ok x) (Ok y) same = refl
plan_lem (Ok x) (Err f) same = absurd (crossed f same)
plan_lem (Err e) (Ok y) same = absurd (crossed e (sym same))
plan_lem (Err e) (Err f) same = ap Err (told_apart e f same)

room_lem : (r s : Result ℤ Refusal) → as_room_answer r ≡ as_room_answer s → r ≡ s
room_lem (Ok x) (Ok y) same = ap Ok (ap (λ a. a.room) same)
room_lem (Ok x) (Err f) same = absurd (crossed f (ap (λ a. a.answer) same))
room_lem (Err e) (Ok y) same = absurd (crossed e (sym (ap (λ a. a.answer) same)))
room_lem (Err e) (Err f) same = ap Err (told_apart e f (ap (λ a. a.answer) same))

-- of figures that are read off the record, whatever they are in a refusal
figures_lem :
    {A : Type 0} (figures : Result A Refusal → A) → ((x : A) → figures (Ok x) ≡ x)
    → (r s : Result A Refusal) → as_answer r ≡ as_answer s → figures r ≡ figures s → r ≡ s
figures_lem figures are (Ok x) (Ok y) same told = ap Ok (sym (are x) ∙ told ∙ are y)
figures_lem figures are (Ok x) (Err f) same told = absurd (crossed f same)
figures_lem figures are (Err e) (Ok y) same told = absurd (crossed e (sym same))
figures_lem figures are (Err e) (Err f) same told = ap Err (told_apart e f same)

reading_lem : (r s : Result JobFile Refusal) → as_reading r ≡ as_reading s → r ≡ s
reading_lem (Ok x) (Ok y) same =
    ap Ok (ap (λ a. record { machines = a.machines; groups = a.groups; rows = a.rows }) same)
reading_lem (Ok x) (Err f) same = absurd (crossed f (ap (λ a. a.answer) same))
reading_lem (Err e) (Ok y) same = absurd (crossed e (sym (ap (λ a. a.answer) same)))
reading_lem (Err e) (Err f) same = ap Err (told_apart e f (ap (λ a. a.answer) same))

abbrev outcome : {A : Type 0} → Result A Refusal → Desk → Outcome A
outcome answer desk = record { answer = answer; desk = desk }

outcome_lem : {A : Type 0} (r s : Outcome A) → r.answer ≡ s.answer → r.desk ≡ s.desk → r ≡ s
outcome_lem r s answer desk = ap (λ a. outcome a r.desk) answer ∙ ap (λ d. outcome s.answer d) desk

withdrawn_lem : (r s : Outcome ℕ) → as_withdrawn r ≡ as_withdrawn s → r ≡ s
withdrawn_lem r s same =
    outcome_lem r s
    (figures_lem (λ r. result_unwrap_or r 0) (λ x. refl) _ _ (ap (λ a. a.answer) same) (ap (λ a. a.left) same))
    (ap (λ a. a.desk) same)

abbrev told_in : Looked → Figures
told_in a = record { left = a.left; deadline = a.deadline; bound = a.bound; leeway = a.leeway }

looked_lem : (r s : Outcome Figures) → as_looked r ≡ as_looked s → r ≡ s
looked_lem r s same =
    outcome_lem r s
    (figures_lem (λ r. result_unwrap_or r no_figures) (λ x. refl) _ _ (ap (λ a. a.answer) same) (ap told_in same))
    (ap (λ a. a.desk) same)

ran_lem : (r s : Outcome (List Given)) → as_ran r ≡ as_ran s → r ≡ s
ran_lem r s same =
    outcome_lem r s
    (figures_lem (λ r. result_unwrap_or r no_pairs) (λ x. refl) _ _ (ap (λ a. a.answer) same) (ap (λ a. a.given) same))
    (ap (λ a. a.desk) same)

pub outcomes_leave_one : OutcomesLeaveOne
outcomes_leave_one = record {
  plan = plan_lem;
  room = room_lem;
  desked = λ r s same. outcome_lem r s (plan_lem _ _ (ap (λ a. a.answer) same)) (ap (λ a. a.desk) same);
  withdrawn = withdrawn_lem;
  looked = looked_lem;
  ran = ran_lem;
  reading = reading_lem;
}
