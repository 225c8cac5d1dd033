-- The desk's calls, from the answers of their parts.
use Prim.Native.Nat.{ℕ, ◌≤◌, ◌<◌}
use native.Mathlib.Omega.{arith}
use mathlib.Core.Path.{◌≡◌, refl, sym, ◌∙◌, ap}
use mathlib.Core.Bool.{Bool, true, false}
use mathlib.Core.List.{List, [], ◌∷◌}
use lib.Dec.{leb}
use lib.ListN.{length, get_or, get_or-append}
use borrow.Author.Tests.{ne_eqb, lt-leb, leb-false}
use Rattle.std.specs.Prelude.{Some, None, Err}
use Rattle.model.specs.Lists.{All}
use Rattle.model.specs.Jobs.{Job}
use Rattle.model.specs.Boundaries.{least_short}
use Rattle.model.proofs.Lists.{perm_all, All-map}
use Rattle.model.proofs.Theorems.{least_short_is_named}
use Rattle.walk.specs.declared.Shortage.{Shortage}
use Rattle.walk.specs.Walk.{InRange, as_short}
use Rattle.promise.specs.declared.Answer.{Answer}
use Rattle.promise.specs.declared.Refusal.{Refusal}
use Rattle.promise.specs.declared.Held.{Held}
use Rattle.promise.specs.declared.Desk.{Desk}
use Rattle.promise.specs.Answers.{yes, refusal, fault, first}
use Rattle.promise.specs.Rows.{Field, the_number, the_work, the_deadline, the_bound, fields_fault}
use Rattle.promise.specs.Desk.{unused, held_of, table, desk_of, to_plan, jobs_for, leeway, Sound, SoundSeat}
use Rattle.promise.specs.DeskCalls.{is_held, seat_of, without, seated, new_held, with_new, jobs_with, admit_dues, desk_fit, sound_fault, admit_answer, admit_of, find_answer, withdraw_of, look_of, asked, DeskHolds, desk_answer_of}
use Rattle.promise.specs.DeskClaims.{Has32Seats}
use Rattle.promise.specs.Refusals.{numbered}
use Rattle.promise.proofs.Ladder.{same_number, first_zero, first_zero_front, first_first, zero_none}
use Rattle.promise.proofs.DeskKept.{in_range}
use Rattle.promise.proofs.DeskTable.{desk_refuses, gives_fields}
use Rattle.promise.proofs.DeskSeats.{held_again, seated_perm}
use Rattle.promise.proofs.Bounds.{boundary_le}
use Rattle.promise.proofs.DeskBounds.{asked_in_range}
use Rattle.seats.specs.Seats.{find_in}
use Rattle.desk.specs.Calls.{seat_fault, admit_fault}
use Rattle.seats.proofs.Laws.{find_held}
use Rattle.promise.proofs.Refusals.{no_yes}
use Rattle.promise.proofs.Exits.{refused, passed}
use Rattle.desk.proofs.Figures.{all_nth, good}

-- Withdraw and Look
module _ (desk : Desk) (n : ℕ) where
  module _ (e : Refusal) where
    pub find_refused : numbered e ≡ sound_fault desk → numbered e ≡ find_answer desk n
    unfolding find_answer
    find_refused q = refused e (sound_fault desk) _ q

    module _ (q : numbered e ≡ find_answer desk n) where
      pub withdraw_refused : record { answer = numbered e; left = 0; desk = desk } ≡ withdraw_of desk n
      unfolding withdraw_of
      withdraw_refused = rw (← q, ne_eqb (numbered e).number 0 (no_yes e)) refl

      pub look_refused : record { answer = numbered e; left = 0; deadline = 0; bound = 0; leeway = 0; desk = desk } ≡ look_of desk n
      unfolding look_of
      look_refused = rw (← q, ne_eqb (numbered e).number 0 (no_yes e)) refl

  module _ (clear : yes ≡ sound_fault desk) where
    pub not_held : find_in n 0 (held_of desk) ≡ None → refusal 10 0 0 ≡ find_answer desk n
    unfolding find_answer
    not_held e = passed (sound_fault desk) _ (refusal 10 0 0) clear (rw ((find_held n (held_of desk)).0 e) refl)

    pub held_here : (at : ℕ) → find_in n 0 (held_of desk) ≡ Some at → yes ≡ find_answer desk n
    unfolding find_answer
    held_here at e = passed (sound_fault desk) _ yes clear (rw ((find_held n (held_of desk)).1 at e).0 refl)

  module _ (q : yes ≡ find_answer desk n) where
    pub withdraw_answered : (h : Held) → h ≡ seat_of n (held_of desk) → (d : Desk) → d ≡ desk_of desk.machines desk.clock (without n (held_of desk))
        → record { answer = yes; left = h.left; desk = d } ≡ withdraw_of desk n
    unfolding withdraw_of
    withdraw_answered h eh d ed = rw (← q, ← eh, ← ed) refl

    pub look_answered : (h : Held) → h ≡ seat_of n (held_of desk)
        → record { answer = yes; left = h.left; deadline = h.deadline; bound = h.bound; leeway = leeway desk.machines h; desk = desk } ≡ look_of desk n
    unfolding look_of
    look_answered h eh = rw (← q, ← eh) refl

-- the seat that the search comes to
module _ (desk : Desk) (len : Has32Seats desk) (n : ℕ) (q : yes ≡ find_answer desk n) where
  found_sound : Sound desk
  unfolding find_answer
  found_sound = good desk (first_zero_front (sound_fault desk) _ (sym (same_number q))) len

  pub found_machines : 1 ≤ desk.machines
  found_machines = found_sound.machines.0

  pub found_zeros : desk.seats ≡ table (held_of desk)
  found_zeros = found_sound.zeros

  module _ (at : ℕ) (e : find_in n 0 (held_of desk) ≡ Some at) where
    seat_early : at < length (held_of desk)
    seat_early = ((find_held n (held_of desk)).1 at e).1

    pub seat_of_table : at < 32
    seat_of_table = let f = found_sound.few in let l = seat_early in omega arith

    pub seat_there : (d : Held) → get_or desk.seats at d ≡ seat_of n (held_of desk)
    unfolding table
    seat_there d =
        ap (λ (l : List Held). get_or l at d) found_zeros
        ∙ get_or-append (held_of desk) _ d at seat_early
        ∙ ((find_held n (held_of desk)).1 at e).2 d

    pub seat_sound : SoundSeat desk.clock (seat_of n (held_of desk))
    seat_sound = rw (((find_held n (held_of desk)).1 at e).2 unused) at (all_nth (SoundSeat desk.clock) (held_of desk) at unused found_sound.seats seat_early)

-- a number that is held, a full table
module _ (desk : Desk) (n : ℕ) where
  pub held_fault : (at : ℕ) → find_in n 0 (held_of desk) ≡ Some at → refusal 5 0 0 ≡ seat_fault desk n
  unfolding seat_fault
  held_fault at e = rw ((find_held n (held_of desk)).1 at e).0 refl

  module _ (e : find_in n 0 (held_of desk) ≡ None) where
    pub full_fault : length (held_of desk) ≡ 32 → refusal 8 0 0 ≡ seat_fault desk n
    unfolding seat_fault
    full_fault l = rw ((find_held n (held_of desk)).0 e, l) refl

    pub seat_free : length (held_of desk) < 32 → yes ≡ seat_fault desk n
    unfolding seat_fault
    seat_free l = rw ((find_held n (held_of desk)).0 e, lt-leb 32 (length (held_of desk)) l) refl

-- a short boundary that the walk names is a deadline, or 0
pub near : (machines : ℕ) (jobs : List Job) (short : Shortage) → All InRange jobs → as_short (Err short) ≡ least_short machines jobs → short.boundary ≤ 168
near machines jobs short a e =
    boundary_le 168 jobs (All-map (λ j r. r.1) jobs a) short.boundary
    ((least_short_is_named machines jobs (record { place = short.boundary; amount = short.amount })).0 (sym e)).boundary

-- Admit
module _ (desk : Desk) (j : Job) where
  fit : Answer
  fit = desk_fit desk.clock (least_short desk.machines (jobs_with desk j))

  -- its answer: the tests before the walk, then the walk
  admit_splits : first (admit_fault desk j) fit ≡ admit_answer desk j
  unfolding admit_answer admit_fault seat_fault fit
  admit_splits =
      let fields = fields_fault (admit_dues desk.clock) 0 j in
      let held = fault (is_held j.number (held_of desk)) (refusal 5 0 0) in
      let full = fault (leb 32 (length (held_of desk))) (refusal 8 0 0) in
      first_first (sound_fault desk) (first fields (first held full)) fit
      ∙ ap (λ (a : Answer). first (sound_fault desk) a)
      (first_first fields (first held full) fit ∙ ap (λ (a : Answer). first fields a) (first_first held full fit))

  module _ (e : Refusal) where
    pub fault_refused : numbered e ≡ admit_fault desk j → numbered e ≡ admit_answer desk j
    fault_refused q = refused e (admit_fault desk j) fit q ∙ admit_splits

    pub admit_refused : numbered e ≡ admit_answer desk j → record { answer = numbered e; desk = desk } ≡ admit_of desk j
    unfolding admit_of
    admit_refused q = rw (← q, ne_eqb (numbered e).number 0 (no_yes e)) refl

  pub admit_answered : yes ≡ admit_answer desk j → (d : Desk) → d ≡ desk_of desk.machines desk.clock (with_new desk j) → record { answer = yes; desk = d } ≡ admit_of desk j
  unfolding admit_of
  admit_answered q d ed = rw (← q, ← ed) refl

  -- past the tests before the walk
  module _ (clear : yes ≡ admit_fault desk j) where
    sound_clear : (sound_fault desk).number ≡ 0
    unfolding admit_fault
    sound_clear = first_zero_front (sound_fault desk) _ (sym (same_number clear))

    after_sound : (first (fields_fault (admit_dues desk.clock) 0 j) (seat_fault desk j.number)).number ≡ 0
    unfolding admit_fault
    after_sound = first_zero (sound_fault desk) _ (sym (same_number clear))

    pub free : length (held_of desk) < 32
    unfolding seat_fault
    free =
        go (leb 32 (length (held_of desk))) refl
        (first_zero (fault (is_held j.number (held_of desk)) (refusal 5 0 0)) _ (first_zero (fields_fault (admit_dues desk.clock) 0 j) (seat_fault desk j.number) after_sound))
      where
        go : (t : Bool) → leb 32 (length (held_of desk)) ≡ t → (fault t (refusal 8 0 0)).number ≡ 0 → length (held_of desk) < 32
        go true e z = absurd (omega arith)
        go false e z = omega (arith, leb-false 32 (length (held_of desk)) e)

    no_field : (f : Field) → ¬ DeskHolds desk j (asked f)
    no_field = each
      where
        none : All (λ x. ¬ DeskHolds desk j x) (asked the_number ∷ asked the_work ∷ asked the_deadline ∷ asked the_bound ∷ [])
        none =
            zero_none (DeskHolds desk j) (desk_answer_of desk j) (desk_refuses desk j) (asked the_number ∷ asked the_work ∷ asked the_deadline ∷ asked the_bound ∷ []) (fields_fault (admit_dues desk.clock) 0 j)
            (first_zero_front (fields_fault (admit_dues desk.clock) 0 j) (seat_fault desk j.number) after_sound) (gives_fields desk j)

        each : (f : Field) → ¬ DeskHolds desk j (asked f)
        each the_number = none.0
        each the_work = none.1.0
        each the_deadline = none.1.1.0
        each the_bound = none.1.1.1.0

    -- and so of the held jobs and the new one
    module _ (len : Has32Seats desk) where
      asked_sound : Sound desk
      asked_sound = good desk sound_clear len

      pub asked_zeros : desk.seats ≡ table (held_of desk)
      asked_zeros = asked_sound.zeros

      pub asked_clock : desk.clock ≤ 100000
      asked_clock = asked_sound.clock

      pub asked_machines : desk.machines ≤ 64
      asked_machines = asked_sound.machines.1

      asked_held : held_of (desk_of desk.machines desk.clock (with_new desk j)) ≡ with_new desk j
      unfolding with_new new_held
      asked_held =
          held_again desk.machines desk.clock (with_new desk j)
          (perm_all (λ h. 1 ≤ h.number) (seated_perm (new_held desk.clock j) (held_of desk))
          (omega (arith, in_range (admit_dues desk.clock) the_number j (no_field the_number)), All-map (λ h (q : SoundSeat desk.clock h). q.number.0) (held_of desk) asked_sound.seats))

      -- the next desk, with the job in its seat
      module _ (h : Held) (new : h ≡ new_held desk.clock j) (next : Desk) (made : next ≡ desk_of desk.machines desk.clock (seated h (held_of desk))) where
        pub next_is : next ≡ desk_of desk.machines desk.clock (with_new desk j)
        unfolding with_new
        next_is = made ∙ ap (λ (g : Held). desk_of desk.machines desk.clock (seated g (held_of desk))) new

        next_jobs : jobs_for next ≡ jobs_with desk j
        unfolding jobs_for desk_of
        next_jobs = ap jobs_for next_is ∙ ap (to_plan desk.machines desk.clock) asked_held

        pub next_in_range : All InRange (jobs_for next)
        next_in_range = rw next_jobs (asked_in_range desk asked_sound j no_field)

        -- its walk is the last of Admit's tests
        pub next_fit : desk_fit next.clock (least_short next.machines (jobs_for next)) ≡ admit_answer desk j
        unfolding desk_of fit
        next_fit =
            ap (λ (d : Desk). desk_fit d.clock (least_short d.machines (jobs_for next))) made
            ∙ ap (λ (js : List Job). desk_fit desk.clock (least_short desk.machines js)) next_jobs
            ∙ passed (admit_fault desk j) fit fit clear refl
            ∙ admit_splits

pub ruleset seat_laws = (held_fault, full_fault, seat_free)

pub ruleset admitted_laws = (fault_refused, free, asked_zeros, asked_clock, asked_machines, next_is, next_in_range, next_fit)

pub ruleset admit_laws = (admit_refused, admit_answered)

pub ruleset found_laws = (find_refused, not_held, held_here)

pub ruleset withdrawn_laws = (withdraw_answered, found_zeros, seat_of_table, seat_there)

pub ruleset look_laws = (look_refused, look_answered, found_machines, seat_of_table, seat_there, seat_sound)
