-- S2: the faults of the desk calls are given in the order of the table.
use Prim.Native.Nat.{ℕ}
use native.Mathlib.Omega.{arith}
use mathlib.Core.Path.{◌≡◌, refl, sym, ◌∙◌}
use mathlib.Core.Logic.{◌≢◌, ◌⊎◌, inl, inr, ◌↔◌}
use mathlib.Core.Bool.{Bool}
use mathlib.Core.List.Memᴰ
use mathlib.Core.List.{List, [], ◌∷◌, ◌++◌, Memᴰ}
use mathlib.Core.Option.{Option, some, none, some-ne-none}
use lib.Dec.{leb}
use lib.ListN.{length}
use Rattle.model.specs.Lists.{All}
use Rattle.model.specs.Jobs.{Job}
use Rattle.model.specs.Boundaries.{RoomEverywhere, Short, least_short}
use Rattle.model.proofs.LeastShort.{none_short_is_named}
use Rattle.promise.specs.declared.Answer.{Answer}
use Rattle.promise.specs.declared.Held.{Held}
use Rattle.promise.specs.declared.Desk.{Desk}
use Rattle.promise.specs.Answers.{refusal, fault, first}
use Rattle.promise.specs.Rows.{Field, the_number, the_work, the_deadline, the_bound, field_of, least, greatest, field_fault, fields_fault}
use Rattle.promise.specs.Desk.{held_of, Sound}
use Rattle.promise.specs.DeskCalls.{sound_fault, is_held, admit_dues, desk_fit, jobs_with, admit_answer, find_answer, run_answer, DeskTest, not_sound, asked, held_already, full, no_fit, not_held, at_the_end, DeskHolds, desk_answer_of, admit_order, find_order, run_order}
use Rattle.promise.specs.DeskClaims.{Has32Seats, DeskAnswersByTheTable}
use Rattle.promise.proofs.Ladder.{Tells, holds, fails, tells_lt, tells_eq, tells_or, tells_not, tells_same, Ladder, one, append, none_holds, zero_none, given}
use Rattle.promise.proofs.DeskSound.{tells_le, tells_room, tells_sound}

-- some seat has number n
abbrev Among : ℕ → List Held → Type 0
Among n hs = (h : Held) × Memᴰ h hs × (h.number ≡ n)

more_among : (n : ℕ) (h : Held) (hs : List Held) → (h.number ≡ n) ⊎ Among n hs → Among n (h ∷ hs)
more_among n h hs (inl e) = (h, Memᴰ.head refl, e)
more_among n h hs (inr a) = (a.0, Memᴰ.tail a.1, a.2)

less_among : (n : ℕ) (h g : Held) (hs : List Held) → Memᴰ g (h ∷ hs) → g.number ≡ n → (h.number ≡ n) ⊎ Among n hs
less_among n h g hs (Memᴰ.head e) q = inl (rw e at q)
less_among n h g hs (Memᴰ.tail m) q = inr (g, m, q)

pub tells_held : (n : ℕ) (hs : List Held) → Tells (Among n hs) (is_held n hs)
tells_held n [] = fails (λ a. Memᴰ.not-nil a.1)
tells_held n (h ∷ hs) =
    tells_same (more_among n h hs, λ a. less_among n h a.0 hs a.1 a.2) (tells_or (tells_eq h.number n) (tells_held n hs))

module _ (desk : Desk) (j : Job) where
  -- where some boundary is short, one is named
  no_room : (o : Option Short) → least_short desk.machines (jobs_with desk j) ≡ o → ¬ RoomEverywhere desk.machines (jobs_with desk j) → (desk_fit desk.clock o).number ≢ 0
  no_room none e h = absurd (h ((none_short_is_named desk.machines (jobs_with desk j)).0 e))
  no_room (some s) e h = omega arith

  pub desk_refuses : (x : DeskTest) → DeskHolds desk j x → (desk_answer_of desk j x).number ≢ 0
  desk_refuses not_sound h = omega arith
  desk_refuses (asked f) h = omega arith
  desk_refuses held_already h = omega arith
  desk_refuses full h = omega arith
  desk_refuses no_fit h = no_room (least_short desk.machines (jobs_with desk j)) refl h
  desk_refuses (not_held n) h = omega arith
  desk_refuses at_the_end h = omega arith

  -- a is what these tests give
  abbrev DeskGives : List DeskTest → Answer → Type 0
  DeskGives = Ladder (DeskHolds desk j) (desk_answer_of desk j)

  test : (x : DeskTest) {t : Bool} → Tells (DeskHolds desk j x) t → DeskGives (x ∷ []) (fault t (desk_answer_of desk j x))
  test = one (DeskHolds desk j) (desk_answer_of desk j)

  join : (xs ys : List DeskTest) (a b : Answer) → DeskGives xs a → DeskGives ys b → DeskGives (xs ++ ys) (first a b)
  join = append (DeskHolds desk j) (desk_answer_of desk j) desk_refuses

  gives_field : (f : Field) → DeskGives (asked f ∷ []) (field_fault (admit_dues desk.clock) 0 f j)
  unfolding field_fault admit_dues
  gives_field f =
      let w = admit_dues desk.clock in
      test (asked f) (tells_or (tells_lt (field_of f j) (least w f)) (tells_lt (greatest w f) (field_of f j)))

  pub gives_fields : DeskGives (asked the_number ∷ asked the_work ∷ asked the_deadline ∷ asked the_bound ∷ []) (fields_fault (admit_dues desk.clock) 0 j)
  unfolding fields_fault
  gives_fields =
      join (asked the_number ∷ []) (asked the_work ∷ asked the_deadline ∷ asked the_bound ∷ []) _ _ (gives_field the_number)
      (join (asked the_work ∷ []) (asked the_deadline ∷ asked the_bound ∷ []) _ _ (gives_field the_work)
      (join (asked the_deadline ∷ []) (asked the_bound ∷ []) _ _ (gives_field the_deadline) (gives_field the_bound)))

  gives_fit : DeskGives (no_fit ∷ []) (desk_fit desk.clock (least_short desk.machines (jobs_with desk j)))
  gives_fit = go (least_short desk.machines (jobs_with desk j)) refl
    where
      all_room : (least_short desk.machines (jobs_with desk j) ≡ none) ↔ RoomEverywhere desk.machines (jobs_with desk j)
      all_room = none_short_is_named desk.machines (jobs_with desk j)

      go : (o : Option Short) → least_short desk.machines (jobs_with desk j) ≡ o → DeskGives (no_fit ∷ []) (desk_fit desk.clock o)
      go none e = inr ((λ h. h (all_room.0 e)), refl)
      go (some s) e = inl ((λ h. some-ne-none s (sym e ∙ all_room.1 h)), rw e)

  module _ (seated : Has32Seats desk) where
    pub gives_sound : DeskGives (not_sound ∷ []) (sound_fault desk)
    unfolding sound_fault
    gives_sound = test not_sound (tells_not (tells_sound desk seated))

    gives_held : DeskGives (held_already ∷ []) (fault (is_held j.number (held_of desk)) (refusal 5 0 0))
    gives_held = test held_already (tells_held j.number (held_of desk))

    gives_full : DeskGives (full ∷ []) (fault (leb 32 (length (held_of desk))) (refusal 8 0 0))
    gives_full = test full (tells_le 32 (length (held_of desk)))

    gives_admit : DeskGives admit_order (admit_answer desk j)
    unfolding admit_answer
    gives_admit =
        let fields = asked the_number ∷ asked the_work ∷ asked the_deadline ∷ asked the_bound ∷ [] in
        join (not_sound ∷ []) (fields ++ (held_already ∷ full ∷ no_fit ∷ [])) _ _ gives_sound
        (join fields (held_already ∷ full ∷ no_fit ∷ []) _ _ gives_fields
        (join (held_already ∷ []) (full ∷ no_fit ∷ []) _ _ gives_held (join (full ∷ []) (no_fit ∷ []) _ _ gives_full gives_fit)))

    gives_find : (n : ℕ) → DeskGives (find_order n) (find_answer desk n)
    unfolding find_answer
    gives_find n = join (not_sound ∷ []) (not_held n ∷ []) _ _ gives_sound (test (not_held n) (tells_not (tells_held n (held_of desk))))

    gives_run : DeskGives run_order (run_answer desk)
    unfolding run_answer
    gives_run = join (not_sound ∷ []) (at_the_end ∷ []) _ _ gives_sound (test at_the_end (tells_eq desk.clock 100000))

    -- where no other test holds, Admit answers by the least short boundary alone
    pub answers_fit : Sound desk → ((f : Field) → ¬ DeskHolds desk j (asked f)) → ¬ DeskHolds desk j held_already → ¬ DeskHolds desk j full
        → admit_answer desk j ≡ desk_fit desk.clock (least_short desk.machines (jobs_with desk j))
    unfolding admit_answer
    answers_fit s f n g =
        let passes = none_holds (DeskHolds desk j) (desk_answer_of desk j) in
        rw (
          passes (not_sound ∷ []) (sound_fault desk) gives_sound ((λ h. h s), tt),
          passes (asked the_number ∷ asked the_work ∷ asked the_deadline ∷ asked the_bound ∷ []) (fields_fault (admit_dues desk.clock) 0 j) gives_fields
              (f the_number, (f the_work, (f the_deadline, (f the_bound, tt)))),
          passes (held_already ∷ []) _ gives_held (n, tt),
          passes (full ∷ []) _ gives_full (g, tt),
        )

pub desk_answers_by_the_table : DeskAnswersByTheTable
desk_answers_by_the_table desk j n s =
    let by = given (DeskHolds desk j) (desk_answer_of desk j) (desk_refuses desk j) in (
      by admit_order (admit_answer desk j) (gives_admit desk j s),
      by (find_order n) (find_answer desk n) (gives_find desk j s n),
      by run_order (run_answer desk) (gives_run desk j s),
    )

-- what a yes of Admit says of the desk and the job
pub record Admissible (desk : Desk) (j : Job) : Type 0 where
  pub fields : (f : Field) → ¬ DeskHolds desk j (asked f)
  pub new : ¬ DeskHolds desk j held_already
  pub free : ¬ DeskHolds desk j full
  pub room : RoomEverywhere desk.machines (jobs_with desk j)

pub really : {P : Type 0} {t : Bool} → Tells P t → ¬ ¬ P → P
really (holds h) n = h
really (fails h) n = absurd (n h)

pub admit_yes : (desk : Desk) (j : Job) → Has32Seats desk → (admit_answer desk j).number ≡ 0 → Admissible desk j
admit_yes desk j s e = record {
  fields = each;
  new = passes.1.1.1.1.1.0;
  free = passes.1.1.1.1.1.1.0;
  room = really (tells_room desk.machines (jobs_with desk j)) passes.1.1.1.1.1.1.1.0;
}
  where
    passes : All (λ x. ¬ DeskHolds desk j x) admit_order
    passes = zero_none (DeskHolds desk j) (desk_answer_of desk j) (desk_refuses desk j) admit_order (admit_answer desk j) e (gives_admit desk j s)

    each : (f : Field) → ¬ DeskHolds desk j (asked f)
    each the_number = passes.1.0
    each the_work = passes.1.1.0
    each the_deadline = passes.1.1.1.0
    each the_bound = passes.1.1.1.1.0

-- a yes of Run: the clock is not at its end; of the job that Admit is asked for nothing is said
pub run_yes : (desk : Desk) → Has32Seats desk → (run_answer desk).number ≡ 0 → desk.clock ≢ 100000
run_yes desk s e =
    let j : Job = record { number = 0; work = 0; deadline = 0; bound = 0 } in
    (zero_none (DeskHolds desk j) (desk_answer_of desk j) (desk_refuses desk j) run_order (run_answer desk) e (gives_run desk j s)).1.0
