-- What the answer of a call on a sound desk says.
use Prim.Native.Nat.{ℕ, ◌<◌}
use native.Mathlib.Omega.{arith}
use mathlib.Core.Path.{◌≡◌, refl, sym, ap}
use mathlib.Core.Logic.{◌≢◌, ◌⊎◌, inl, inr}
use mathlib.Core.List.{List, [], ◌∷◌, ◌++◌}
use mathlib.Core.Option.{Option, some, none}
use Rattle.model.specs.Lists.{All}
use Rattle.model.specs.Jobs.{Job}
use Rattle.model.specs.Boundaries.{Short, least_short}
use Rattle.promise.specs.declared.Answer.{Answer}
use Rattle.promise.specs.declared.Desk.{Desk}
use Rattle.promise.specs.Answers.{yes}
use Rattle.promise.specs.Order.{FirstOf, GivenBy}
use Rattle.promise.specs.Rows.{Field, the_number, the_work, the_deadline, the_bound}
use Rattle.promise.specs.Desk.{held_of, Sound}
use Rattle.promise.specs.DeskCalls.{desk_fit, jobs_with, admit_answer, admit_of, find_answer, withdraw_of, look_of, run_answer, run_of, DeskTest, not_sound, asked, held_already, full, no_fit, not_held, at_the_end, DeskHolds, desk_answer_of, admit_order, find_order, run_order, HeldAs}
use Rattle.promise.specs.History.{Call, admit, withdraw, look, run, event_answer, happens}
use Rattle.promise.proofs.Ladder.{same_number}
use Rattle.promise.proofs.DeskTable.{tells_held, really, desk_answers_by_the_table}
use Rattle.promise.proofs.DeskSeats.{sound_seated}

-- tests whose answers have other numbers than the one given do not hold
module _ {A : Type 0} (Holds : A → Type 0) (event_answer : A → Answer) (a : Answer) where
  front_passes : (xs ys : List A) → ((x : A) → FirstOf Holds (xs ++ ys) x → a ≡ event_answer x) → All (λ x. (event_answer x).number ≢ a.number) xs
      → All (λ x. ¬ Holds x) xs
  front_passes [] ys told d = tt
  front_passes (x ∷ xs) ys told d = (fails, front_passes xs ys later d.1)
    where
      fails : ¬ Holds x
      fails h = d.0 (same_number (sym (told x (record { earlier = []; later = xs ++ ys; split = refl; holds = h; none_earlier = tt }))))

      later : (y : A) → FirstOf Holds (xs ++ ys) y → a ≡ event_answer y
      later y f =
          told y
          (record {
            earlier = x ∷ f.earlier;
            later = f.later;
            split = ap (λ (zs : List A). x ∷ zs) f.split;
            holds = f.holds;
            none_earlier = (fails, f.none_earlier);
          })

-- a job for the calls that look at none
no_job : Job
no_job = record { number = 0; work = 0; deadline = 0; bound = 0 }

module _ (desk : Desk) where
  -- a is what the table gives for this job, the tests in this order
  abbrev ByTable : Job → List DeskTest → Answer → Type 0
  ByTable j order a = GivenBy (DeskHolds desk j) (desk_answer_of desk j) order a

  module _ (s : Sound desk) where
    admit_table : (j : Job) → ByTable j admit_order (admit_answer desk j)
    admit_table j = (desk_answers_by_the_table desk j 0 (sound_seated desk s)).0

    find_table : (n : ℕ) → ByTable no_job (find_order n) (find_answer desk n)
    find_table n = (desk_answers_by_the_table desk no_job n (sound_seated desk s)).1

    run_table : ByTable no_job run_order (run_answer desk)
    run_table = (desk_answers_by_the_table desk no_job 0 (sound_seated desk s)).2

    -- no test that holds on a sound desk has number 12
    not_twelve : (j : Job) (x : DeskTest) → DeskHolds desk j x → (desk_answer_of desk j x).number ≢ 12
    not_twelve j not_sound h = absurd (h s)
    not_twelve j (asked f) h = omega arith
    not_twelve j held_already h = omega arith
    not_twelve j full h = omega arith
    not_twelve j no_fit h = go (least_short desk.machines (jobs_with desk j))
      where
        go : (o : Option Short) → (desk_fit desk.clock o).number ≢ 12
        go none = omega arith
        go (some b) = omega arith
    not_twelve j (not_held n) h = omega arith
    not_twelve j at_the_end h = omega arith

    never_twelve : (j : Job) (order : List DeskTest) (a : Answer) → ByTable j order a → a.number ≢ 12
    never_twelve j order a g e = let x = (g.exactly 12 (omega arith)).0 e in not_twelve j x.0 x.1.holds x.2

    pub call_not_twelve : (call : Call) → (event_answer (happens desk call)).number ≢ 12
    unfolding admit_of withdraw_of look_of run_of
    call_not_twelve (admit j) = never_twelve j admit_order (admit_answer desk j) (admit_table j)
    call_not_twelve (withdraw n) = never_twelve no_job (find_order n) (find_answer desk n) (find_table n)
    call_not_twelve (look n) = never_twelve no_job (find_order n) (find_answer desk n) (find_table n)
    call_not_twelve run = never_twelve no_job run_order (run_answer desk) run_table

    -- an Admit answered 0 or 7 has passed the tests before the last
    pub admit_passes : (j : Job) → ((admit_answer desk j).number ≡ 0) ⊎ ((admit_answer desk j).number ≡ 7)
        → ((f : Field) → ¬ DeskHolds desk j (asked f)) × (¬ DeskHolds desk j held_already) × (¬ DeskHolds desk j full)
    admit_passes j z = (fields, passes.1.1.1.1.1.0, passes.1.1.1.1.1.1.0)
      where
        front : List DeskTest
        front = not_sound ∷ asked the_number ∷ asked the_work ∷ asked the_deadline ∷ asked the_bound ∷ held_already ∷ full ∷ []

        -- the answers of these are neither 0 nor 7
        other : ((admit_answer desk j).number ≡ 0) ⊎ ((admit_answer desk j).number ≡ 7)
            → All (λ x. (desk_answer_of desk j x).number ≢ (admit_answer desk j).number) front
        other (inl e) = omega arith
        other (inr e) = omega arith

        passes : All (λ x. ¬ DeskHolds desk j x) front
        passes = front_passes (DeskHolds desk j) (desk_answer_of desk j) (admit_answer desk j) front (no_fit ∷ []) (admit_table j).told (other z)

        fields : (f : Field) → ¬ DeskHolds desk j (asked f)
        fields the_number = passes.1.0
        fields the_work = passes.1.1.0
        fields the_deadline = passes.1.1.1.0
        fields the_bound = passes.1.1.1.1.0

    -- Withdraw and Look find just the numbers that are held
    pub found_held : (n : ℕ) → (find_answer desk n).number ≡ 0 → HeldAs desk n
    found_held n e = really (tells_held n (held_of desk)) passes.1.0
      where
        passes : All (λ x. ¬ DeskHolds desk no_job x) (find_order n)
        passes = front_passes (DeskHolds desk no_job) (desk_answer_of desk no_job) (find_answer desk n) (find_order n) [] (find_table n).told (omega arith)

    pub held_found : (n : ℕ) → HeldAs desk n → find_answer desk n ≡ yes
    held_found n h = (find_table n).otherwise.0 ((λ u. u s), ((λ u. u h), tt))

    -- below the last slot Run answers yes
    pub runs_below : desk.clock < 100000 → run_answer desk ≡ yes
    runs_below l = run_table.otherwise.0 ((λ u. u s), (omega arith, tt))
