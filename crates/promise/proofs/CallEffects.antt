-- The effect of each call on a sound desk.
use Prim.Native.Nat.{ℕ, ◌-◌, ◌≤◌}
use native.Mathlib.Nat.{sub-zero}
use native.Mathlib.Decide.{ℕ_discrete}
use mathlib.Core.Path.{◌≡◌, refl, ◌∙◌}
use mathlib.Core.Logic.{◌≢◌, inl}
use mathlib.Core.Bool.{cond}
use mathlib.Core.List.{◌∷◌, map}
use lib.Dec.{eqb}
use lib.ListN.{length}
use borrow.Author.Tests.{ne_eqb}
use Rattle.model.specs.Lists.{All, Perm}
use Rattle.model.specs.Jobs.{Job}
use Rattle.model.specs.Schedules.{Valid, after_first}
use Rattle.model.specs.Rule.{plan}
use Rattle.model.proofs.Lists.{All-mem, All-over, perm_all, perm_map, perm_back}
use Rattle.model.proofs.Theorems.{counted_changes_nothing}
use Rattle.promise.specs.declared.Answer.{Answer}
use Rattle.promise.specs.declared.Desk.{Desk}
use Rattle.promise.specs.Rows.{Field, field_of, least, the_number, the_work}
use Rattle.promise.specs.Desk.{held_of, desk_of, as_planned, to_plan, jobs_for, Sound, column}
use Rattle.promise.specs.DeskCalls.{HeldAs, admit_dues, new_held, with_new, admit_answer, admit_of, find_answer, withdraw_of, without, run_answer, run_of}
use Rattle.promise.specs.DeskClaims.{HandsBack}
use Rattle.promise.specs.History.{Call, admit, withdraw, look, run, happens, returned, Ledger, answered_for, remaining, entered}
use Rattle.promise.proofs.DeskKept.{refusal_hands_the_desk_back, plan_valid, in_range}
use Rattle.promise.proofs.DeskRun.{ran_held, run_gives_out_the_plan}
use Rattle.promise.proofs.DeskSeats.{seated_perm, All-leaves}
use Rattle.promise.proofs.CallAnswers.{admit_passes}
use Rattle.promise.proofs.Pairs.{pairs_of, none_answered, each_answered}
use Rattle.promise.proofs.Standing.{standing, standing_all, sound_numbered, sound_distinct, standing_of, without_others, run_first}
use Rattle.promise.proofs.Effects.{Apart, newly, OneAdded, OneRemoved, SlotDone, admitting, dropping, crediting, Effect, nothing, one_added, one_removed, slot_done}

-- a yes has an effect, a refusal none
yes_or_nothing : {desk desk' : Desk} (a : Answer) (l l' : Ledger) → (a.number ≡ 0 → (m : Ledger) → m ≡ l' → Effect desk desk' l m)
    → (a.number ≢ 0 → desk' ≡ desk) → Effect desk desk' l (cond (eqb a.number 0) l' l)
yes_or_nothing {desk} {desk'} a l l' effect back = go (ℕ_discrete a.number 0)
  where
    go : Dec (a.number ≡ 0) → Effect desk desk' l (cond (eqb a.number 0) l' l)
    go (yes e) = effect e _ (rw e)
    go (no n) = nothing (back n) (rw (ne_eqb a.number 0 n))

-- the held jobs with the new one, as they stand
pub new_perm : (desk : Desk) (j : Job) → Perm (map (as_planned desk.clock) (with_new desk j)) (newly desk.clock j ∷ standing desk)
unfolding with_new new_held as_planned remaining standing
new_perm desk j =
    rw (sub-zero j.work) (perm_back (perm_map (as_planned desk.clock) (seated_perm (new_held desk.clock j) (held_of desk))))

not_held_apart : (desk : Desk) (n : ℕ) → ¬ HeldAs desk n → Apart desk n
unfolding as_planned
not_held_apart desk n f = standing_all desk (λ j. j.number ≢ n) (All-mem (held_of desk) (λ h m e. f (h, m, e)))

apart_not_held : (desk : Desk) (n : ℕ) → Apart desk n → All (λ h. h.number ≢ n) (held_of desk)
unfolding as_planned standing
apart_not_held desk n a = All-over (as_planned desk.clock) (λ j. j.number ≢ n) (held_of desk) a

module _ (desk : Desk) (s : Sound desk) where
  -- an Admit answered 0 adds a job, of a number that is not held
  module _ (j : Job) (e : (admit_answer desk j).number ≡ 0) where
    admitted_desk : (admit_of desk j).desk ≡ desk_of desk.machines desk.clock (with_new desk j)
    unfolding admit_of
    admitted_desk = rw e

    in_the_window : (f : Field) → least (admit_dues desk.clock) f ≤ field_of f j
    unfolding admit_dues
    in_the_window f = (in_range (admit_dues desk.clock) f j ((admit_passes desk s j (inl e)).0 f)).0

    new_numbered : All (λ h. 1 ≤ h.number) (with_new desk j)
    unfolding with_new new_held
    new_numbered =
        perm_all (λ h. 1 ≤ h.number) (seated_perm (new_held desk.clock j) (held_of desk)) (in_the_window the_number, sound_numbered desk s)

    pub admit_adds : OneAdded j desk (admit_of desk j).desk
    unfolding desk_of
    admit_adds =
        rw admitted_desk
        (record {
          machines = refl;
          clock = refl;
          work = in_the_window the_work;
          apart = not_held_apart desk j.number (admit_passes desk s j (inl e)).1;
          jobs = rw (standing_of desk.machines desk.clock (with_new desk j) new_numbered) (new_perm desk j);
        })

  -- a Withdraw answered 0 removes a number
  module _ (n : ℕ) (e : (find_answer desk n).number ≡ 0) where
    withdrawn_desk : (withdraw_of desk n).desk ≡ desk_of desk.machines desk.clock (without n (held_of desk))
    unfolding withdraw_of
    withdrawn_desk = rw e

    withdraw_removes : OneRemoved n desk (withdraw_of desk n).desk
    unfolding desk_of standing
    withdraw_removes =
        rw withdrawn_desk
        (record {
          machines = refl;
          clock = refl;
          jobs =
              standing_of desk.machines desk.clock (without n (held_of desk)) (All-leaves (λ h. 1 ≤ h.number) n (held_of desk) (sound_numbered desk s))
              ∙ without_others desk.clock n (held_of desk) (sound_distinct desk s);
        })

  -- a Run answered 0 does slot 1 of the plan
  abbrev schedule : ℕ → ℕ → ℕ
  schedule = plan desk.machines (jobs_for desk)

  abbrev first_slot : ℕ → ℕ
  first_slot n = schedule n 1

  -- a valid schedule of the jobs as they stand
  schedule_valid : Valid desk.machines (standing desk) schedule
  unfolding standing jobs_for to_plan
  schedule_valid = (counted_changes_nothing desk.machines (standing desk) schedule).0 (plan_valid desk s)

  module _ (e : (run_answer desk).number ≡ 0) where
    slot_leaves : standing (run_of desk).desk ≡ after_first first_slot (standing desk)
    unfolding standing column
    slot_leaves = rw (ran_held desk s e, (run_gives_out_the_plan desk s e).clock) (run_first desk.clock (column desk) (held_of desk))

    pub run_does : SlotDone (run_of desk).given desk (run_of desk).desk
    unfolding as_planned
    run_does =
        let g = run_gives_out_the_plan desk s e in
        let k = 32 - length (held_of desk) in
        record {
          machines = g.machines;
          clock = g.clock;
          schedule = schedule;
          valid = schedule_valid;
          answered =
              rw g.pairs
              (standing_all desk (λ j. answered_for j.number (pairs_of first_slot k (held_of desk)) ≡ first_slot j.number)
              (each_answered first_slot k (held_of desk) (sound_distinct desk s)));
          nothing_else = λ n a. rw g.pairs (none_answered first_slot k n (held_of desk) (apart_not_held desk n a));
          jobs = slot_leaves;
        }

  back : HandsBack desk
  back = refusal_hands_the_desk_back desk

  -- each call and its effect
  pub call_effect : (l : Ledger) (call : Call) → Effect desk (returned desk call) l (entered l (happens desk call))
  unfolding admit_of withdraw_of run_of
  call_effect l (admit j) = yes_or_nothing (admit_answer desk j) l (admitting j l) (λ e m. one_added j (admit_adds j e)) (back.admit j)
  call_effect l (withdraw n) = yes_or_nothing (find_answer desk n) l (dropping n l) (λ e m. one_removed n (withdraw_removes n e)) (back.withdraw n)
  call_effect l (look n) = nothing (back.look n) refl
  call_effect l run =
      let given = (run_of desk).given in
      yes_or_nothing (run_answer desk) l (crediting given l) (λ e m. slot_done given (run_does e)) back.run
