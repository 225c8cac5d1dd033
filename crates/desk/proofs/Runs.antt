-- Run, from the answers of its parts.
use Prim.Native.Nat.{◌+◌, ◌≤◌, ◌<◌}
use native.Mathlib.Omega.{arith}
use mathlib.Core.Path.{◌≡◌, refl, sym, ◌∙◌, ap, ap₂}
use mathlib.Core.List.{List, [], map}
use lib.ListN.{length, take, length-map}
use borrow.Author.Tests.{ne_eqb}
use Rattle.model.specs.Lists.{All, Distinct}
use Rattle.model.specs.Jobs.{Job, numbers}
use Rattle.model.specs.Rule.{Share, fresh}
use Rattle.model.proofs.Lists.{All-map}
use Rattle.figures.specs.declared.Job as code
use Rattle.rule.specs.declared.Share as share_code
use Rattle.figures.specs.Jobs.{as_jobs}
use Rattle.walk.specs.Walk.{InRange}
use Rattle.rule.specs.Shares.{as_share, as_shares}
use Rattle.planner.specs.Writing.{Plannable}
use Rattle.promise.specs.declared.Refusal.{Refusal}
use Rattle.promise.specs.declared.Desk.{Desk}
use Rattle.promise.specs.declared.Given.{Given}
use Rattle.promise.specs.Answers.{yes}
use Rattle.promise.specs.Desk.{held_of, desk_of, jobs_for, column, Sound}
use Rattle.promise.specs.DeskCalls.{sound_fault, pairs, given_of, after_run, run_answer, run_of}
use Rattle.promise.specs.DeskClaims.{Has32Seats}
use Rattle.promise.specs.Refusals.{numbered}
use Rattle.promise.proofs.Ladder.{same_number, first_zero_front}
use Rattle.promise.proofs.DeskSeats.{held_first, to_plan_distinct}
use Rattle.promise.proofs.DeskTable.{run_yes}
use Rattle.promise.proofs.DeskBounds.{light_in_range, held_light}
use Rattle.slot.specs.Slot.{fill_down, given_to, after_shares}
use Rattle.slot.proofs.Column.{slot_pairs, slot_after}
use Rattle.promise.proofs.Refusals.{no_yes}
use Rattle.desk.proofs.Figures.{good}

pub run_refused : (desk : Desk) (e : Refusal) → numbered e ≡ run_answer desk → record { answer = numbered e; given = pairs []; desk = desk } ≡ run_of desk
unfolding run_of
run_refused desk e q = rw (← q, ne_eqb (numbered e).number 0 (no_yes e)) refl

module _ (desk : Desk) (len : Has32Seats desk) (q : yes ≡ run_answer desk) where
  sound : Sound desk
  unfolding run_answer
  sound = good desk (first_zero_front (sound_fault desk) _ (sym (same_number q))) len

  pub before_the_end : desk.clock < 100000
  before_the_end = let n = run_yes desk len (sym (same_number q)) in let c = sound.clock in omega (arith, n, c)

  held_in_range : All InRange (jobs_for desk)
  unfolding jobs_for
  held_in_range = light_in_range desk.machines desk.clock (held_of desk) (held_light desk sound)

  apart : Distinct (numbers (jobs_for desk))
  unfolding jobs_for
  apart = to_plan_distinct desk.machines desk.clock (held_of desk) sound.rising

  deadlines : All (λ j. j.deadline ≤ 168) (jobs_for desk)
  deadlines = All-map (λ j r. r.1) (jobs_for desk) held_in_range

  module _ (jobs : List code.Job) (planned : as_jobs jobs ≡ jobs_for desk) where
    pub held_plannable : Plannable jobs
    held_plannable = record {
      apart = rw planned apart;
      bounds = rw planned (All-map (λ j r. r.2) (jobs_for desk) held_in_range);
      deadlines = rw planned deadlines;
    }

    module _ (shares : List share_code.Share) (filled : as_shares shares ≡ fill_down desk.machines 168 (map fresh (as_jobs jobs))) where
      slot_1 : as_shares shares ≡ fill_down desk.machines 168 (map fresh (jobs_for desk))
      slot_1 = filled ∙ ap (λ (js : List Job). fill_down desk.machines 168 (map fresh js)) planned

      pairs_1 : map given_to (as_shares shares) ≡ given_of (column desk) (held_of desk)
      pairs_1 = ap (λ (ps : List Share). map given_to ps) slot_1 ∙ slot_pairs desk apart deadlines

      -- a share for each held job
      count : length shares ≡ length (held_of desk)
      unfolding given_of
      count =
          sym (length-map shares as_share)
          ∙ sym (length-map (as_shares shares) given_to)
          ∙ ap (λ (gs : List Given). length gs) pairs_1
          ∙ length-map (held_of desk) _

      pub run_answered : (g : List Given) → g ≡ pairs (map given_to (as_shares shares))
          → (d : Desk) → d ≡ desk_of desk.machines (desk.clock + 1) (after_shares (as_shares shares) (take (length shares) desk.seats))
          → record { answer = yes; given = g; desk = d } ≡ run_of desk
      unfolding run_of
      run_answered g eg d ed =
          let given : g ≡ pairs (given_of (column desk) (held_of desk)) = eg ∙ ap pairs pairs_1 in
          let after : d ≡ desk_of desk.machines (desk.clock + 1) (after_run (column desk) (held_of desk)) =
          ed
          ∙ ap (desk_of desk.machines (desk.clock + 1))
          (ap₂ after_shares slot_1 (held_first desk (length shares) count) ∙ slot_after desk apart deadlines) in
          rw (← q, ← given, ← after) refl
