-- Plan and Room, from the answers of their parts.
use Prim.Native.Nat.{ℕ, ◌*◌, ◌≤◌, ◌<◌}
use native.Mathlib.Nat.{mul-le-mul}
use native.Mathlib.Omega.{arith}
use mathlib.Core.Path.{◌≡◌, refl, sym, ap, ◌∙◌}
use mathlib.Core.List.{List}
use lib.IntN.{ℤ, pos}
use lib.ListN.{length, length-map}
use mir.Syntax.{w32}
use mir.Val.{to_z, of_z}
use borrow.Author.Tests.{eq-eqb, ne_eqb, lt-ltb, le-ltb}
use Rattle.model.specs.Jobs.{numbers, counted, forced, room, room_of}
use Rattle.model.specs.Lists.{All, Distinct}
use Rattle.model.specs.Boundaries.{least_short}
use Rattle.model.specs.Rule.{plan_rows}
use Rattle.model.proofs.Lists.{All-map}
use Rattle.promise.specs.Answers.{yes, refusal, fit_answer}
use Rattle.promise.specs.Rows.{row_count, jobs_of, list_fault, list_order}
use Rattle.promise.specs.Lists.{planned, plan_answer, plan_buffer, written, room_answer, room_figure}
use Rattle.promise.proofs.Ladder.{first_stop}
use Rattle.promise.proofs.Sound.{Passes, listed_passes, planned_distinct, planned_in_range, planned_deadlines, few_machines, few_rows}
use Rattle.promise.proofs.Refusals.{is_refusal}
use Rattle.promise.proofs.Bounds.{planned_forced}
use Rattle.promise.proofs.FileOrder.{jobs_length}
use Rattle.promise.proofs.Buffer.{refusal_writes_nothing}
use Rattle.figures.specs.declared.Job.{Job}
use Rattle.figures.specs.Jobs.{as_job, as_jobs}
use Rattle.figures.proofs.Signed.{back, sub_mag}
use Rattle.walk.specs.Walk.{Small}

module _ (machines : ℕ) (rows : List ℕ) where
  -- a list that is in order, and the jobs loaded from it
  module _ (listed : yes ≡ list_fault machines rows) where
    passes : Passes machines rows (list_order rows)
    passes = listed_passes machines rows (sym listed)

    pub few_listed : row_count rows ≤ 32
    few_listed = few_rows machines rows passes

    pub room_listed : machines ≤ 64
    room_listed = few_machines machines rows passes

    module _ (jobs : List Job) (loaded : as_jobs jobs ≡ planned machines rows) where
      pub loaded_count : length jobs ≡ row_count rows
      unfolding planned counted
      loaded_count = sym (length-map jobs as_job) ∙ ap length loaded ∙ length-map (jobs_of rows) _ ∙ jobs_length rows

      pub loaded_small : Small jobs
      loaded_small = rw loaded (planned_in_range machines rows passes)

      pub loaded_apart : Distinct (numbers (as_jobs jobs))
      loaded_apart = rw loaded (planned_distinct machines rows passes)

      pub loaded_bounds : All (λ j. j.bound ≤ 64) (as_jobs jobs)
      loaded_bounds = rw loaded (All-map (λ j r. r.2) (planned machines rows) (planned_in_range machines rows passes))

      pub loaded_deadlines : All (λ j. j.deadline ≤ 168) (as_jobs jobs)
      loaded_deadlines = rw loaded (planned_deadlines machines rows passes)

  -- Plan's answer: the list's, else a 6, else the walk's
  module _ (lent : List ℕ) where
    pub answer_fault : 1 ≤ (list_fault machines rows).number → plan_answer machines rows (length lent) ≡ list_fault machines rows
    unfolding plan_answer
    answer_fault h = sym (first_stop (list_fault machines rows) (list_fault machines rows) _ refl (λ z. omega arith))

    module _ (listed : yes ≡ list_fault machines rows) where
      pub answer_short : length lent < 168 * row_count rows → plan_answer machines rows (length lent) ≡ refusal 6 0 0
      unfolding plan_answer
      answer_short l = rw (← listed, lt-ltb (length lent) (168 * row_count rows) l) refl

      pub answer_fit : 168 * row_count rows ≤ length lent → plan_answer machines rows (length lent) ≡ fit_answer (least_short machines (planned machines rows))
      unfolding plan_answer
      answer_fit l = rw (← listed, le-ltb (length lent) (168 * row_count rows) l) refl

    -- and the buffer after it
    pub buffer_kept : 1 ≤ (plan_answer machines rows (length lent)).number → plan_buffer machines rows lent ≡ lent
    buffer_kept h = (refusal_writes_nothing machines rows lent).0 (λ z. omega arith)

    pub buffer_written : (plan_answer machines rows (length lent)).number ≡ 0
        → plan_buffer machines rows lent ≡ written (plan_rows machines (planned machines rows)) (row_count rows) lent
    unfolding plan_buffer
    buffer_written z = rw (eq-eqb (plan_answer machines rows (length lent)).number 0 z) refl

  -- Room's answer: the list's, else a 9; and its figure
  module _ (b : ℕ) where
    pub room_fault : 1 ≤ (list_fault machines rows).number → room_answer machines rows b ≡ list_fault machines rows
    unfolding room_answer
    room_fault h = sym (first_stop (list_fault machines rows) (list_fault machines rows) _ refl (λ z. omega arith))

    pub no_figure : 1 ≤ (room_answer machines rows b).number → room_figure machines rows b ≡ pos 0
    unfolding room_figure
    no_figure h = rw (ne_eqb (room_answer machines rows b).number 0 (λ z. omega arith)) refl

    module _ (listed : yes ≡ list_fault machines rows) where
      pub room_far : 168 < b → room_answer machines rows b ≡ refusal 9 0 0
      unfolding room_answer
      room_far l = rw (← listed, lt-ltb 168 b l) refl

      module _ (near : b ≤ 168) where
        pub room_near : room_answer machines rows b ≡ yes
        unfolding room_answer
        room_near = rw (← listed, le-ltb 168 b near) refl

        pub the_figure : room_figure machines rows b ≡ room_of (machines * b) (forced (planned machines rows) b)
        unfolding room_figure room
        the_figure = rw (room_near) refl

        pub capacity_small : machines * b ≤ 10752
        capacity_small = mul-le-mul (room_listed listed) near

        pub forced_small : forced (planned machines rows) b ≤ 1920000
        forced_small = planned_forced machines rows (passes listed) b

        -- the room fits an i32
        pub room_back : (z : ℤ) → z ≡ room_of (machines * b) (forced (planned machines rows) b) → to_z w32 (of_z w32 z) ≡ z
        room_back z e =
            back z (rw e (sub_mag (machines * b) (forced (planned machines rows) b) 2147483648 (omega (arith, capacity_small)) (omega (arith, forced_small))))

-- what the goals of both calls want, and those of each
pub ruleset listed_jobs = (is_refusal, few_listed, room_listed, loaded_small)

pub ruleset plan_steps = (listed_jobs, loaded_count, loaded_apart, loaded_bounds, loaded_deadlines, answer_fault, answer_short, answer_fit, buffer_kept, buffer_written)

pub ruleset room_steps = (listed_jobs, room_fault, no_figure, room_far, room_near, the_figure, capacity_small, forced_small, room_back)
