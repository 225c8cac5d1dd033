-- What a desk and a ledger in step say: the parts of demand 3 at one moment, and for any one call more.
use Prim.Native.Nat.{ℕ, ◌-◌, ◌≤◌, ◌<◌}
use native.Mathlib.Decide.{ℕ_discrete}
use native.Mathlib.Omega.{arith}
use mathlib.Core.Path.{◌≡◌, refl, sym, ◌∙◌, ap}
use mathlib.Core.Logic.{◌≢◌, ◌⊎◌, ◌↔◌}
use mathlib.Core.List.{List, map, Memᴰ}
use borrow.Author.Tests.{ne_eqb}
use Rattle.model.specs.Lists.{All, Perm, then, total}
use Rattle.model.specs.Jobs.{Job}
use Rattle.model.specs.Schedules.{Serves, Possible}
use Rattle.model.proofs.Lists.{All-map, All-both, All-of, All-mem, All-at, mem_map, perm_mem, perm_back}
use Rattle.promise.specs.declared.Held.{Held}
use Rattle.promise.specs.declared.Desk.{Desk}
use Rattle.promise.specs.declared.Given.{Given}
use Rattle.promise.specs.Answers.{yes as yes-answer}
use Rattle.promise.specs.Desk.{held_of, as_planned, SoundSeat, Sound}
use Rattle.promise.specs.DeskCalls.{seat_of, with_new, admit_answer, admit_of, find_answer, withdraw_of, look_of, run_answer, pairs, run_of, HeldAs}
use Rattle.promise.specs.History.{Promised, Ledger, answered_for, remaining, to_finish}
use Rattle.promise.proofs.Ladder.{same_number}
use Rattle.promise.proofs.DeskFit.{admit_seven_is_true}
use Rattle.promise.proofs.DeskRun.{total_replicate, run_gives_out_the_plan}
use Rattle.promise.proofs.AnyOrder.{possible_perm}
use Rattle.promise.proofs.Standing.{seat_found, standing, standing_all, sound_distinct}
use Rattle.promise.proofs.Owed.{owed, owed_by}
use Rattle.promise.proofs.Pairs.{zeros, zeros_answer}
use Rattle.promise.proofs.Effects.{InStep, Apart, SlotDone, carried, finished_apart, either_way, new_in_front}
use Rattle.promise.proofs.CallAnswers.{admit_passes, found_held, held_found, runs_below}
use Rattle.promise.proofs.CallEffects.{new_perm, admit_adds, run_does}

-- what a Run answers, refused or not: each job within its bound, no other number, all within the room
record Fair (desk : Desk) (given : List Given) : Type 0 where
  bounds : All (λ j. answered_for j.number given ≤ j.bound) (standing desk)
  nothing_else : (n : ℕ) → Apart desk n → answered_for n given ≡ 0
  room : total (λ g. g.machines) given ≤ desk.machines

refused_zeros : (desk : Desk) → (run_answer desk).number ≢ 0 → (run_of desk).given ≡ zeros 32
unfolding run_of pairs
refused_zeros desk n = rw (ne_eqb (run_answer desk).number 0 n)

run_fair : (desk : Desk) → Sound desk → Fair desk (run_of desk).given
run_fair desk s = go (ℕ_discrete (run_answer desk).number 0)
  where
    given : List Given
    given = (run_of desk).given

    done_fair : SlotDone given desk (run_of desk).desk → total (λ g. g.machines) given ≤ desk.machines → Fair desk given
    done_fair d r = record { bounds = All-both one (standing desk) d.answered d.valid.serves; nothing_else = d.nothing_else; room = r }
      where
        one : (j : Job) → answered_for j.number given ≡ d.schedule j.number 1 → Serves (d.schedule j.number) j
            → answered_for j.number given ≤ j.bound
        one j e v = omega (arith, v.within 1 (omega arith))

    refused_fair : Fair desk (zeros 32)
    refused_fair = record {
      bounds = All-of (λ j. omega (arith, zeros_answer j.number 32)) (standing desk);
      nothing_else = λ n a. zeros_answer n 32;
      room = omega (arith, total_replicate (λ (g : Given). g.machines) 32 (record { number = 0; machines = 0 }) refl);
    }

    go : Dec ((run_answer desk).number ≡ 0) → Fair desk given
    go (yes e) = done_fair (run_does desk s e) (run_gives_out_the_plan desk s e).room
    go (no n) = rw (refused_zeros desk n) refused_fair

module _ {room : ℕ} {desk : Desk} {l : Ledger} (s : InStep room desk l) where
  -- an admission that no job on the desk can stand for has had its work
  has_had : (P : Job → Type 0) (Q : Promised → Type 0) → All P (standing desk) → ((p : Promised) → P (remaining l.clock p) → ¬ Q p)
      → All (λ p. Q p → p.had ≡ p.job.work) l.in_force
  has_had P Q h f =
      either_way s (λ p. Q p → p.had ≡ p.job.work) (All-map on_desk l.in_force (carried s P h)) (All-of (λ p e q. e) l.in_force)
    where
      on_desk : (p : Promised) → (p.had < p.job.work → P (remaining l.clock p)) → p.had < p.job.work → Q p → p.had ≡ p.job.work
      on_desk p h u q = absurd (f p (h u) q)

  -- (c) a job on the desk still has a slot to its due slot
  pub kept_in_time : All (λ p. p.job.deadline ≤ l.clock → p.had ≡ p.job.work) l.in_force
  unfolding remaining as_planned
  kept_in_time =
      has_had (λ j. 1 ≤ j.deadline) (λ p. p.job.deadline ≤ l.clock)
      (standing_all desk (λ j. 1 ≤ j.deadline) (All-map (λ h (t : SoundSeat desk.clock h). t.due.0) (held_of desk) s.sound.seats))
      (λ p h d. omega arith)

  -- (c) and a number that is admitted is not on the desk
  pub kept_before_again : (j : Job) → (admit_of desk j).answer.number ≡ 0 → All (λ p. p.job.number ≡ j.number → p.had ≡ p.job.work) l.in_force
  unfolding remaining admit_of
  kept_before_again j e =
      has_had (λ i. i.number ≢ j.number) (λ p. p.job.number ≡ j.number) (admit_adds desk s.sound j e).apart (λ p h. h)

  -- (a) and (b): one with work left is on the desk, any other is answered nothing
  pub kept_bounds : All (λ p. answered_for p.job.number (run_of desk).given ≤ p.job.bound) l.in_force
  unfolding remaining
  kept_bounds =
      let f = run_fair desk s.sound in
      either_way s (λ p. answered_for p.job.number (run_of desk).given ≤ p.job.bound)
      (carried s (λ j. answered_for j.number (run_of desk).given ≤ j.bound) f.bounds)
      (All-map (λ p a e. omega (arith, f.nothing_else p.job.number (a e))) l.in_force (finished_apart s))

  pub kept_late : All (λ p. p.job.deadline ≤ l.clock → answered_for p.job.number (run_of desk).given ≡ 0) l.in_force
  kept_late = All-both one l.in_force kept_in_time (finished_apart s)
    where
      one : (p : Promised) → (p.job.deadline ≤ l.clock → p.had ≡ p.job.work) → (p.had ≡ p.job.work → Apart desk p.job.number)
          → p.job.deadline ≤ l.clock → answered_for p.job.number (run_of desk).given ≡ 0
      one p h a d = (run_fair desk s.sound).nothing_else p.job.number (a (h d))

  pub kept_room : total (λ g. g.machines) (run_of desk).given ≤ room
  kept_room = omega (arith, (run_fair desk s.sound).room, s.machines)

  -- (e) the jobs that Admit plans are the jobs to finish, in another order
  pub kept_exact : (j : Job) → ((admit_of desk j).answer.number ≡ 0) ⊎ ((admit_of desk j).answer.number ≡ 7)
      → ((admit_of desk j).answer.number ≡ 7) ↔ (¬ Possible room (to_finish l j))
  unfolding admit_of to_finish owed
  kept_exact j z =
      rw (← s.machines)
      ((λ e q. exact.0 e (possible_perm desk.machines (perm_back jobs) q)), λ n. exact.1 (λ q. n (possible_perm desk.machines jobs q)))
    where
      jobs : Perm (map (as_planned desk.clock) (with_new desk j)) (to_finish l j)
      jobs = then (new_perm desk j) (new_in_front s j)

      exact : ((admit_answer desk j).number ≡ 7) ↔ (¬ Possible desk.machines (map (as_planned desk.clock) (with_new desk j)))
      exact = let q = admit_passes desk s.sound j z in (admit_seven_is_true desk j s.sound q.0 q.1 q.2).exactly

  -- (f) an admission with work left is held
  owed_held : All (λ p. p.had < p.job.work → HeldAs desk p.job.number) l.in_force
  unfolding remaining as_planned
  owed_held =
      let Held-now : Job → Type 0 = λ j. HeldAs desk j.number in
      carried s Held-now (standing_all desk Held-now (All-mem (held_of desk) (λ h m. (h, m, refl))))

  owed_found : (p : Promised) → Memᴰ p l.in_force → p.had < p.job.work → find_answer desk p.job.number ≡ yes-answer
  owed_found p m u =
      held_found desk s.sound p.job.number (All-at (λ q. q.had < q.job.work → HeldAs desk q.job.number) p owed_held m u)

  -- the admission that a held job stands for
  held_owed : (n : ℕ) → HeldAs desk n → (p : Promised) × Memᴰ p l.in_force × (p.job.number ≡ n) × (p.had < p.job.work)
  unfolding standing owed remaining as_planned
  held_owed n h =
      let f = owed_by l.clock (as_planned desk.clock h.0) l.in_force (perm_mem _ s.same (mem_map (as_planned desk.clock) h.0 h.1)) in
      (f.0, f.1, ap (λ (j : Job). j.number) (sym f.3) ∙ h.2, f.2)

  pub kept_found : (n : ℕ)
      → ((look_of desk n).answer.number ≡ 0) ↔ ((p : Promised) × Memᴰ p l.in_force × (p.job.number ≡ n) × (p.had < p.job.work))
  unfolding look_of
  kept_found n = ((λ e. held_owed n (found_held desk s.sound n e)), λ f. rw (← f.2) (same_number (owed_found f.0 f.1 f.3)))

  pub kept_withdrawn : (n : ℕ)
      → ((withdraw_of desk n).answer.number ≡ 0) ↔ ((p : Promised) × Memᴰ p l.in_force × (p.job.number ≡ n) × (p.had < p.job.work))
  unfolding look_of withdraw_of
  kept_withdrawn = kept_found

  -- a number with no work owed to it is apart from the desk
  pub kept_nobody_else : (n : ℕ) → ¬ ((p : Promised) × Memᴰ p l.in_force × (p.job.number ≡ n) × (p.had < p.job.work))
      → answered_for n (run_of desk).given ≡ 0
  unfolding as_planned
  kept_nobody_else n h =
      (run_fair desk s.sound).nothing_else n
      (standing_all desk (λ j. j.number ≢ n) (All-mem (held_of desk) (λ g m e. h (held_owed n (g, m, e)))))

  -- and its seat has just that work left
  owed_left : All (λ p. p.had < p.job.work → (seat_of p.job.number (held_of desk)).left ≡ p.job.work - p.had) l.in_force
  unfolding remaining as_planned
  owed_left =
      let held = held_of desk in
      carried s (λ j. (seat_of j.number held).left ≡ j.work)
      (standing_all desk (λ j. (seat_of j.number held).left ≡ j.work)
      (All-map (λ h (e : seat_of h.number held ≡ h). ap (λ (g : Held). g.left) e) held (seat_found held (sound_distinct desk s.sound))))

  pub kept_left : (p : Promised) → Memᴰ p l.in_force → p.had < p.job.work
      → ((look_of desk p.job.number).left ≡ p.job.work - p.had) × ((withdraw_of desk p.job.number).left ≡ p.job.work - p.had)
  unfolding look_of withdraw_of
  kept_left p m u = rw (owed_found p m u) (left, left)
    where
      left : (seat_of p.job.number (held_of desk)).left ≡ p.job.work - p.had
      left = All-at (λ q. q.had < q.job.work → (seat_of q.job.number (held_of desk)).left ≡ q.job.work - q.had) p owed_left m u

  -- its due slot and its bound
  owed_told : All (λ p. p.had < p.job.work
      → ((seat_of p.job.number (held_of desk)).deadline - desk.clock ≡ p.job.deadline - l.clock)
      × ((seat_of p.job.number (held_of desk)).bound ≡ p.job.bound) × (1 ≤ p.job.deadline - l.clock)) l.in_force
  unfolding remaining as_planned
  owed_told =
      let held = held_of desk in
      let As-held : Job → Type 0 =
      λ j. ((seat_of j.number held).deadline - desk.clock ≡ j.deadline) × ((seat_of j.number held).bound ≡ j.bound) × (1 ≤ j.deadline) in
      carried s As-held
      (standing_all desk As-held
      (All-both
      (λ h (e : seat_of h.number held ≡ h) (t : SoundSeat desk.clock h). (ap (λ (g : Held). g.deadline - desk.clock) e, ap (λ (g : Held). g.bound) e, t.due.0))
      held (seat_found held (sound_distinct desk s.sound)) s.sound.seats))

  pub kept_told : (p : Promised) → Memᴰ p l.in_force → p.had < p.job.work
      → ((look_of desk p.job.number).deadline ≡ p.job.deadline) × ((look_of desk p.job.number).bound ≡ p.job.bound)
  unfolding look_of
  kept_told p m u = rw (owed_found p m u) (deadline, told.1)
    where
      told : ((seat_of p.job.number (held_of desk)).deadline - desk.clock ≡ p.job.deadline - l.clock)
          × ((seat_of p.job.number (held_of desk)).bound ≡ p.job.bound) × (1 ≤ p.job.deadline - l.clock)
      told =
          All-at
          (λ q. q.had < q.job.work
          → ((seat_of q.job.number (held_of desk)).deadline - desk.clock ≡ q.job.deadline - l.clock)
          × ((seat_of q.job.number (held_of desk)).bound ≡ q.job.bound) × (1 ≤ q.job.deadline - l.clock))
          p owed_told m u

      deadline : (seat_of p.job.number (held_of desk)).deadline ≡ p.job.deadline
      deadline = omega (arith, told.0, told.2, s.clock)

  -- (g)
  pub kept_runs : l.clock < 100000 → (run_of desk).answer ≡ yes-answer
  unfolding run_of
  kept_runs c = runs_below desk s.sound (omega (arith, s.clock))
