-- S3: every call on a sound desk returns a sound one, and a refusal the desk as it came.
use Prim.Native.Nat.{ℕ, suc, ◌+◌, ◌*◌, ◌-◌, ◌≤◌, ◌<◌}
use native.Mathlib.Nat.{le_refl, mul-le-mul_right}
use native.Mathlib.Decide.{dec_le}
use native.Mathlib.Omega.{arith}
use mathlib.Core.Path.{◌≡◌, refl, sym}
use mathlib.Core.Logic.{◌≢◌, ◌⊎◌, inl, inr}
use mathlib.Core.Bool.{Bool, true, false, cond, ◌||◌}
use mathlib.Core.List.{List, [], Memᴰ}
use lib.Dec.{ltb, eqb}
use lib.Signed.{clash_ℤ}
use borrow.Author.Tests.{eqb-true, ne_eqb}
use Rattle.model.specs.Lists.{All, Rising}
use Rattle.model.specs.Jobs.{Job, forced, counted}
use Rattle.model.specs.Boundaries.{RoomEverywhere}
use Rattle.model.specs.Schedules.{Valid}
use Rattle.model.specs.Rule.{plan}
use Rattle.model.proofs.Lists.{All-both, All-mem, All-under, perm_all, perm_mem, mem_map}
use Rattle.model.proofs.Signed.{enough_room}
use Rattle.model.proofs.AllSlots.{zero_is_short}
use Rattle.model.proofs.Necessity.{necessary}
use Rattle.model.proofs.Exactly.{plan_is_valid, width_le}
use Rattle.model.proofs.Easier.{easier_room}
use Rattle.model.proofs.FirstColumn.{first_column_leaves_room}
use Rattle.promise.specs.declared.Answer.{Answer}
use Rattle.promise.specs.declared.Held.{Held}
use Rattle.promise.specs.declared.Desk.{Desk}
use Rattle.promise.specs.Answers.{refusal, fault}
use Rattle.promise.specs.Rows.{Field, the_number, the_work, the_deadline, the_bound, field_of, DueRange, least, greatest, OutOfRange, count_fault}
use Rattle.promise.specs.Desk.{held_of, desk_of, as_planned, to_plan, jobs_for, SoundSeat, Sound, column}
use Rattle.promise.specs.DeskCalls.{open_of, admit_dues, new_held, with_new, jobs_with, admit_answer, handed, admit_of, find_answer, without, withdraw_of, look_of, run_answer, lowered, after_run, run_of, asked, HeldAs, DeskHolds, figure, pairs}
use Rattle.promise.specs.DeskClaims.{SoundnessIsKept, RefusalHandsTheDeskBack}
use Rattle.promise.proofs.Ladder.{Tells, fails, tells_lt, tells_or}
use Rattle.promise.proofs.DeskTable.{Admissible, admit_yes, run_yes}
use Rattle.promise.proofs.DeskSeats.{sound_seated, made_sound, seated_perm, length_seated, numbered, rising_seated, All-leaves, length_leaves, rising_leaves, All-after, length_after, rising_after, to_plan_distinct, leaves_eases, after_to_plan, to_plan_due}

-- a refusal hands back the old desk
handed_back : (a : Answer) (new old : Desk) → a.number ≢ 0 → handed a new old ≡ old
handed_back a new old n = rw (ne_eqb a.number 0 n)

no_figure : (a : Answer) (n : ℕ) → a.number ≢ 0 → figure a n ≡ 0
no_figure a n h = rw (ne_eqb a.number 0 h) refl

pub refusal_hands_the_desk_back : RefusalHandsTheDeskBack
unfolding admit_of withdraw_of look_of run_of pairs
refusal_hands_the_desk_back desk = record {
  admit = λ j n. handed_back (admit_answer desk j) _ desk n;
  withdraw = λ k n. handed_back (find_answer desk k) _ desk n;
  look = λ n. refl;
  run = λ n. handed_back (run_answer desk) _ desk n;
  withdraw_figure = λ k n. no_figure (find_answer desk k) _ n;
  look_figures = λ k n.
      (no_figure (find_answer desk k) _ n, no_figure (find_answer desk k) _ n, no_figure (find_answer desk k) _ n, no_figure (find_answer desk k) _ n);
  run_pairs = λ n. rw (ne_eqb (run_answer desk).number 0 n) refl;
}

-- what is handed is sound if the old desk is and, on a yes, the new one
handed_sound : (a : Answer) (new old : Desk) → Sound old → (a.number ≡ 0 → Sound new) → Sound (handed a new old)
handed_sound a new old s f = go (eqb a.number 0) refl
  where
    go : (t : Bool) → eqb a.number 0 ≡ t → Sound (cond t new old)
    go true e = f (eqb-true a.number 0 e)
    go false e = s

-- Open
nothing_held : (machines : ℕ) → RoomEverywhere machines (to_plan machines 0 [])
unfolding to_plan counted forced
nothing_held machines b _ = enough_room machines [] b (omega arith)

open_sound : (machines : ℕ) → Sound (open_of machines).desk
unfolding open_of count_fault
open_sound machines = go (ltb machines 1 || ltb 64 machines) (tells_or (tells_lt machines 1) (tells_lt 64 machines))
  where
    empty : (m : ℕ) → 1 ≤ m → m ≤ 64 → Sound (desk_of m 0 [])
    empty m l k = made_sound m 0 [] (l, k) (omega arith) (omega arith) tt tt (nothing_held m)

    go : (t : Bool) → Tells ((machines < 1) ⊎ (64 < machines)) t
        → Sound (desk_of (cond (eqb (fault t (refusal 1 0 0)).number 0) machines 1) 0 [])
    go true h = empty 1 (omega arith) (omega arith)
    go false (fails n) =
        let l : ¬ (machines < 1) = λ h. n (inl h) in
        let k : ¬ (64 < machines) = λ h. n (inr h) in
        empty machines (omega arith) (omega arith)

-- the seats after a Run
abbrev after : Desk → List Held
after desk = after_run (column desk) (held_of desk)

module _ (desk : Desk) (s : Sound desk) where
  -- Withdraw
  withdraw_sound : (n : ℕ) → Sound (withdraw_of desk n).desk
  unfolding withdraw_of jobs_for
  withdraw_sound n =
      handed_sound (find_answer desk n) (desk_of desk.machines desk.clock (without n (held_of desk))) desk s
      (λ e. made_sound desk.machines desk.clock (without n (held_of desk)) s.machines s.clock
      (omega (arith, length_leaves n (held_of desk), s.few)) (rising_leaves n (held_of desk) s.rising)
      (All-leaves (SoundSeat desk.clock) n (held_of desk) s.seats)
      (easier_room desk.machines desk.machines (jobs_for desk) (to_plan desk.machines desk.clock (without n (held_of desk)))
      (le_refl desk.machines) (leaves_eases desk.machines desk.clock n (held_of desk)) s.room))

  -- Run: slot 1 of the plan leaves a schedule for the rest
  pub plan_valid : Valid desk.machines (jobs_for desk) (plan desk.machines (jobs_for desk))
  unfolding jobs_for
  plan_valid = plan_is_valid desk.machines (jobs_for desk) (to_plan_distinct desk.machines desk.clock (held_of desk) s.rising) s.room

  -- the jobs to plan after the Run
  abbrev next : List Job
  next = to_plan desk.machines (desk.clock + 1) (after desk)

  plan_goes_on : Valid desk.machines next (λ n t. plan desk.machines (jobs_for desk) n (suc t)) × All (λ j. 1 ≤ j.deadline) next
  unfolding column jobs_for
  plan_goes_on =
      rw (after_to_plan desk.machines desk.clock (column desk) (held_of desk))
      at (first_column_leaves_room (λ t. desk.machines) (jobs_for desk) (plan desk.machines (jobs_for desk)) plan_valid)

  after_room : RoomEverywhere desk.machines next
  after_room b _ =
      enough_room desk.machines next b (necessary desk.machines next (λ n t. plan desk.machines (jobs_for desk) n (suc t)) plan_goes_on.0 b)

  after_seats : All (SoundSeat (desk.clock + 1)) (after desk)
  unfolding lowered
  after_seats =
      All-both (λ h (d : 1 ≤ h.deadline - (desk.clock + 1)) (f : 1 ≤ h.deadline - (desk.clock + 1) → SoundSeat (desk.clock + 1) h). f d) (after desk)
      (to_plan_due desk.machines (desk.clock + 1) (after desk) plan_goes_on.1)
      (All-after (column desk) (SoundSeat desk.clock) (λ h. 1 ≤ h.deadline - (desk.clock + 1) → SoundSeat (desk.clock + 1) h)
      (λ h l q d. record {
        number = q.number;
        work = q.work;
        left = omega (arith, q.left);
        deadline = q.deadline;
        bound = q.bound;
        slots = q.slots;
        due = omega (arith, q.due);
        admissible = q.admissible;
      }) (held_of desk) s.seats)

  run_sound : Sound (run_of desk).desk
  unfolding run_of
  run_sound = handed_sound (run_answer desk) (desk_of desk.machines (desk.clock + 1) (after desk)) desk s ran
    where
      ran : (run_answer desk).number ≡ 0 → Sound (desk_of desk.machines (desk.clock + 1) (after desk))
      ran e =
          let below = run_yes desk (sound_seated desk s) e in
          made_sound desk.machines (desk.clock + 1) (after desk) s.machines (omega (arith, s.clock))
          (omega (arith, length_after (column desk) (held_of desk), s.few)) (rising_after (column desk) (held_of desk) s.rising) after_seats after_room

-- Admit
pub in_range : (w : DueRange) (f : Field) (j : Job) → ¬ OutOfRange w f j → (least w f ≤ field_of f j) × (field_of f j ≤ greatest w f)
in_range w f j n =
    let l : ¬ (field_of f j < least w f) = λ h. n (inl h) in
    let g : ¬ (greatest w f < field_of f j) = λ h. n (inr h) in
    (omega arith, omega arith)

-- with room at boundary 0 no job to plan has more work than its bound and its slots allow
alone : (machines clock : ℕ) (held : List Held) → RoomEverywhere machines (to_plan machines clock held)
    → (h : Held) → Memᴰ h held → h.left ≤ h.bound * (h.deadline - clock)
unfolding to_plan counted as_planned
alone machines clock held r h m = go (dec_le h.left (h.bound * (h.deadline - clock)))
  where
    go : Dec (h.left ≤ h.bound * (h.deadline - clock)) → h.left ≤ h.bound * (h.deadline - clock)
    go (yes l) = l
    go (no n) =
        let narrow = mul-le-mul_right (h.deadline - clock) (width_le machines h.bound) in
        clash_ℤ ((zero_is_short machines (to_plan machines clock held)).1 (_, mem_map _ _ (mem_map (as_planned clock) h m), omega arith)) (r 0 (inl refl))

module _ (desk : Desk) (j : Job) where
  -- a new number keeps the numbers of the seats rising
  pub new_rising : Rising (numbered (held_of desk)) → ¬ HeldAs desk j.number → Rising (numbered (with_new desk j))
  unfolding with_new new_held
  new_rising r n =
      rising_seated (new_held desk.clock j) (held_of desk) r
      (All-under (λ h. h.number) (λ m. j.number ≢ m) (held_of desk) (All-mem (held_of desk) (λ h m e. n (h, m, sym e))))

  -- a new job in range that has room with the others makes a sound seat
  new_seat : ((f : Field) → ¬ DeskHolds desk j (asked f)) → RoomEverywhere desk.machines (jobs_with desk j)
      → SoundSeat desk.clock (new_held desk.clock j)
  unfolding new_held with_new admit_dues
  new_seat f r =
      let w = admit_dues desk.clock in
      let n = in_range w the_number j (f the_number) in
      let k = in_range w the_work j (f the_work) in
      let d = in_range w the_deadline j (f the_deadline) in
      let b = in_range w the_bound j (f the_bound) in
      let new = new_held desk.clock j in
      record {
        number = n;
        work = k;
        left = omega arith;
        deadline = omega arith;
        bound = b;
        slots = omega arith;
        due = omega arith;
        admissible = alone desk.machines desk.clock (with_new desk j) r new (perm_mem new (seated_perm new (held_of desk)) (Memᴰ.head refl));
      }

  admitted : Sound desk → Admissible desk j → Sound (desk_of desk.machines desk.clock (with_new desk j))
  unfolding with_new
  admitted s a =
      made_sound desk.machines desk.clock (with_new desk j) s.machines s.clock
      (omega (arith, length_seated (new_held desk.clock j) (held_of desk), a.free)) (new_rising s.rising a.new)
      (perm_all (SoundSeat desk.clock) (seated_perm (new_held desk.clock j) (held_of desk)) (new_seat a.fields a.room, s.seats)) a.room

admit_sound : (desk : Desk) → Sound desk → (j : Job) → Sound (admit_of desk j).desk
unfolding admit_of
admit_sound desk s j =
    handed_sound (admit_answer desk j) (desk_of desk.machines desk.clock (with_new desk j)) desk s
    (λ e. admitted desk j s (admit_yes desk j (sound_seated desk s) e))

pub soundness_is_kept : SoundnessIsKept
unfolding look_of
soundness_is_kept =
    (open_sound, λ desk s. record { admit = admit_sound desk s; withdraw = withdraw_sound desk s; look = λ n. s; run = run_sound desk s })
