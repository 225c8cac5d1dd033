-- R2: the plan follows the stated rule, and what follows that rule agrees with the plan. Three parts: what follows the rule
-- is settled slot by slot, from the last down; the plan follows it; and what agrees with the plan follows it too.
use Prim.Native.Nat.{ℕ, zero, suc, ◌+◌, ◌*◌, ◌-◌, ◌≤◌, ◌<◌}
use native.Mathlib.Nat.{mul-le-mul_left}
use native.Mathlib.Decide.{ℕ_discrete, dec_le}
use native.Mathlib.Omega.{arith}
use mathlib.Core.Path.{◌≡◌, refl, sym, ◌∙◌, ap}
use mathlib.Core.Logic.{◌≢◌}
use mathlib.Core.Bool.{Bool, true, false, cond}
use mathlib.Core.List.{List, map, Memᴰ}
use mathlib.Core.Option.{Option, some, none}
use lib.Dec.{leb}
use borrow.Author.Tests.{le-leb, lt-leb}
use Rattle.model.specs.Lists.{All, Distinct, upto}
use Rattle.model.specs.Jobs.{Job, numbers, run_length, greatest_deadline}
use Rattle.model.specs.Rule.{Share, fresh, run_left, next, bump, give, give_to, hand_out, clear, fill, share_of, cell, plan_from, plan_in, plan}
use Rattle.model.specs.Follows.{RunLength, Slot, Qualifies, NoWorse, Takes, OneMore, Filled, all_out, none_qualifies, hand, later, FollowsIn}
use Rattle.model.specs.Claims.{PlanIsTheRule}
use Rattle.model.proofs.Lists.{All-map, All-both, All-of, All-mem, All-at, All-under, mem_map, upto_same, upto_stop}
use Rattle.model.proofs.Choice.{Open, First, Chosen, Choice, choice, run_le, le_run}
use Rattle.model.proofs.Start.{deadlines_le}
use Rattle.model.proofs.Shares.{jobs_of, numbers_of, jobs_give, jobs_clear, jobs_fill, jobs_fresh, numbers_jobs, numbers_give_to, numbers_fill, fresh_distinct, share_fresh, share_of_lem, share_other, share_given, share_clear, grown_fill, at_slot, under_slot, beyond, none_late}

-- the rounded quotient fits the relation
run_fits : (k r : ℕ) → 0 < k → 0 < r → RunLength k r (run_length r k)
run_fits k r hk hr = record { above = go (dec_le r (k * (run_length r k - 1))); within = le_run r k (run_length r k) hk (omega arith) }
  where
    go : Dec (r ≤ k * (run_length r k - 1)) → k * (run_length r k - 1) < r
    go (yes h) =
        let m = run_le r k (run_length r k - 1) hk h in
        absurd (omega (arith, le_run r k 0 hk (omega arith)))
    go (no h) = omega arith

-- and nothing else does
run_only : (k r L : ℕ) → 0 < k → RunLength k r L → L ≡ run_length r k
run_only k r L hk h = go (dec_le L (run_length r k)) (run_le r k L hk h.within)
  where
    go : Dec (L ≤ run_length r k) → run_length r k ≤ L → L ≡ run_length r k
    go (yes l) g = omega arith
    go (no l) g =
        let m : run_length r k ≤ L - 1 = omega arith in
        absurd (omega (arith, mul-le-mul_left k m, le_run r k (run_length r k) hk (omega arith), h.above))

-- the run length of what remains of a job
run_in : Slot → Job → ℕ
run_in s j = run_length (s.left j.number) j.bound

-- no worse, said of these numbers
record Ahead (s : Slot) (j i : Job) : Type 0 where
  longer : run_in s i ≤ run_in s j
  tie : run_in s i ≡ run_in s j → j.number ≤ i.number

-- of jobs that qualify the two say the same, since work and bound are above 0
module _ {t : ℕ} {s : Slot} where
  run_of : (j : Job) → Qualifies t s j → RunLength j.bound (s.left j.number) (run_in s j)
  unfolding run_in
  run_of j q = run_fits j.bound (s.left j.number) (omega arith) q.more

  only_run : (j : Job) → Qualifies t s j → (L : ℕ) → RunLength j.bound (s.left j.number) L → L ≡ run_in s j
  unfolding run_in
  only_run j q L h = run_only j.bound (s.left j.number) L (omega arith) h

  ahead : (j i : Job) → Qualifies t s j → Qualifies t s i → NoWorse s j i → Ahead s j i
  ahead j i q p w = record {
    longer = w.longer (run_in s i) (run_in s j) (run_of i p) (run_of j q);
    tie = λ e. w.tie (run_in s i) (run_of i p) (rw e (run_of j q));
  }

  no_worse : (j i : Job) → Qualifies t s j → Qualifies t s i → Ahead s j i → NoWorse s j i
  no_worse j i q p h = record {
    longer = λ L M l m. omega (arith, only_run i p L l, only_run j q M m, h.longer);
    tie = λ L l m. h.tie (sym (only_run i p L l) ∙ only_run j q L m);
  }

-- two states agree on a job, though they may differ at numbers that are not listed
record Same (s s₂ : Slot) (j : Job) : Type 0 where
  left : s.left j.number ≡ s₂.left j.number
  given : s.given j.number ≡ s₂.given j.number

same_back : {s s₂ : Slot} (j : Job) → Same s s₂ j → Same s₂ s j
same_back j e = record { left = sym e.left; given = sym e.given }

same_run : {s s₂ : Slot} (j : Job) → Same s s₂ j → run_in s j ≡ run_in s₂ j
unfolding run_in
same_run j e = ap (λ r. run_length r j.bound) e.left

-- they agree on it after one more machine for the same number, too
same_more : {n n₂ : ℕ} {s s₂ s' s₂' : Slot} → n ≡ n₂ → OneMore n s s' → OneMore n₂ s₂ s₂' → (j : Job) → Same s s₂ j → Same s' s₂' j
same_more {n = n} {n₂ = n₂} {s = s} {s₂ = s₂} {s' = s'} {s₂' = s₂'} e o o₂ j a = go (ℕ_discrete j.number n)
  where
    go : Dec (j.number ≡ n) → Same s' s₂' j
    go (yes h) =
        let o' = rw (← h) at o in
        let o₂' = rw (← (h ∙ e)) at o₂ in
        record { left = omega arith; given = omega arith }
    go (no h) =
        let h₂ : j.number ≢ n₂ = λ f. h (f ∙ sym e) in
        record {
          left = omega (arith, o.others_left j.number h, o₂.others_left j.number h₂, a.left);
          given = omega (arith, o.others_given j.number h, o₂.others_given j.number h₂, a.given);
        }

module _ (t : ℕ) (jobs : List Job) where
  -- what takes a machine in one state qualifies in the other
  qualifies_too : {s s₂ : Slot} (j : Job) → All (Same s s₂) jobs → Takes t jobs s j → Qualifies t s₂ j
  qualifies_too {s = s} {s₂ = s₂} j a k =
      let e = All-at (Same s s₂) j a k.listed in
      let q = k.may in
      record { due = q.due; more = omega arith; below = omega arith }

  -- so what takes the machine there is ahead of it
  takes_ahead : {s s₂ : Slot} (j j₂ : Job) → All (Same s s₂) jobs → Takes t jobs s j → Takes t jobs s₂ j₂ → Ahead s₂ j₂ j
  takes_ahead {s = s} {s₂ = s₂} j j₂ a k k₂ =
      let q = qualifies_too j a k in
      ahead j₂ j k₂.may q (All-at (λ i. Qualifies t s₂ i → NoWorse s₂ j₂ i) j k₂.best k.listed q)

  -- each ahead of the other: the next machine goes to one number
  takes_only : {s s₂ : Slot} (j j₂ : Job) → All (Same s s₂) jobs → Takes t jobs s j → Takes t jobs s₂ j₂ → j.number ≡ j₂.number
  takes_only {s = s} {s₂ = s₂} j j₂ a k k₂ =
      let h₂ = takes_ahead j j₂ a k k₂ in
      let h = takes_ahead j₂ j (All-map same_back jobs a) k₂ k in
      let e = same_run j (All-at (Same s s₂) j a k.listed) in
      let e₂ = same_run j₂ (All-at (Same s s₂) j₂ a k₂.listed) in
      omega (arith, h.tie (omega arith), h₂.tie (omega arith))

  module _ (got got₂ : ℕ → ℕ) where
    -- nothing more is handed out: what is given stands in the state
    ends_same : (s s₂ : Slot) → All (Same s s₂) jobs → All (λ j. got j.number ≡ s.given j.number) jobs
        → All (λ j. got₂ j.number ≡ s₂.given j.number) jobs → All (λ j. got j.number ≡ got₂ j.number) jobs
    ends_same s s₂ a e e₂ =
        All-both (λ j (d : Same s s₂ j) (f : (got j.number ≡ s.given j.number) × (got₂ j.number ≡ s₂.given j.number)). omega arith) jobs a
        (All-both (λ j x y. (x, y)) jobs e e₂)

    -- what a filled slot gives is settled by the state it is filled from
    filled_only : {c : ℕ} {s s₂ : Slot} → All (Same s s₂) jobs → Filled t jobs got c s → Filled t jobs got₂ c s₂
        → All (λ j. got j.number ≡ got₂ j.number) jobs
    filled_only {s = s} {s₂ = s₂} a (all_out e) (all_out e₂) = ends_same s s₂ a e e₂
    filled_only {s = s} {s₂ = s₂} a (all_out e) (none_qualifies h₂ e₂) = ends_same s s₂ a e e₂
    filled_only {s = s} {s₂ = s₂} a (none_qualifies h e) (all_out e₂) = ends_same s s₂ a e e₂
    filled_only {s = s} {s₂ = s₂} a (none_qualifies h e) (none_qualifies h₂ e₂) = ends_same s s₂ a e e₂
    filled_only {s = s} a (none_qualifies h e) (hand j₂ k₂ o₂ f₂) =
        absurd (All-at (λ i. ¬ Qualifies t s i) j₂ h k₂.listed (qualifies_too j₂ (All-map same_back jobs a) k₂))
    filled_only {s₂ = s₂} a (hand j k o f) (none_qualifies h₂ e₂) =
        absurd (All-at (λ i. ¬ Qualifies t s₂ i) j h₂ k.listed (qualifies_too j a k))
    filled_only a (hand j k o f) (hand j₂ k₂ o₂ f₂) =
        filled_only (All-map (same_more (takes_only j j₂ a k k₂) o o₂) jobs a) f f₂

-- a filled slot looks at what is given only at listed numbers
filled_same : (t : ℕ) (jobs : List Job) (got got₂ : ℕ → ℕ) {c : ℕ} {s : Slot} → All (λ j. got j.number ≡ got₂ j.number) jobs
    → Filled t jobs got₂ c s → Filled t jobs got c s
filled_same t jobs got got₂ h (all_out e) = all_out (All-both (λ j x y. x ∙ y) jobs h e)
filled_same t jobs got got₂ h (none_qualifies n e) = none_qualifies n (All-both (λ j x y. x ∙ y) jobs h e)
filled_same t jobs got got₂ h (hand j k o f) = hand j k o (filled_same t jobs got got₂ h f)

-- and what is given later looks only at later slots
later_same : (f g : ℕ → ℕ) (t d : ℕ) → ((s : ℕ) → t < s → s ≤ d → f s ≡ g s) → later f t d ≡ later g t d
unfolding later
later_same f g t d h = upto_same (λ s. f (t + s)) (λ s. g (t + s)) (d - t) (λ s l k. h (t + s) (omega arith) (omega arith))

-- schedules that agree on each job in each slot: if one follows the rule, so does the other
follows_same : (count : ℕ → ℕ) (jobs : List Job) (y z : ℕ → ℕ → ℕ) → All (λ j. (t : ℕ) → 1 ≤ t → y j.number t ≡ z j.number t) jobs
    → FollowsIn count jobs z → FollowsIn count jobs y
follows_same count jobs y z h f = record {
  start = f.start;
  begins = λ t l. record { left = All-both (left t) jobs h (f.begins t l).left; given = (f.begins t l).given };
  filled = λ t l. filled_same t jobs (λ n. y n t) (λ n. z n t) (All-map (λ j e. e t l) jobs h) (f.filled t l);
}
  where
    left : (t : ℕ) (j : Job) → ((s : ℕ) → 1 ≤ s → y j.number s ≡ z j.number s)
        → (f.start t).left j.number + later (z j.number) t j.deadline ≡ j.work
        → (f.start t).left j.number + later (y j.number) t j.deadline ≡ j.work
    left t j e b = omega (arith, later_same (y j.number) (z j.number) t j.deadline (λ s l _. e s (omega arith)))

module _ (count : ℕ → ℕ) (jobs : List Job) (last : ℕ) (by_Last : All (λ j. j.deadline ≤ last) jobs) (y z : ℕ → ℕ → ℕ)
    (f : FollowsIn count jobs y) (g : FollowsIn count jobs z) where
  -- two that follow the rule agree in a slot, if they do in all later ones: as much work remains for each
  slot_only : (t : ℕ) → 1 ≤ t → ((s : ℕ) → t < s → s ≤ last → All (λ j. y j.number s ≡ z j.number s) jobs)
      → All (λ j. y j.number t ≡ z j.number t) jobs
  slot_only t l h = filled_only t jobs (λ n. y n t) (λ n. z n t) (All-mem jobs begins_same) (f.filled t l) (g.filled t l)
    where
      begins_same : (j : Job) → Memᴰ j jobs → Same (f.start t) (g.start t) j
      begins_same j m =
          let d = All-at (λ i. i.deadline ≤ last) j by_Last m in
          let e =
          later_same (y j.number) (z j.number) t j.deadline
          (λ s a b. All-at (λ i. y i.number s ≡ z i.number s) j (h s a (omega arith)) m) in
          record {
            left = omega (
              arith,
              All-at (λ i. (f.start t).left i.number + later (y i.number) t i.deadline ≡ i.work) j (f.begins t l).left m,
              All-at (λ i. (g.start t).left i.number + later (z i.number) t i.deadline ≡ i.work) j (g.begins t l).left m,
            );
            given = omega (
              arith,
              All-at (λ i. (f.start t).given i.number ≡ 0) j (f.begins t l).given m,
              All-at (λ i. (g.start t).given i.number ≡ 0) j (g.begins t l).given m,
            );
          }

  -- so they agree in the slots from last - m on, for each m
  slots_only : (m t : ℕ) → 1 ≤ t → last ≤ t + m → All (λ j. y j.number t ≡ z j.number t) jobs
  slots_only zero t l h = slot_only t l (λ s a b. absurd (omega arith))
  slots_only (suc m) t l h = slot_only t l (λ s a b. slots_only m s (omega arith) (omega arith))

  -- and in all slots
  follows_only : All (λ j. (t : ℕ) → 1 ≤ t → y j.number t ≡ z j.number t) jobs
  follows_only = All-mem jobs (λ j m t l. All-at (λ i. y i.number t ≡ z i.number t) j (slots_only last t l (omega arith)) m)

-- the state that the shares of the plan stand for
abbrev state_of : List Share → Slot
state_of qs = record { left = λ n. (share_of n qs).left; given = λ n. (share_of n qs).given }

-- where no share qualifies, nothing more is handed out
hands_stop : (c t : ℕ) (qs : List Share) → next t qs ≡ none → hand_out c t qs ≡ qs
hands_stop zero t qs e = refl
hands_stop (suc c) t qs e = rw e (hands_stop c t qs e)

module _ (qs : List Share) (d : Distinct (numbers_of qs)) where
  -- there the share of a listed job is found at its number
  state_run : (p : Share) → Memᴰ p qs → run_in (state_of qs) p.job ≡ run_left p
  unfolding run_in run_left
  state_run p m = rw (share_of_lem p d m)

  -- a share with work left gets a machine
  state_more : (p : Share) → Memᴰ p qs → 0 < p.left → OneMore p.job.number (state_of qs) (state_of (give p.job.number qs))
  unfolding bump
  state_more p m l = record {
    work = rw (share_given p d m, share_of_lem p d m) (omega arith);
    machine = rw (share_given p d m, share_of_lem p d m) (omega arith);
    others_left = λ n h. ap (λ (q : Share). q.left) (share_other n p.job.number qs h);
    others_given = λ n h. ap (λ (q : Share). q.given) (share_other n p.job.number qs h);
  }

  module _ (t : ℕ) where
    -- a job qualifies exactly if its share does
    job_qualifies : (p : Share) → Memᴰ p qs → Open t p → Qualifies t (state_of qs) p.job
    job_qualifies p m o = let e = share_of_lem p d m in record { due = o.due; more = rw e o.more; below = rw e o.below }

    share_qualifies : (p : Share) → Memᴰ p qs → Qualifies t (state_of qs) p.job → Open t p
    share_qualifies p m q = let e = share_of_lem p d m in record { due = q.due; more = rw e at q.more; below = rw e at q.below }

    -- so if no share qualifies, no job does
    none_open : All (λ p. ¬ Open t p) qs → All (λ j. ¬ Qualifies t (state_of qs) j) (jobs_of qs)
    none_open h =
        All-under (λ p. p.job) (λ j. ¬ Qualifies t (state_of qs) j) qs (All-mem qs (λ p m q. All-at (λ r. ¬ Open t r) p h m (share_qualifies p m q)))

    -- the rule's choice takes the next machine
    choice_takes : (p : Share) → Chosen t qs p → Takes t (jobs_of qs) (state_of qs) p.job
    choice_takes p ch = record {
      listed = mem_map (λ q. q.job) p ch.member;
      may = job_qualifies p ch.member ch.open';
      best = All-under (λ q. q.job) (λ i. Qualifies t (state_of qs) i → NoWorse (state_of qs) p.job i) qs (All-mem qs best);
    }
      where
        best : (q : Share) → Memᴰ q qs → Qualifies t (state_of qs) q.job → NoWorse (state_of qs) p.job q.job
        best q m k =
            let f = All-at (λ r. Open t r → First p r) q ch.best m (share_qualifies q m k) in
            let e = state_run p ch.member in
            let g = state_run q m in
            no_worse p.job q.job (job_qualifies p ch.member ch.open') k
            (record { longer = omega arith; tie = λ h. f.tie (omega arith) })

-- what is handed out follows the rule, machine by machine
hands_filled : (c t : ℕ) (qs : List Share) → Distinct (numbers_of qs) → Filled t (jobs_of qs) (λ n. (share_of n (hand_out c t qs)).given) c (state_of qs)
hands_filled zero t qs d = all_out (All-of (λ j. refl) (jobs_of qs))
hands_filled (suc c) t qs d =
    go (next t qs) refl (choice t qs) (hands_filled c t (give_to (next t qs) qs) (rw (numbers_give_to (next t qs) qs) d))
  where
    go : (o : Option Share) → next t qs ≡ o → Choice t qs o
        → Filled t (jobs_of (give_to o qs)) (λ n. (share_of n (hand_out c t (give_to o qs))).given) c (state_of (give_to o qs))
        → Filled t (jobs_of qs) (λ n. (share_of n (hand_out c t (give_to o qs))).given) (suc c) (state_of qs)
    go none e ch f = none_qualifies {s = state_of qs} (none_open qs d t ch) (rw (hands_stop c t qs e) (All-of (λ j. refl) (jobs_of qs)))
    go (some p) e ch f =
        hand p.job (choice_takes qs d t p ch) (state_more qs d p ch.member ch.open'.more) (rw (jobs_give p.job.number qs) at f)

-- the shares when the filling, from slot T down, comes to slot t
abbrev comes_to : (ℕ → ℕ) → ℕ → List Share → ℕ → List Share
comes_to count zero ps t = ps
comes_to count (suc T) ps t = cond (leb (suc T) t) ps (comes_to count T (fill (count (suc T)) (suc T) ps) t)

module _ (count : ℕ → ℕ) (t : ℕ) where
  -- from slot t or below nothing is filled before
  comes_past : (T : ℕ) (ps : List Share) → T ≤ t → comes_to count T ps t ≡ ps
  comes_past zero ps l = refl
  comes_past (suc T) ps l = rw (le-leb (suc T) t l)

  -- from above slot t the first slot is
  comes_under : (T : ℕ) (ps : List Share) → t ≤ T → comes_to count (suc T) ps t ≡ comes_to count T (fill (count (suc T)) (suc T) ps) t
  comes_under T ps l = rw (lt-leb (suc T) t (omega arith))

  -- the jobs stay what they were
  comes_jobs : (T : ℕ) (ps : List Share) → jobs_of (comes_to count T ps t) ≡ jobs_of ps
  comes_jobs zero ps = refl
  comes_jobs (suc T) ps = go (leb (suc T) t) (comes_jobs T (fill (count (suc T)) (suc T) ps))
    where
      go : (b : Bool) → jobs_of (comes_to count T (fill (count (suc T)) (suc T) ps) t) ≡ jobs_of (fill (count (suc T)) (suc T) ps)
          → jobs_of (cond b ps (comes_to count T (fill (count (suc T)) (suc T) ps) t)) ≡ jobs_of ps
      go true e = refl
      go false e = e ∙ jobs_fill (count (suc T)) (suc T) ps

  -- what is left then and what the later slots were given make up what was left before
  comes_left : (n T : ℕ) (ps : List Share) → Distinct (numbers_of ps)
      → (share_of n (comes_to count T ps t)).left + upto (λ s. cell count T ps n (t + s)) (T - t) ≡ (share_of n ps).left
  comes_left n zero ps d = let e : 0 - t ≡ 0 = omega arith in rw e (omega arith)
  comes_left n (suc T) ps d = go (dec_le (suc T) t) (comes_left n T (fill (count (suc T)) (suc T) ps) (rw (numbers_fill (count (suc T)) (suc T) ps) d))
    where
      go : Dec (suc T ≤ t)
          → (share_of n (comes_to count T (fill (count (suc T)) (suc T) ps) t)).left + upto (λ s. cell count T (fill (count (suc T)) (suc T) ps) n (t + s)) (T - t)
          ≡ (share_of n (fill (count (suc T)) (suc T) ps)).left
          → (share_of n (comes_to count (suc T) ps t)).left + upto (λ s. cell count (suc T) ps n (t + s)) (suc T - t) ≡ (share_of n ps).left
      go (yes l) i =
          let e : suc T - t ≡ 0 = omega arith in
          rw (comes_past (suc T) ps l, e) (omega arith)
      go (no l) i =
          let e : suc T - t ≡ suc (T - t) = omega arith in
          let f : t + suc (T - t) ≡ suc T = omega arith in
          rw (comes_under T ps (omega arith), e, f, at_slot count n T ps)
          (omega (
            arith,
            (grown_fill (count (suc T)) (suc T) n ps d).parts,
            upto_same (λ s. cell count (suc T) ps n (t + s)) (λ s. cell count T (fill (count (suc T)) (suc T) ps) n (t + s)) (T - t)
                (λ s _ k. under_slot count n T ps (t + s) (omega arith)),
          ))

  -- and slot t is filled from there
  comes_cell : (n T : ℕ) (ps : List Share) → 1 ≤ t → t ≤ T → cell count T ps n t ≡ (share_of n (fill (count t) t (comes_to count T ps t))).given
  comes_cell n zero ps l k = absurd (omega arith)
  comes_cell n (suc T) ps l k = go (ℕ_discrete t (suc T)) (comes_cell n T (fill (count (suc T)) (suc T) ps) l)
    where
      go : Dec (t ≡ suc T)
          → (t ≤ T → cell count T (fill (count (suc T)) (suc T) ps) n t ≡ (share_of n (fill (count t) t (comes_to count T (fill (count (suc T)) (suc T) ps) t))).given)
          → cell count (suc T) ps n t ≡ (share_of n (fill (count t) t (comes_to count (suc T) ps t))).given
      go (yes e) i = rw (comes_past (suc T) ps (omega arith), e) (at_slot count n T ps)
      go (no h) i = rw (under_slot count n T ps t h, comes_under T ps (omega arith)) (i (omega arith))

module _ (count : ℕ → ℕ) (last : ℕ) (jobs : List Job) (distinct : Distinct (numbers jobs)) (by_Last : All (λ j. j.deadline ≤ last) jobs) where
  begun : Distinct (numbers_of (map fresh jobs))
  begun = fresh_distinct jobs distinct

  -- the shares as slot t begins
  abbrev clean : ℕ → List Share
  clean t = map clear (comes_to count last (map fresh jobs) t)

  -- they are those of the jobs
  clean_jobs : (t : ℕ) → jobs_of (clean t) ≡ jobs
  clean_jobs t = jobs_clear (comes_to count last (map fresh jobs) t) ∙ comes_jobs count t last (map fresh jobs) ∙ jobs_fresh jobs

  -- what is left is the work less what later slots have, of which none is past the deadline
  clean_left : (t : ℕ) (j : Job) → Memᴰ j jobs
      → (share_of j.number (clean t)).left + later (plan_from last count jobs j.number) t j.deadline ≡ j.work
  unfolding plan_from later clear fresh
  clean_left t j m =
      let e = share_fresh jobs distinct j m in
      let l = All-at (λ i. i.deadline ≤ last) j by_Last m in
      omega (
        arith,
        ap (λ (p : Share). p.left) (share_clear j.number (comes_to count last (map fresh jobs) t)),
        upto_stop (λ s. cell count last (map fresh jobs) j.number (t + s)) (j.deadline - t) (last - t)
            (λ s k. none_late count j.number last (map fresh jobs) begun (t + s) (rw e (omega arith)))
            (omega arith),
        comes_left count t j.number last (map fresh jobs) begun,
        ap (λ (p : Share). p.left) e,
      )

  -- the plan has what is handed out from there: past the last slot none qualifies, and the plan has nothing
  clean_cell : (t : ℕ) → 1 ≤ t → (j : Job) → Memᴰ j jobs
      → plan_from last count jobs j.number t ≡ (share_of j.number (hand_out (count t) t (clean t))).given
  unfolding plan_from fresh fill
  clean_cell t l j m = go (dec_le t last)
    where
      go : Dec (t ≤ last)
          → cell count last (map fresh jobs) j.number t ≡ (share_of j.number (fill (count t) t (comes_to count last (map fresh jobs) t))).given
      go (yes k) = comes_cell count t j.number last (map fresh jobs) l k
      go (no k) =
          let g = grown_fill (count t) t j.number (map fresh jobs) begun in
          let e = All-at (λ i. i.deadline ≤ last) j by_Last m in
          rw (beyond count j.number last (map fresh jobs) t (omega arith), comes_past count t last (map fresh jobs) (omega arith))
          (sym (g.late (omega (arith, g.deadline_same, ap (λ (p : Share). p.job.deadline) (share_fresh jobs distinct j m)))))

  -- so the plan follows the rule, from any last slot on that no deadline is after
  plan_follows : FollowsIn count jobs (plan_from last count jobs)
  unfolding clear
  plan_follows = record {
    start = λ t. state_of (clean t);
    begins = λ t l. record {
      left = All-mem jobs (clean_left t);
      given = All-of (λ j. ap (λ (p : Share). p.given) (share_clear j.number (comes_to count last (map fresh jobs) t))) jobs;
    };
    filled = λ t l.
        filled_same t jobs (λ n. plan_from last count jobs n t) (λ n. (share_of n (hand_out (count t) t (clean t))).given)
        (All-mem jobs (clean_cell t l))
        (rw (clean_jobs t) at (hands_filled (count t) t (clean t) (rw (numbers_jobs (clean t), clean_jobs t) distinct)));
  }

pub plan_is_the_rule : PlanIsTheRule
unfolding plan plan_in
plan_is_the_rule C jobs d y =
    let l = deadlines_le jobs in
    let p = plan_follows (λ t. C) (greatest_deadline jobs) jobs d l in
    ((λ f. follows_only (λ t. C) jobs (greatest_deadline jobs) l y (plan C jobs) f p), (λ h. follows_same (λ t. C) jobs y (plan C jobs) h p))
