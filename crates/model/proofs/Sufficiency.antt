-- R1: where the forced work is at most C × b at each b, the plan is a valid schedule.
use Prim.Native.Nat.{ℕ, zero, suc, ◌+◌, ◌*◌, ◌-◌, ◌≤◌, ◌<◌, min}
use native.Mathlib.Nat.{le_trans, le_of_eq, mul-le-mul_left}
use native.Mathlib.Decide.{ℕ_discrete}
use native.Mathlib.Omega.{arith}
use mathlib.Core.Path.{◌≡◌, refl, sym, ap}
use mathlib.Core.Logic.{◌≢◌, ◌⊎◌, inl, inr}
use mathlib.Core.Bool.{Bool, true, false, cond}
use mathlib.Core.List.{List, [], ◌∷◌, map, Memᴰ}
use mathlib.Core.Option.{Option, some, none}
use lib.Dec.{leb}
use borrow.Author.Tests.{leb-true, leb-false}
use Rattle.model.specs.Lists.{All, total, Distinct}
use Rattle.model.specs.Jobs.{Job, numbers, forced_of, forced}
use Rattle.model.specs.Schedules.{Serves, Valid}
use Rattle.model.specs.Rule.{Share, fresh, next, bump, give, give_to, hand_out, clear, fill, share_of, cell, plan_from, excess_of, excess}
use Rattle.model.proofs.Lists.{total_add, total_zero, total_le, total_same, total_map, All-map, All-of, All-mem, All-at, upto_stop}
use Rattle.model.proofs.Choice.{Choice, choice}
use Rattle.model.proofs.SlotLemma.{slot_lemma, fill_le}
use Rattle.model.proofs.Shares.{numbers_of, numbers_give_to, numbers_clear, numbers_fill, fresh_distinct, share_fresh, share_of_lem, share_other, share_given, share_clear, left_le, rest, at_slot, under_slot, within_bound, none_late, all_parts}

-- the forced work up to b of what is left, where the slots from t down to 1 are still to be filled
unfoldable pub keeps : ℕ → ℕ → Share → ℕ
keeps t b p = p.left - p.job.bound * (min p.job.deadline t - b)

-- its part at shares that are past their deadline in slot t
past_of : ℕ → ℕ → Share → ℕ
past_of t b p = cond (leb t p.job.deadline) 0 (p.left - p.job.bound * (p.job.deadline - b))

-- split at the deadline: in slot suc t, with L slots between b and t
module _ (t b : ℕ) (l : b ≤ t) where
  keeps_next : (p : Share) → keeps t b p ≡ excess_of (suc t) (t - b) p + past_of (suc t) b p
  unfolding keeps excess_of past_of
  keeps_next p = go (leb (suc t) p.job.deadline) refl
    where
      go : (x : Bool) → leb (suc t) p.job.deadline ≡ x
          → p.left - p.job.bound * (min p.job.deadline t - b)
          ≡ cond x (p.left - p.job.bound * (t - b)) 0 + cond x 0 (p.left - p.job.bound * (p.job.deadline - b))
      go true e =
          let d = leb-true (suc t) p.job.deadline e in
          let m : min p.job.deadline t ≡ t = omega arith in
          rw m (omega arith)
      go false e =
          let d = leb-false (suc t) p.job.deadline e in
          let m : min p.job.deadline t ≡ p.job.deadline = omega arith in
          rw m (omega arith)

  keeps_here : (p : Share) → keeps (suc t) b p ≡ excess_of (suc t) (suc (t - b)) p + past_of (suc t) b p
  unfolding keeps excess_of past_of
  keeps_here p = go (leb (suc t) p.job.deadline) refl
    where
      go : (x : Bool) → leb (suc t) p.job.deadline ≡ x
          → p.left - p.job.bound * (min p.job.deadline (suc t) - b)
          ≡ cond x (p.left - p.job.bound * suc (t - b)) 0 + cond x 0 (p.left - p.job.bound * (p.job.deadline - b))
      go true e =
          let d = leb-true (suc t) p.job.deadline e in
          let m : min p.job.deadline (suc t) - b ≡ suc (t - b) = omega arith in
          rw m (omega arith)
      go false e =
          let d = leb-false (suc t) p.job.deadline e in
          let m : min p.job.deadline (suc t) ≡ p.job.deadline = omega arith in
          rw m (omega arith)

  keeps_later : (p : Share) → excess_of (suc t) (t - b) p + past_of (suc t) b p ≤ keeps (suc t) (suc b) p
  unfolding keeps excess_of past_of
  keeps_later p = go (leb (suc t) p.job.deadline) refl
    where
      go : (x : Bool) → leb (suc t) p.job.deadline ≡ x
          → cond x (p.left - p.job.bound * (t - b)) 0 + cond x 0 (p.left - p.job.bound * (p.job.deadline - b))
          ≤ p.left - p.job.bound * (min p.job.deadline (suc t) - suc b)
      go true e =
          let d = leb-true (suc t) p.job.deadline e in
          let m : min p.job.deadline (suc t) - suc b ≡ t - b = omega arith in
          rw m (omega arith)
      go false e =
          let d = leb-false (suc t) p.job.deadline e in
          let m : min p.job.deadline (suc t) - suc b ≤ p.job.deadline - b = omega arith in
          omega (arith, mul-le-mul_left p.job.bound m)

  past_bump : (p : Share) → past_of (suc t) b (bump p) ≤ past_of (suc t) b p
  unfolding past_of bump
  past_bump p = go (leb (suc t) p.job.deadline)
    where
      go : (x : Bool) → cond x 0 (p.left - 1 - p.job.bound * (p.job.deadline - b)) ≤ cond x 0 (p.left - p.job.bound * (p.job.deadline - b))
      go true = omega arith
      go false = omega arith

  past_clear : (p : Share) → past_of (suc t) b (clear p) ≤ past_of (suc t) b p
  unfolding past_of clear
  past_clear p = omega arith

  -- the slot lemma, as it reads for forced work: what is kept below b after the slot is no more than before, or C less than before at b + 1
  pub keeps_fill : (C : ℕ) (ps : List Share)
      → (total (keeps t b) (fill C (suc t) ps) ≤ total (keeps (suc t) b) ps)
      ⊎ (total (keeps t b) (fill C (suc t) ps) + C ≤ total (keeps (suc t) (suc b)) ps)
  unfolding excess
  keeps_fill C ps = go (slot_lemma C (suc t) (t - b) ps)
    where
      after : total (keeps t b) (fill C (suc t) ps) ≡ total (excess_of (suc t) (t - b)) (fill C (suc t) ps) + total (past_of (suc t) b) (fill C (suc t) ps)
      after =
          omega (
            arith,
            total_same (keeps t b) (λ p. excess_of (suc t) (t - b) p + past_of (suc t) b p) (fill C (suc t) ps) (All-of keeps_next (fill C (suc t) ps)),
            total_add (excess_of (suc t) (t - b)) (past_of (suc t) b) (fill C (suc t) ps),
          )

      here : total (keeps (suc t) b) ps ≡ total (excess_of (suc t) (suc (t - b))) ps + total (past_of (suc t) b) ps
      here =
          omega (
            arith,
            total_same (keeps (suc t) b) (λ p. excess_of (suc t) (suc (t - b)) p + past_of (suc t) b p) ps (All-of keeps_here ps),
            total_add (excess_of (suc t) (suc (t - b))) (past_of (suc t) b) ps,
          )

      later : total (excess_of (suc t) (t - b)) ps + total (past_of (suc t) b) ps ≤ total (keeps (suc t) (suc b)) ps
      later =
          omega (
            arith,
            total_le (λ p. excess_of (suc t) (t - b) p + past_of (suc t) b p) (keeps (suc t) (suc b)) ps (All-of keeps_later ps),
            total_add (excess_of (suc t) (t - b)) (past_of (suc t) b) ps,
          )

      past : total (past_of (suc t) b) (fill C (suc t) ps) ≤ total (past_of (suc t) b) ps
      past = fill_le (past_of (suc t) b) past_bump past_clear C (suc t) ps

      go : (total (excess_of (suc t) (t - b)) (fill C (suc t) ps) ≤ total (excess_of (suc t) (suc (t - b))) ps)
          ⊎ (total (excess_of (suc t) (t - b)) (fill C (suc t) ps) + C ≤ total (excess_of (suc t) (t - b)) ps)
          → (total (keeps t b) (fill C (suc t) ps) ≤ total (keeps (suc t) b) ps)
          ⊎ (total (keeps t b) (fill C (suc t) ps) + C ≤ total (keeps (suc t) (suc b)) ps)
      go (inl h) = inl (omega (arith, after, here, past))
      go (inr h) = inr (omega (arith, after, later, past))

-- no b is short, with the slots from t down to 1 still to be filled
Kept : ℕ → ℕ → List Share → Type 0
Kept C t ps = (b : ℕ) → b ≤ t → total (keeps t b) ps ≤ C * b

kept_fill : (C t : ℕ) (ps : List Share) → Kept C (suc t) ps → Kept C t (fill C (suc t) ps)
unfolding Kept
kept_fill C t ps h b l = go (keeps_fill t b l C ps)
  where
    go : (total (keeps t b) (fill C (suc t) ps) ≤ total (keeps (suc t) b) ps)
        ⊎ (total (keeps t b) (fill C (suc t) ps) + C ≤ total (keeps (suc t) (suc b)) ps)
        → total (keeps t b) (fill C (suc t) ps) ≤ C * b
    go (inl k) = omega (arith, h b (omega arith))
    go (inr k) = omega (arith, h (suc b) (omega arith))

kept_rest : (C t : ℕ) (ps : List Share) → Kept C t ps → Kept C 0 (rest (λ s. C) t ps)
kept_rest C zero ps h = h
kept_rest C (suc t) ps h = kept_rest C t (fill C (suc t) ps) (kept_fill C t ps h)

left_keeps : (p : Share) → p.left ≤ keeps 0 0 p
unfolding keeps
left_keeps p =
    let m : min p.job.deadline 0 - 0 ≡ 0 = omega arith in
    rw m (omega arith)

-- when all slots are filled, nothing is left
nothing_left : (C t : ℕ) (ps : List Share) → Kept C t ps → total (λ p. p.left) (rest (λ s. C) t ps) ≡ 0
unfolding Kept
nothing_left C t ps h =
    omega (arith, kept_rest C t ps h 0 (omega arith), total_le (λ p. p.left) (keeps 0 0) (rest (λ s. C) t ps) (All-of left_keeps (rest (λ s. C) t ps)))

pub fresh_keeps : (t b : ℕ) (j : Job) → j.deadline ≤ t → keeps t b (fresh j) ≤ forced_of b j
unfolding keeps fresh forced_of
fresh_keeps t b j h =
    let m : min j.deadline t ≡ j.deadline = omega arith in
    rw m (omega arith)

kept_fresh : (C t : ℕ) (jobs : List Job) → All (λ j. j.deadline ≤ t) jobs → ((b : ℕ) → forced jobs b ≤ C * b) → Kept C t (map fresh jobs)
unfolding Kept forced
kept_fresh C t jobs d h b l =
    omega (arith, total_map fresh (keeps t b) jobs, total_le (λ j. keeps t b (fresh j)) (forced_of b) jobs (All-map (fresh_keeps t b) jobs d), h b)

-- f is g but for one more at m: so is its sum over distinct numbers, at most
others : (f g : ℕ → ℕ) (m : ℕ) → ((n : ℕ) → n ≢ m → f n ≤ g n) → (ns : List ℕ) → All (λ n. m ≢ n) ns → total f ns ≤ total g ns
others f g m h ns a = total_le f g ns (All-map (λ n e. h n (λ q. e (sym q))) ns a)

one_more : (f g : ℕ → ℕ) (m : ℕ) → ((n : ℕ) → n ≢ m → f n ≤ g n) → f m ≤ suc (g m)
    → (ns : List ℕ) → Distinct ns → total f ns ≤ suc (total g ns)
one_more f g m h e [] d = omega arith
one_more f g m h e (n ∷ ns) d = go (ℕ_discrete n m) (one_more f g m h e ns d.1)
  where
    go : Dec (n ≡ m) → total f ns ≤ suc (total g ns) → f n + total f ns ≤ suc (g n + total g ns)
    go (yes q) i = rw q (omega (arith, others f g m h ns (rw q at d.0)))
    go (no q) i = omega (arith, h n q)

abbrev given : List Share → ℕ → ℕ
given ps n = (share_of n ps).given

-- a slot hands out no more than its count
module _ (ns : List ℕ) (dn : Distinct ns) where
  given_one : (t : ℕ) (ps : List Share) → Distinct (numbers_of ps) → (o : Option Share) → Choice t ps o
      → total (given (give_to o ps)) ns ≤ suc (total (given ps) ns)
  unfolding bump
  given_one t ps d none ch = omega arith
  given_one t ps d (some p) ch =
      one_more (given (give p.job.number ps)) (given ps) p.job.number other same ns dn
    where
      other : (n : ℕ) → n ≢ p.job.number → given (give p.job.number ps) n ≤ given ps n
      other n h = le_of_eq (ap (λ (q : Share). q.given) (share_other n p.job.number ps h))

      same : given (give p.job.number ps) p.job.number ≤ suc (given ps p.job.number)
      same =
          omega (arith, ap (λ (q : Share). q.given) (share_given p d ch.member), ap (λ (q : Share). q.given) (share_of_lem p d ch.member))

  given_hands : (c t : ℕ) (ps : List Share) → Distinct (numbers_of ps) → total (given (hand_out c t ps)) ns ≤ total (given ps) ns + c
  given_hands zero t ps d = omega arith
  given_hands (suc c) t ps d =
      omega (arith, given_one t ps d (next t ps) (choice t ps), given_hands c t (give_to (next t ps) ps) (rw (numbers_give_to (next t ps) ps) d))

  given_fill : (c t : ℕ) (ps : List Share) → Distinct (numbers_of ps) → total (given (fill c t ps)) ns ≤ c
  unfolding fill clear
  given_fill c t ps d =
      omega (arith, given_hands c t (map clear ps) (rw (numbers_clear ps) d), total_le (given (map clear ps)) (λ n. 0) ns (All-of clean ns), total_zero ns)
    where
      clean : (n : ℕ) → given (map clear ps) n ≤ 0
      clean n = le_of_eq (ap (λ (q : Share). q.given) (share_clear n ps))

  pub cells_fit : (count : ℕ → ℕ) (t : ℕ) (ps : List Share) → Distinct (numbers_of ps) → (s : ℕ) → total (λ n. cell count t ps n s) ns ≤ count s
  cells_fit count zero ps d s = omega (arith, total_zero ns)
  cells_fit count (suc t) ps d s =
      go (ℕ_discrete s (suc t)) (cells_fit count t (fill (count (suc t)) (suc t) ps) (rw (numbers_fill (count (suc t)) (suc t) ps) d) s)
    where
      go : Dec (s ≡ suc t) → total (λ n. cell count t (fill (count (suc t)) (suc t) ps) n s) ns ≤ count s → total (λ n. cell count (suc t) ps n s) ns ≤ count s
      go (yes e) i =
          rw e
          (le_trans (total_le (λ n. cell count (suc t) ps n (suc t)) (given (fill (count (suc t)) (suc t) ps)) ns (All-of (λ n. le_of_eq (at_slot count n t ps)) ns))
          (given_fill (count (suc t)) (suc t) ps d))
      go (no h) i =
          le_trans
          (total_le (λ n. cell count (suc t) ps n s) (λ n. cell count t (fill (count (suc t)) (suc t) ps) n s) ns (All-of (λ n. le_of_eq (under_slot count n t ps s h)) ns))
          i

module _ (C last : ℕ) (jobs : List Job) (distinct : Distinct (numbers jobs)) (by_Last : All (λ j. j.deadline ≤ last) jobs) (enough : (b : ℕ) → forced jobs b ≤ C * b) where
  begun : Distinct (numbers_of (map fresh jobs))
  begun = fresh_distinct jobs distinct

  served : (j : Job) → Memᴰ j jobs → Serves (plan_from last (λ s. C) jobs j.number) j
  unfolding plan_from fresh
  served j m = record {
    within = λ t _. rw mine at (within_bound (λ s. C) j.number last (map fresh jobs) begun t);
    late = late;
    whole = omega (
      arith,
      upto_stop (cell (λ s. C) last (map fresh jobs) j.number) j.deadline last late (All-at (λ i. i.deadline ≤ last) j by_Last m),
      all_parts (λ s. C) j.number last (map fresh jobs) begun,
      ap (λ (p : Share). p.left) mine,
      left_le j.number (rest (λ s. C) last (map fresh jobs)),
      nothing_left C last (map fresh jobs) (kept_fresh C last jobs by_Last enough),
    );
  }
    where
      mine : share_of j.number (map fresh jobs) ≡ fresh j
      mine = share_fresh jobs distinct j m

      late : (t : ℕ) → j.deadline < t → cell (λ s. C) last (map fresh jobs) j.number t ≡ 0
      late t l = none_late (λ s. C) j.number last (map fresh jobs) begun t (rw mine l)

  pub sufficient : Valid C jobs (plan_from last (λ s. C) jobs)
  unfolding plan_from
  sufficient = record {
    serves = All-mem jobs served;
    fits = λ t _.
        omega (
          arith,
          cells_fit (numbers jobs) distinct (λ s. C) last (map fresh jobs) begun t,
          total_map (λ j. j.number) (λ n. cell (λ s. C) last (map fresh jobs) n t) jobs,
        );
  }
