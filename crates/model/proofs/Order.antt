-- R3: the order of the list plays no part.
use Prim.Native.Nat.{ℕ, zero, suc, ◌*◌, ◌<◌, max}
use native.Mathlib.Decide.{dec_lt}
use native.Mathlib.Omega.{arith}
use mathlib.Core.Path.{◌≡◌, refl, sym, ◌∙◌, ap}
use mathlib.Core.Logic.{◌≢◌, inl, inr}
use mathlib.Core.Bool.{Bool, true, false, cond, true≢false}
use mathlib.Core.List.{List, map}
use mathlib.Core.Option.{Option, some, none}
use lib.Dec.{eqb}
use lib.IntN.{pos, ◌-ℤ◌}
use borrow.Author.Tests.{eqb-true}
use Rattle.model.specs.Lists.{Distinct, Perm, done, keep, swap, then}
use Rattle.model.specs.Jobs.{Job, numbers, greatest_deadline, forced_of, forced, room}
use Rattle.model.specs.Boundaries.{Boundary, Short, least_short, LeastShort, RoomEverywhere}
use Rattle.model.specs.Rule.{Share, fresh, run_left, qualifies, before, choose, next, bump, give_to, hand_out, clear, fill, share_of, cell, plan_from, plan_in, plan}
use Rattle.model.specs.Claims.{OrderPlaysNoPart}
use Rattle.model.proofs.Lists.{total_perm, perm_map, perm_distinct, perm_mem, perm_back}
use Rattle.model.proofs.Choice.{Before, goes_before, is_before, before_trans, before_not}
use Rattle.model.proofs.Shares.{numbers_of, numbers_give_to, numbers_clear, numbers_fill, numbers_fresh}
use Rattle.model.proofs.LeastShort.{least_short_is_named, none_short_is_named}

not_before : (p q : Share) → Before p q → before q p ≡ false
not_before p q b = go (before q p) refl
  where
    go : (x : Bool) → before q p ≡ x → before q p ≡ false
    go true e = absurd (before_not p q b (goes_before q p e))
    go false e = e

-- of two shares with different numbers one goes before the other
before_or : (p q : Share) → p.job.number ≢ q.job.number → before p q ≡ false → Before q p
unfolding Before
before_or p q h e = go (dec_lt (run_left p) (run_left q)) (dec_lt (run_left q) (run_left p)) (dec_lt p.job.number q.job.number)
  where
    wrong : Before p q → Before q p
    wrong b = absurd (true≢false (sym (is_before p q b) ∙ e))

    go : Dec (run_left p < run_left q) → Dec (run_left q < run_left p) → Dec (p.job.number < q.job.number) → Before q p
    go (yes a) b c = inl a
    go (no a) (yes b) c = wrong (inl b)
    go (no a) (no b) (yes c) = wrong (inr (omega arith))
    go (no a) (no b) (no c) = inr (omega arith)

module _ (p q : Share) (h : p.job.number ≢ q.job.number) where
  pair : cond (before p q) p q ≡ cond (before q p) q p
  pair = go (before p q) refl
    where
      go : (x : Bool) → before p q ≡ x → cond x p q ≡ cond (before q p) q p
      go true e = rw (not_before p q (goes_before p q e))
      go false e = rw (is_before q p (before_or p q h e))

  three : (r : Share) (a c : Bool) → before q r ≡ a → before p r ≡ c
      → cond (before p (cond a q r)) p (cond a q r) ≡ cond (before q (cond c p r)) q (cond c p r)
  three r true true ea ec = pair
  three r false false ea ec = rw (ea, ec)
  three r true false ea ec = rw ea (go (before p q) refl)
    where
      go : (x : Bool) → before p q ≡ x → cond x p q ≡ q
      go true e = absurd (true≢false (sym (is_before p r (before_trans p q r (goes_before p q e) (goes_before q r ea))) ∙ ec))
      go false e = refl
  three r false true ea ec = rw ec (go (before q p) refl)
    where
      go : (x : Bool) → before q p ≡ x → p ≡ cond x q p
      go true e = absurd (true≢false (sym (is_before q r (before_trans q p r (goes_before q p e) (goes_before p r ec))) ∙ ea))
      go false e = refl

  choose_swap : (o : Option Share) → choose p (choose q o) ≡ choose q (choose p o)
  choose_swap none = ap some pair
  choose_swap (some r) = ap some (three r (before q r) (before p r) refl refl)

  next_swap : (a c : Bool) (o : Option Share)
      → cond a (choose p (cond c (choose q o) o)) (cond c (choose q o) o) ≡ cond c (choose q (cond a (choose p o) o)) (cond a (choose p o) o)
  next_swap true true o = choose_swap o
  next_swap true false o = refl
  next_swap false true o = refl
  next_swap false false o = refl

  share_swap : (n : ℕ) (r : Share) (a c : Bool) → eqb p.job.number n ≡ a → eqb q.job.number n ≡ c → cond a p (cond c q r) ≡ cond c q (cond a p r)
  share_swap n r true true ea ec = absurd (h (eqb-true p.job.number n ea ∙ sym (eqb-true q.job.number n ec)))
  share_swap n r true false ea ec = refl
  share_swap n r false true ea ec = refl
  share_swap n r false false ea ec = refl

perm_numbers : {ps qs : List Share} → Perm ps qs → Distinct (numbers_of ps) → Distinct (numbers_of qs)
perm_numbers p d = perm_distinct (perm_map (λ (x : Share). x.job.number) p) d

next_perm : (t : ℕ) {ps qs : List Share} → Perm ps qs → Distinct (numbers_of ps) → next t ps ≡ next t qs
next_perm t done d = refl
next_perm t (keep x p) d = ap (λ (o : Option Share). cond (qualifies t x) (choose x o) o) (next_perm t p d.1)
next_perm t (swap x y xs) d = next_swap x y d.0.0 (qualifies t x) (qualifies t y) (next t xs)
next_perm t (then p q) d = next_perm t p d ∙ next_perm t q (perm_numbers p d)

share_perm : (n : ℕ) {ps qs : List Share} → Perm ps qs → Distinct (numbers_of ps) → share_of n ps ≡ share_of n qs
share_perm n done d = refl
share_perm n (keep x p) d = ap (λ (r : Share). cond (eqb x.job.number n) x r) (share_perm n p d.1)
share_perm n (swap x y xs) d = share_swap x y d.0.0 n (share_of n xs) (eqb x.job.number n) (eqb y.job.number n) refl refl
share_perm n (then p q) d = share_perm n p d ∙ share_perm n q (perm_numbers p d)

perm_give_to : (o : Option Share) {ps qs : List Share} → Perm ps qs → Perm (give_to o ps) (give_to o qs)
perm_give_to none p = p
perm_give_to (some x) p = perm_map (λ q. cond (eqb q.job.number x.job.number) (bump q) q) p

perm_hands : (c t : ℕ) (ps qs : List Share) → Perm ps qs → Distinct (numbers_of ps) → Perm (hand_out c t ps) (hand_out c t qs)
perm_hands zero t ps qs p d = p
perm_hands (suc c) t ps qs p d =
    perm_hands c t (give_to (next t ps) ps) (give_to (next t qs) qs) (rw (next_perm t p d) (perm_give_to (next t qs) p)) (rw (numbers_give_to (next t ps) ps) d)

perm_fill : (c t : ℕ) (ps qs : List Share) → Perm ps qs → Distinct (numbers_of ps) → Perm (fill c t ps) (fill c t qs)
unfolding fill
perm_fill c t ps qs p d = perm_hands c t (map clear ps) (map clear qs) (perm_map clear p) (rw (numbers_clear ps) d)

module _ (count : ℕ → ℕ) (n s : ℕ) where
  perm_cell : (t : ℕ) (ps qs : List Share) → Perm ps qs → Distinct (numbers_of ps) → cell count t ps n s ≡ cell count t qs n s
  perm_cell zero ps qs p d = refl
  perm_cell (suc t) ps qs p d =
      go (eqb s (suc t)) (perm_cell t (fill (count (suc t)) (suc t) ps) (fill (count (suc t)) (suc t) qs) (perm_fill (count (suc t)) (suc t) ps qs p d) filled)
    where
      filled : Distinct (numbers_of (fill (count (suc t)) (suc t) ps))
      filled = rw (numbers_fill (count (suc t)) (suc t) ps) d

      go : (x : Bool) → cell count t (fill (count (suc t)) (suc t) ps) n s ≡ cell count t (fill (count (suc t)) (suc t) qs) n s
          → cond x (share_of n (fill (count (suc t)) (suc t) ps)).given (cell count t (fill (count (suc t)) (suc t) ps) n s)
          ≡ cond x (share_of n (fill (count (suc t)) (suc t) qs)).given (cell count t (fill (count (suc t)) (suc t) qs) n s)
      go true i = ap (λ (q : Share). q.given) (share_perm n (perm_fill (count (suc t)) (suc t) ps qs p d) filled)
      go false i = i

perm_greatest : {jobs jobs' : List Job} → Perm jobs jobs' → greatest_deadline jobs ≡ greatest_deadline jobs'
perm_greatest done = refl
perm_greatest (keep j p) = ap (max j.deadline) (perm_greatest p)
perm_greatest (swap i j jobs) = omega arith
perm_greatest (then p q) = perm_greatest p ∙ perm_greatest q

pub plan_perm : (count : ℕ → ℕ) (jobs jobs' : List Job) → Perm jobs jobs' → Distinct (numbers jobs) → (n s : ℕ) → plan_in count jobs n s ≡ plan_in count jobs' n s
unfolding plan_in plan_from
plan_perm count jobs jobs' p d n s =
    perm_cell count n s (greatest_deadline jobs) (map fresh jobs) (map fresh jobs') (perm_map fresh p) (rw (numbers_fresh jobs) d)
    ∙ ap (λ (t : ℕ). cell count t (map fresh jobs') n s) (perm_greatest p)

forced_perm : {jobs jobs' : List Job} → Perm jobs jobs' → (b : ℕ) → forced jobs b ≡ forced jobs' b
unfolding forced
forced_perm p b = total_perm (forced_of b) p

room_perm : (C : ℕ) {jobs jobs' : List Job} → Perm jobs jobs' → (b : ℕ) → room C jobs b ≡ room C jobs' b
unfolding room
room_perm C p b = ap (λ (f : ℕ). pos (C * b) -ℤ pos f) (forced_perm p b)

boundary_perm : {jobs jobs' : List Job} → Perm jobs jobs' → (b : ℕ) → Boundary jobs b → Boundary jobs' b
boundary_perm p b (inl e) = inl e
boundary_perm p b (inr j) = inr (j.0, perm_mem j.0 p j.1, j.2)

module _ (C : ℕ) (jobs jobs' : List Job) (p : Perm jobs jobs') where
  everywhere_perm : RoomEverywhere C jobs → RoomEverywhere C jobs'
  everywhere_perm h b m = rw (room_perm C p b) at (h b (boundary_perm (perm_back p) b m))

  least_perm : (s : Short) → LeastShort C jobs s → LeastShort C jobs' s
  least_perm s l = record {
    boundary = boundary_perm p s.place l.boundary;
    short = rw (room_perm C p s.place) at l.short;
    amount = rw (room_perm C p s.place) at l.amount;
    least = λ b m k. rw (room_perm C p b) at (l.least b (boundary_perm (perm_back p) b m) k);
  }

  least_short_perm : least_short C jobs ≡ least_short C jobs'
  least_short_perm = go (least_short C jobs) refl
    where
      go : (o : Option Short) → least_short C jobs ≡ o → least_short C jobs ≡ least_short C jobs'
      go none e = e ∙ sym ((none_short_is_named C jobs').1 (everywhere_perm ((none_short_is_named C jobs).0 e)))
      go (some s) e = e ∙ sym ((least_short_is_named C jobs' s).1 (least_perm s ((least_short_is_named C jobs s).0 e)))

pub order_plays_no_part : OrderPlaysNoPart
unfolding plan
order_plays_no_part C jobs jobs' p d = record {
  machines = plan_perm (λ t. C) jobs jobs' p d;
  forced_work = forced_perm p;
  rooms = room_perm C p;
  least_short_lem = least_short_perm C jobs jobs' p;
}
