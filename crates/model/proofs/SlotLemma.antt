-- The slot lemma, for any count handed out and any level L. Two figures of a share: its excess over L, and what the excess
-- would be if it took all that it still can in this slot. No machine raises either; a machine to a share above the level
-- lowers the first by one; and if none above the level qualifies, the first is at most the second.
use Prim.Native.Nat.{ℕ, zero, suc, ◌+◌, ◌*◌, ◌-◌, ◌≤◌, ◌<◌}
use native.Mathlib.Nat.{le_trans}
use native.Mathlib.Decide.{dec_le, dec_lt}
use native.Mathlib.Omega.{arith}
use mathlib.Core.Path.{◌≡◌, refl}
use mathlib.Core.Logic.{◌⊎◌, inl, inr}
use mathlib.Core.Bool.{Bool, true, false, cond}
use mathlib.Core.List.{List, [], ◌∷◌, map, Memᴰ}
use mathlib.Core.Option.{Option, some, none}
use lib.Dec.{leb, eqb}
use borrow.Author.Tests.{eq-eqb, le-leb, leb-true}
use Rattle.model.specs.Lists.{total}
use Rattle.model.specs.Rule.{Share, run_left, next, bump, give, give_to, hand_out, clear, fill, excess_of, excess}
use Rattle.model.specs.Claims.{SlotLemma}
use Rattle.model.proofs.Lists.{total_le, total_same, total_map, All-map, All-of}
use Rattle.model.proofs.Choice.{Open, Choice, choice, run_le, le_run}

-- what no machine raises at a share, no machine raises in sum
pub give_le : (f : Share → ℕ) → ((p : Share) → f (bump p) ≤ f p) → (n : ℕ) (ps : List Share) → total f (give n ps) ≤ total f ps
give_le f h n [] = omega arith
give_le f h n (p ∷ ps) = go (eqb p.job.number n) (give_le f h n ps)
  where
    go : (t : Bool) → total f (give n ps) ≤ total f ps → f (cond t (bump p) p) + total f (give n ps) ≤ f p + total f ps
    go true e = omega (arith, h p)
    go false e = omega arith

-- nor does a filled slot, if the figure does not look at the machines given
pub fill_le : (f : Share → ℕ) → ((p : Share) → f (bump p) ≤ f p) → ((p : Share) → f (clear p) ≤ f p)
    → (c t : ℕ) (ps : List Share) → total f (fill c t ps) ≤ total f ps
unfolding fill
fill_le f h k c t ps =
    le_trans (hands c (map clear ps)) (omega (arith, total_map clear f ps, total_le (λ p. f (clear p)) f ps (All-of k ps)))
  where
    gives : (o : Option Share) (qs : List Share) → total f (give_to o qs) ≤ total f qs
    gives none qs = omega arith
    gives (some q) qs = give_le f h q.job.number qs

    hands : (c : ℕ) (qs : List Share) → total f (hand_out c t qs) ≤ total f qs
    hands zero qs = omega arith
    hands (suc c) qs = le_trans (hands c (give_to (next t qs) qs)) (gives (next t qs) qs)

module _ (t L : ℕ) where
  -- the excess if the share took all that it still can in this slot
  floor : Share → ℕ
  floor p = cond (leb t p.job.deadline) (p.left - (p.job.bound * L + (p.job.bound - p.given))) 0

  excess_bump : (p : Share) → excess_of t L (bump p) ≤ excess_of t L p
  unfolding excess_of bump
  excess_bump p = go (leb t p.job.deadline)
    where
      go : (b : Bool) → cond b (p.left - 1 - p.job.bound * L) 0 ≤ cond b (p.left - p.job.bound * L) 0
      go true = omega arith
      go false = omega arith

  excess_less : (p : Share) → 0 < excess_of t L p → suc (excess_of t L (bump p)) ≤ excess_of t L p
  unfolding excess_of bump
  excess_less p = go (leb t p.job.deadline)
    where
      go : (b : Bool) → 0 < cond b (p.left - p.job.bound * L) 0 → suc (cond b (p.left - 1 - p.job.bound * L) 0) ≤ cond b (p.left - p.job.bound * L) 0
      go true h = omega arith
      go false h = absurd (omega arith)

  floor_bump : (p : Share) → floor (bump p) ≤ floor p
  unfolding floor bump
  floor_bump p = go (leb t p.job.deadline)
    where
      go : (b : Bool) → cond b (p.left - 1 - (p.job.bound * L + (p.job.bound - (p.given + 1)))) 0 ≤ cond b (p.left - (p.job.bound * L + (p.job.bound - p.given))) 0
      go true = omega arith
      go false = omega arith

  -- a share that does not qualify, or whose run length is at most L, is at its floor
  excess_floor : (p : Share) → (Open t p → p.left ≤ p.job.bound * L) → excess_of t L p ≤ floor p
  unfolding excess_of floor
  excess_floor p h = go (leb t p.job.deadline) refl
    where
      shut : t ≤ p.job.deadline → Dec (0 < p.left) → Dec (p.given < p.job.bound)
          → p.left - p.job.bound * L ≤ p.left - (p.job.bound * L + (p.job.bound - p.given))
      shut d (yes l) (yes g) = omega (arith, h (record { due = d; more = l; below = g }))
      shut d (yes l) (no g) = omega arith
      shut d (no l) (yes g) = omega arith
      shut d (no l) (no g) = omega arith

      go : (b : Bool) → leb t p.job.deadline ≡ b → cond b (p.left - p.job.bound * L) 0 ≤ cond b (p.left - (p.job.bound * L + (p.job.bound - p.given))) 0
      go true e = shut (leb-true t p.job.deadline e) (dec_lt 0 p.left) (dec_lt p.given p.job.bound)
      go false e = omega arith

  sum_less : (p : Share) {ps : List Share} → Memᴰ p ps → 0 < excess_of t L p → suc (total (excess_of t L) (give p.job.number ps)) ≤ total (excess_of t L) ps
  sum_less p (Memᴰ.head {x = q} {xs = qs} e) h =
      rw (eq-eqb q.job.number p.job.number (cc))
      (omega (arith, give_le (excess_of t L) excess_bump p.job.number qs, excess_less q (rw e at h)))
  sum_less p (Memᴰ.tail {x = q} {xs = qs} m) h = go (eqb q.job.number p.job.number) (sum_less p m h)
    where
      go : (b : Bool) → suc (total (excess_of t L) (give p.job.number qs)) ≤ total (excess_of t L) qs
          → suc (excess_of t L (cond b (bump q) q) + total (excess_of t L) (give p.job.number qs)) ≤ excess_of t L q + total (excess_of t L) qs
      go true h = omega (arith, excess_bump q)
      go false h = omega arith

  small_run : (p : Share) → Open t p → ¬ (0 < excess_of t L p) → run_left p ≤ L
  unfolding excess_of run_left
  small_run p o h =
      run_le p.left p.job.bound L (omega arith) (omega (arith, (rw (le-leb t p.job.deadline o.due) at h)))

  small_left : (p : Share) → Open t p → run_left p ≤ L → p.left ≤ p.job.bound * L
  unfolding run_left
  small_left p o h = le_run p.left p.job.bound L (omega arith) h

  -- one machine, with suc c still to be handed out: a bound X of the floors is kept, and the excess comes nearer to it
  hand_one : (X c : ℕ) (ps : List Share) → total floor ps ≤ X → total (excess_of t L) ps ≤ X + suc c
      → (o : Option Share) → Choice t ps o
      → (total floor (give_to o ps) ≤ X) × (total (excess_of t L) (give_to o ps) ≤ X + c)
  hand_one X c ps hf hk none ch =
      let e = total_le (excess_of t L) floor ps (All-map (λ p f. excess_floor p (λ o. absurd (f o))) ps ch) in
      (hf, omega arith)
  hand_one X c ps hf hk (some p) ch =
      (le_trans (give_le floor floor_bump p.job.number ps) hf, go (dec_lt 0 (excess_of t L p)))
    where
      go : Dec (0 < excess_of t L p) → total (excess_of t L) (give p.job.number ps) ≤ X + c
      go (yes h) = omega (arith, sum_less p ch.member h)
      go (no h) =
          let e =
          total_le (excess_of t L) floor ps
          (All-map (λ q f. excess_floor q (λ o. small_left q o (le_trans (f o).longer (small_run p ch.open' h)))) ps ch.best) in
          omega (arith, give_le (excess_of t L) excess_bump p.job.number ps)

  hand_all : (X c : ℕ) (ps : List Share)
      → total floor ps ≤ X → total (excess_of t L) ps ≤ X + c → total (excess_of t L) (hand_out c t ps) ≤ X
  hand_all X zero ps hf hk = omega arith
  hand_all X (suc c) ps hf hk =
      let o = hand_one X c ps hf hk (next t ps) (choice t ps) in
      hand_all X c (give_to (next t ps) ps) o.0 o.1

  floor_clear : (p : Share) → floor (clear p) ≡ excess_of t (suc L) p
  unfolding floor excess_of clear
  floor_clear p = go (leb t p.job.deadline)
    where
      go : (b : Bool) → cond b (p.left - (p.job.bound * L + (p.job.bound - 0))) 0 ≡ cond b (p.left - p.job.bound * suc L) 0
      go true = omega arith
      go false = refl

  excess_clear : (p : Share) → excess_of t L (clear p) ≡ excess_of t L p
  unfolding excess_of clear
  excess_clear p = refl

  pub slot_bound : (X c : ℕ) (ps : List Share) → excess t (suc L) ps ≤ X → excess t L ps ≤ X + c → excess t L (fill c t ps) ≤ X
  unfolding excess fill
  slot_bound X c ps hf hk =
      hand_all X c (map clear ps)
      (omega (arith, total_map clear floor ps, total_same (λ p. floor (clear p)) (excess_of t (suc L)) ps (All-of floor_clear ps)))
      (omega (arith, total_map clear (excess_of t L) ps, total_same (λ p. excess_of t L (clear p)) (excess_of t L) ps (All-of excess_clear ps)))

pub slot_lemma : SlotLemma
slot_lemma c t L ps = go (dec_le (excess t L ps) (excess t (suc L) ps + c))
  where
    go : Dec (excess t L ps ≤ excess t (suc L) ps + c)
        → (excess t L (fill c t ps) ≤ excess t (suc L) ps) ⊎ (excess t L (fill c t ps) + c ≤ excess t L ps)
    go (yes h) = inl (slot_bound t L (excess t (suc L) ps) c ps (omega arith) h)
    go (no h) = inr (omega (arith, slot_bound t L (excess t L ps - c) c ps (omega arith) (omega arith)))
