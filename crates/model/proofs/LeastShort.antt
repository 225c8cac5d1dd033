-- M5: the list of boundaries, and the least short one.
use Prim.Native.Nat.{ℕ, ◌<◌}
use native.Mathlib.Omega.{arith}
use mathlib.Core.Path.{◌≡◌, refl, sym, ◌∙◌, ap}
use mathlib.Core.Logic.{◌≢◌, inl, inr, ◌↔◌}
use mathlib.Core.Bool.{Bool, true, false, cond}
use mathlib.Core.List.{List, [], ◌∷◌, Memᴰ}
use mathlib.Core.Option.{Option, some, none, or_else}
use lib.Dec.{ltb, eqb}
use lib.IntN.{pos, neg_ℤ}
use lib.Signed.{lt_z, ◌<ℤ◌, ◌≤ℤ◌, clash_ℤ}
use borrow.Author.Tests.{ltb-true, ltb-false, eqb-true, eqb-false}
use Rattle.model.specs.Lists.{All, Rising}
use Rattle.model.specs.Jobs.{Job, room}
use Rattle.model.specs.Boundaries.{Boundary, RoomEverywhere, enter, boundaries, shortage, Short, short_at, first_short, least_short, LeastShort}
use Rattle.model.specs.Claims.{BoundariesAreListed, LeastShortIsNamed, NoneShortIsNamed}
use Rattle.model.proofs.Lists.{All-map, All-at}
use Rattle.model.proofs.Signed.{short_true, short_false, shortage_neg}

-- all above a, with d above a
enter_all : (P : ℕ → Type 0) (d : ℕ) (bs : List ℕ) → P d → All P bs → All P (enter d bs)
enter_all P d [] p h = (p, tt)
enter_all P d (b ∷ bs) p h = go (ltb d b) (eqb d b) (enter_all P d bs p h.1)
  where
    go : (x y : Bool) → All P (enter d bs) → All P (cond x (d ∷ b ∷ bs) (cond y (b ∷ bs) (b ∷ enter d bs)))
    go true y i = (p, h)
    go false true i = h
    go false false i = (h.0, i)

-- what is listed is a boundary
Boundary-more : (i : Job) (jobs : List Job) (b : ℕ) → Boundary jobs b → Boundary (i ∷ jobs) b
Boundary-more i jobs b (inl e) = inl e
Boundary-more i jobs b (inr j) = inr (j.0, Memᴰ.tail j.1, j.2)

pub listed_boundaries : (jobs : List Job) → All (Boundary jobs) (boundaries jobs)
listed_boundaries [] = (inl refl, tt)
listed_boundaries (j ∷ jobs) =
    enter_all (Boundary (j ∷ jobs)) j.deadline (boundaries jobs) (inr (j, Memᴰ.head refl, refl))
    (All-map (Boundary-more j jobs) (boundaries jobs) (listed_boundaries jobs))

enter_rising : (d : ℕ) (bs : List ℕ) → Rising bs → Rising (enter d bs)
enter_rising d [] r = (tt, tt)
enter_rising d (b ∷ bs) r = go (ltb d b) refl (eqb d b) refl (enter_rising d bs r.1)
  where
    go : (x : Bool) → ltb d b ≡ x → (y : Bool) → eqb d b ≡ y → Rising (enter d bs)
        → Rising (cond x (d ∷ b ∷ bs) (cond y (b ∷ bs) (b ∷ enter d bs)))
    go true e y f i = let l = ltb-true d b e in ((l, All-map (λ c (h : b < c). omega arith) bs r.0), r)
    go false e true f i = r
    go false e false f i =
        let n : d ≢ b = eqb-false d b f in
        (enter_all (λ c. b < c) d bs (omega (arith, ltb-false d b e)) r.0, i)

pub boundaries_rise : (jobs : List Job) → Rising (boundaries jobs)
boundaries_rise [] = (tt, tt)
boundaries_rise (j ∷ jobs) = enter_rising j.deadline (boundaries jobs) (boundaries_rise jobs)

enter_new : (d : ℕ) (bs : List ℕ) → Memᴰ d (enter d bs)
enter_new d [] = Memᴰ.head refl
enter_new d (b ∷ bs) = go (ltb d b) (eqb d b) refl (enter_new d bs)
  where
    go : (x y : Bool) → eqb d b ≡ y → Memᴰ d (enter d bs) → Memᴰ d (cond x (d ∷ b ∷ bs) (cond y (b ∷ bs) (b ∷ enter d bs)))
    go true y e m = Memᴰ.head refl
    go false true e m = Memᴰ.head (eqb-true d b e)
    go false false e m = Memᴰ.tail m

enter_old : (d c : ℕ) {bs : List ℕ} → Memᴰ c bs → Memᴰ c (enter d bs)
enter_old d c (Memᴰ.head {x = b} {xs = bs} q) = go (ltb d b) (eqb d b)
  where
    go : (x y : Bool) → Memᴰ c (cond x (d ∷ b ∷ bs) (cond y (b ∷ bs) (b ∷ enter d bs)))
    go true y = Memᴰ.tail (Memᴰ.head q)
    go false true = Memᴰ.head q
    go false false = Memᴰ.head q
enter_old d c (Memᴰ.tail {x = b} {xs = bs} m) = go (ltb d b) (eqb d b) (enter_old d c m)
  where
    go : (x y : Bool) → Memᴰ c (enter d bs) → Memᴰ c (cond x (d ∷ b ∷ bs) (cond y (b ∷ bs) (b ∷ enter d bs)))
    go true y i = Memᴰ.tail (Memᴰ.tail m)
    go false true i = Memᴰ.tail m
    go false false i = Memᴰ.tail i

pub deadline_listed : (j : Job) {jobs : List Job} → Memᴰ j jobs → Memᴰ j.deadline (boundaries jobs)
deadline_listed j (Memᴰ.head {x = i} {xs = js} e) = rw e (enter_new i.deadline (boundaries js))
deadline_listed j (Memᴰ.tail {x = i} m) = enter_old i.deadline j.deadline (deadline_listed j m)

pub zero_listed : (jobs : List Job) → Memᴰ 0 (boundaries jobs)
zero_listed [] = Memᴰ.head refl
zero_listed (j ∷ jobs) = enter_old j.deadline 0 (zero_listed jobs)

pub boundary_listed : (jobs : List Job) (b : ℕ) → Boundary jobs b → Memᴰ b (boundaries jobs)
boundary_listed jobs b (inl e) = rw e (zero_listed jobs)
boundary_listed jobs b (inr j) = rw j.2 at (deadline_listed j.0 j.1)

pub boundaries_are_listed : BoundariesAreListed
boundaries_are_listed jobs =
    (boundaries_rise jobs, λ b. ((λ m. All-at (Boundary jobs) b (listed_boundaries jobs) m), boundary_listed jobs b))

module _ (C : ℕ) (jobs : List Job) where
  -- s is the first short one of some rising boundaries
  record First (bs : List ℕ) (s : Short) : Type 0 where
    listed : Memᴰ s.place bs
    short : room C jobs s.place <ℤ pos 0
    amount : pos s.amount ≡ neg_ℤ (room C jobs s.place)
    least : All (λ b. b < s.place → pos 0 ≤ℤ room C jobs b) bs

  abbrev Found : List ℕ → Option Short → Type 0
  Found bs none = All (λ b. pos 0 ≤ℤ room C jobs b) bs
  Found bs (some s) = First bs s

  found_step : (b : ℕ) (bs : List ℕ) → All (λ c. b < c) bs → (o : Option Short) → Found bs o
      → (x : Bool) → lt_z (room C jobs b) (pos 0) ≡ x
      → Found (b ∷ bs) (or_else (cond x (some (record { place = b; amount = shortage (room C jobs b) })) none) o)
  unfolding or_else
  found_step b bs h o f true e = record {
    listed = Memᴰ.head refl;
    short = short_true (room C jobs b) e;
    amount = shortage_neg (room C jobs b) (short_true (room C jobs b) e);
    least = ((λ l. absurd (omega arith)), All-map later bs h);
  }
    where
      later : (c : ℕ) → b < c → c < b → pos 0 ≤ℤ room C jobs c
      later c k l = absurd (omega arith)
  found_step b bs h none f false e = (short_false (room C jobs b) e, f)
  found_step b bs h (some s) f false e = record {
    listed = Memᴰ.tail f.listed;
    short = f.short;
    amount = f.amount;
    least = ((λ l. short_false (room C jobs b) e), f.least);
  }

  found : (bs : List ℕ) → Rising bs → Found bs (first_short C jobs bs)
  unfolding short_at
  found [] r = tt
  found (b ∷ bs) r = found_step b bs r.0 (first_short C jobs bs) (found bs r.1) (lt_z (room C jobs b) (pos 0)) refl

  least_of : (s : Short) → First (boundaries jobs) s → LeastShort C jobs s
  least_of s f = record {
    boundary = All-at (Boundary jobs) s.place (listed_boundaries jobs) f.listed;
    short = f.short;
    amount = f.amount;
    least = λ b h l. All-at (λ c. c < s.place → pos 0 ≤ℤ room C jobs c) b f.least (boundary_listed jobs b h) l;
  }

  room_of : Found (boundaries jobs) none → RoomEverywhere C jobs
  room_of f b h = All-at (λ c. pos 0 ≤ℤ room C jobs c) b f (boundary_listed jobs b h)

-- two that are least are the same
module _ (C : ℕ) (jobs : List Job) where
  same_amount : (a b : ℕ) → pos a ≡ pos b → a ≡ b
  same_amount a b e = cc

  least_unique : (s r : Short) → LeastShort C jobs s → LeastShort C jobs r → s ≡ r
  least_unique s r f g = λ i. record { place = place i; amount = amount i }
    where
      not_below : (s r : Short) → LeastShort C jobs s → LeastShort C jobs r → ¬ (s.place < r.place)
      not_below s r f g l = clash_ℤ f.short (g.least s.place f.boundary l)

      place : s.place ≡ r.place
      place = omega (arith, not_below s r f g, not_below r s g f)

      amount : s.amount ≡ r.amount
      amount = same_amount s.amount r.amount (f.amount ∙ ap (λ (b : ℕ). neg_ℤ (room C jobs b)) place ∙ sym g.amount)

pub least_short_is_named : LeastShortIsNamed
unfolding least_short
least_short_is_named C jobs s = go (first_short C jobs (boundaries jobs)) (found C jobs (boundaries jobs) (boundaries_rise jobs))
  where
    go : (o : Option Short) → Found C jobs (boundaries jobs) o → (o ≡ some s) ↔ LeastShort C jobs s
    go none f = ((λ e. absurd (let z : ◌≡◌ {A = ℕ} 0 1 = cc in omega arith)), λ l. clash_ℤ l.short (room_of C jobs f s.place l.boundary))
    go (some r) f =
        let l = least_of C jobs r f in
        ((λ (e : some r ≡ some s). let p : r ≡ s = cc in rw p at l), λ m. ap some (least_unique C jobs r s l m))

pub none_short_is_named : NoneShortIsNamed
unfolding least_short
none_short_is_named C jobs = go (first_short C jobs (boundaries jobs)) (found C jobs (boundaries jobs) (boundaries_rise jobs))
  where
    go : (o : Option Short) → Found C jobs (boundaries jobs) o → (o ≡ none) ↔ RoomEverywhere C jobs
    go none f = ((λ e. room_of C jobs f), λ h. refl)
    go (some r) f =
        let l = least_of C jobs r f in
        ((λ (e : some r ≡ none). absurd (let z : ◌≡◌ {A = ℕ} 0 1 = cc in omega arith)), λ h. clash_ℤ l.short (h r.place l.boundary))
