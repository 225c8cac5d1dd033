-- The admissions in force with work left, from this slot on, and what an entry in the ledger makes of them.
use Prim.Native.Nat.{ℕ, ◌+◌, ◌-◌, ◌<◌}
use native.Mathlib.Omega.{arith}
use mathlib.Core.Path.{◌≡◌, refl, sym, ap, ap₂}
use mathlib.Core.Logic.{◌≢◌}
use mathlib.Core.Bool.{Bool, true, false, cond}
use mathlib.Core.List.{List, [], ◌∷◌, map, Memᴰ}
use lib.Dec.{ltb, eqb}
use borrow.Author.Tests.{ltb-true, ltb-false, le-leb, lt-leb, eqb-false}
use Rattle.model.specs.Lists.{All, Distinct}
use Rattle.model.specs.Jobs.{Job}
use Rattle.model.specs.Schedules.{less_first, after_first}
use Rattle.model.proofs.Lists.{All-map, All-both, All-under, All-over, map_map}
use Rattle.promise.specs.declared.Given.{Given}
use Rattle.promise.specs.History.{Promised, Ledger, answered_for, credited, off, remaining, unfinished}
use Rattle.promise.proofs.AnyOrder.{others}

unfoldable pub owed : Ledger → List Job
owed l = unfinished l.clock l.in_force

abbrev pub numbers_of : List Promised → List ℕ
numbers_of ps = map (λ p. p.job.number) ps

-- what holds of each job owed holds of each admission with work left
pub unfinished_all : (P : Job → Type 0) (clock : ℕ) (ps : List Promised) → All P (unfinished clock ps)
    → All (λ p. p.had < p.job.work → P (remaining clock p)) ps
unfinished_all P clock [] h = tt
unfinished_all P clock (p ∷ ps) h = go (ltb p.had p.job.work) refl (unfinished_all P clock ps) h
  where
    Each : List Promised → Type 0
    Each qs = All (λ q. q.had < q.job.work → P (remaining clock q)) qs

    go : (t : Bool) → ltb p.had p.job.work ≡ t → (All P (unfinished clock ps) → Each ps)
        → All P (cond t (remaining clock p ∷ unfinished clock ps) (unfinished clock ps)) → Each (p ∷ ps)
    go true e i h = ((λ l. h.0), i h.1)
    go false e i h = ((λ l. absurd (omega (arith, ltb-false p.had p.job.work e))), i h)

-- and back
pub all_unfinished : (P : Job → Type 0) (clock : ℕ) (ps : List Promised) → All (λ p. p.had < p.job.work → P (remaining clock p)) ps
    → All P (unfinished clock ps)
all_unfinished P clock [] h = tt
all_unfinished P clock (p ∷ ps) h = go (ltb p.had p.job.work) refl (all_unfinished P clock ps h.1)
  where
    go : (t : Bool) → ltb p.had p.job.work ≡ t → All P (unfinished clock ps)
        → All P (cond t (remaining clock p ∷ unfinished clock ps) (unfinished clock ps))
    go true e i = (h.0 (ltb-true p.had p.job.work e), i)
    go false e i = i

-- the admission that a job is owed by
pub owed_by : (clock : ℕ) (j : Job) (ps : List Promised) → Memᴰ j (unfinished clock ps)
    → (p : Promised) × Memᴰ p ps × (p.had < p.job.work) × (j ≡ remaining clock p)
owed_by clock j [] m = elim m [ ]
owed_by clock j (p ∷ ps) m = go (ltb p.had p.job.work) refl (owed_by clock j ps) m
  where
    Found : List Promised → Type 0
    Found qs = (q : Promised) × Memᴰ q qs × (q.had < q.job.work) × (j ≡ remaining clock q)

    more : Found ps → Found (p ∷ ps)
    more f = (f.0, Memᴰ.tail f.1, f.2, f.3)

    go : (t : Bool) → ltb p.had p.job.work ≡ t → (Memᴰ j (unfinished clock ps) → Found ps)
        → Memᴰ j (cond t (remaining clock p ∷ unfinished clock ps) (unfinished clock ps)) → Found (p ∷ ps)
    go true e i (Memᴰ.head q) = (p, Memᴰ.head refl, ltb-true p.had p.job.work e, q)
    go true e i (Memᴰ.tail m) = more (i m)
    go false e i m = more (i m)

-- a number taken off the ledger
pub off_all : (P : Promised → Type 0) (n : ℕ) (ps : List Promised) → All P ps → All P (off n ps)
off_all P n [] h = tt
off_all P n (p ∷ ps) h = go (eqb p.job.number n) (off_all P n ps h.1)
  where
    go : (t : Bool) → All P (off n ps) → All P (cond t (off n ps) (p ∷ off n ps))
    go true i = i
    go false i = (h.0, i)

pub off_gone : (n : ℕ) (ps : List Promised) → All (λ m. n ≢ m) (numbers_of (off n ps))
off_gone n [] = tt
off_gone n (p ∷ ps) = go (eqb p.job.number n) refl (off_gone n ps)
  where
    go : (t : Bool) → eqb p.job.number n ≡ t → All (λ m. n ≢ m) (numbers_of (off n ps))
        → All (λ m. n ≢ m) (numbers_of (cond t (off n ps) (p ∷ off n ps)))
    go true e i = i
    go false e i = ((λ q. eqb-false p.job.number n e (sym q)), i)

pub off_distinct : (n : ℕ) (ps : List Promised) → Distinct (numbers_of ps) → Distinct (numbers_of (off n ps))
off_distinct n [] d = tt
off_distinct n (p ∷ ps) d = go (eqb p.job.number n) (off_distinct n ps d.1)
  where
    number : Promised → ℕ
    number q = q.job.number

    apart : All (λ m. p.job.number ≢ m) (numbers_of (off n ps))
    apart =
        All-under number (λ m. p.job.number ≢ m) (off n ps)
        (off_all (λ q. p.job.number ≢ q.job.number) n ps (All-over number (λ m. p.job.number ≢ m) ps d.0))

    go : (t : Bool) → Distinct (numbers_of (off n ps)) → Distinct (numbers_of (cond t (off n ps) (p ∷ off n ps)))
    go true i = i
    go false i = (apart, i)

pub off_others : (clock n : ℕ) (ps : List Promised) → unfinished clock (off n ps) ≡ others n (unfinished clock ps)
unfolding remaining
off_others clock n [] = refl
off_others clock n (p ∷ ps) = go (eqb p.job.number n) (ltb p.had p.job.work) refl refl (off_others clock n ps)
  where
    go : (s t : Bool) → eqb p.job.number n ≡ s → ltb p.had p.job.work ≡ t → unfinished clock (off n ps) ≡ others n (unfinished clock ps)
        → unfinished clock (cond s (off n ps) (p ∷ off n ps)) ≡ others n (cond t (remaining clock p ∷ unfinished clock ps) (unfinished clock ps))
    go true true e f i = rw e i
    go true false e f i = i
    go false true e f i = rw (e, f) (ap (λ (js : List Job). remaining clock p ∷ js) i)
    go false false e f i = rw f i

-- a slot entered
pub credited_numbers : (given : List Given) (ps : List Promised) → numbers_of (map (credited given) ps) ≡ numbers_of ps
unfolding credited
credited_numbers given ps = map_map (credited given) (λ p. p.job.number) ps

pub credited_first : (clock : ℕ) (given : List Given) (ps : List Promised)
    → unfinished (clock + 1) (map (credited given) ps) ≡ after_first (λ n. answered_for n given) (unfinished clock ps)
unfolding credited remaining less_first
credited_first clock given [] = refl
credited_first clock given (p ∷ ps) =
    go (ltb p.had p.job.work) (ltb (p.had + c) p.job.work) refl refl (credited_first clock given ps)
  where
    c : ℕ
    c = answered_for p.job.number given

    column : ℕ → ℕ
    column n = answered_for n given

    nearer : remaining (clock + 1) (credited given p) ≡ less_first (remaining clock p) c
    nearer =
        ap₂ (λ (w d : ℕ). record { number = p.job.number; work = w; deadline = d; bound = p.job.bound }) (omega arith) (omega arith)

    go : (s t : Bool) → ltb p.had p.job.work ≡ s → ltb (p.had + c) p.job.work ≡ t
        → unfinished (clock + 1) (map (credited given) ps) ≡ after_first column (unfinished clock ps)
        → cond t (remaining (clock + 1) (credited given p) ∷ unfinished (clock + 1) (map (credited given) ps)) (unfinished (clock + 1) (map (credited given) ps))
        ≡ after_first column (cond s (remaining clock p ∷ unfinished clock ps) (unfinished clock ps))
    go true true e f i = rw (lt-leb (p.job.work - p.had) c (omega (arith, ltb-true (p.had + c) p.job.work f))) (ap₂ ◌∷◌ nearer i)
    go true false e f i = rw (le-leb (p.job.work - p.had) c (omega (arith, ltb-false (p.had + c) p.job.work f))) i
    go false true e f i = absurd (omega (arith, ltb-false p.had p.job.work e, ltb-true (p.had + c) p.job.work f))
    go false false e f i = i

-- where no number stands twice, a member is known by its number
pub by_number : {A : Type 0} (f : A → ℕ) (xs : List A) → Distinct (map f xs) → All (λ x. All (λ y. f y ≡ f x → y ≡ x) xs) xs
by_number f [] d = tt
by_number {A = A} f (x ∷ xs) d = (((λ e. refl), All-map head xs apart), All-both tail xs apart (by_number f xs d.1))
  where
    apart : All (λ y. f x ≢ f y) xs
    apart = All-over f (λ m. f x ≢ m) xs d.0

    head : (y : A) → f x ≢ f y → f y ≡ f x → y ≡ x
    head y m e = absurd (m (sym e))

    tail : (y : A) → f x ≢ f y → All (λ z. f z ≡ f y → z ≡ y) xs → All (λ z. f z ≡ f y → z ≡ y) (x ∷ xs)
    tail y m i = ((λ e. absurd (m e)), i)
