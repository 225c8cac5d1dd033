-- What the rule's choice is: no share qualifies, or one that does, with the greatest run length and then the smallest number.
use Prim.Native.Nat.{ℕ, suc, ◌+◌, ◌*◌, ◌-◌, ◌≤◌, ◌<◌}
use native.Mathlib.Nat.{le_refl, div-lt_iff_lt-mul}
use native.Mathlib.Decide.{dec_lt}
use native.Mathlib.Omega.{arith}
use mathlib.Core.Path.{◌≡◌, refl, sym, ◌∙◌}
use mathlib.Core.Logic.{◌⊎◌, inl, inr}
use mathlib.Core.Bool.{Bool, true, false, cond, ◌&&◌, true≢false}
use mathlib.Core.List.{List, [], ◌∷◌, Memᴰ}
use mathlib.Core.Option.{Option, some, none}
use lib.Dec.{leb, ltb, eqb}
use borrow.Author.Tests.{ltb-true, leb-true, eqb-true, lt-ltb, le-ltb, le-leb, eq-eqb}
use Rattle.model.specs.Lists.{All}
use Rattle.model.specs.Jobs.{run_length}
use Rattle.model.specs.Rule.{Share, run_left, qualifies, before, choose, next}
use Rattle.model.proofs.Lists.{All-map, and_true, or_true}

-- a share that qualifies in slot t
pub record Open (t : ℕ) (p : Share) : Type 0 where
  pub due : t ≤ p.job.deadline
  pub more : 0 < p.left
  pub below : p.given < p.job.bound

pub not_open : (t : ℕ) (p : Share) → qualifies t p ≡ false → ¬ Open t p
unfolding qualifies
not_open t p e o =
    true≢false (simp (le-leb t p.job.deadline o.due, lt-ltb 0 p.left o.more, lt-ltb p.given p.job.bound o.below) at e)

pub is_open : (t : ℕ) (p : Share) → qualifies t p ≡ true → Open t p
unfolding qualifies
is_open t p e =
    let a = and_true (leb t p.job.deadline && ltb 0 p.left) (ltb p.given p.job.bound) e in
    let b = and_true (leb t p.job.deadline) (ltb 0 p.left) a.0 in
    record { due = leb-true t p.job.deadline b.0; more = ltb-true 0 p.left b.1; below = ltb-true p.given p.job.bound a.1 }

-- p goes before q
unfoldable pub Before : Share → Share → Type 0
Before p q = (run_left q < run_left p) ⊎ ((run_left q ≡ run_left p) × (p.job.number < q.job.number))

pub goes_before : (p q : Share) → before p q ≡ true → Before p q
unfolding before Before
goes_before p q e = go (or_true (ltb (run_left q) (run_left p)) (eqb (run_left q) (run_left p) && ltb p.job.number q.job.number) e)
  where
    go : (ltb (run_left q) (run_left p) ≡ true) ⊎ ((eqb (run_left q) (run_left p) && ltb p.job.number q.job.number) ≡ true) → Before p q
    go (inl h) = inl (ltb-true (run_left q) (run_left p) h)
    go (inr h) =
        let a = and_true (eqb (run_left q) (run_left p)) (ltb p.job.number q.job.number) h in
        inr (eqb-true (run_left q) (run_left p) a.0, ltb-true p.job.number q.job.number a.1)

pub is_before : (p q : Share) → Before p q → before p q ≡ true
unfolding before Before
is_before p q (inl h) = rw (lt-ltb (run_left q) (run_left p) h)
is_before p q (inr h) =
    rw (le-ltb (run_left q) (run_left p) (omega arith), eq-eqb (run_left q) (run_left p) h.0, lt-ltb p.job.number q.job.number h.1)

pub before_trans : (p q r : Share) → Before p q → Before q r → Before p r
unfolding Before
before_trans p q r (inl a) (inl b) = inl (omega arith)
before_trans p q r (inl a) (inr b) = inl (omega arith)
before_trans p q r (inr a) (inl b) = inl (omega arith)
before_trans p q r (inr a) (inr b) = inr (omega arith)

pub before_not : (p q : Share) → Before p q → ¬ Before q p
unfolding Before
before_not p q (inl a) (inl b) = omega arith
before_not p q (inl a) (inr b) = omega arith
before_not p q (inr a) (inl b) = omega arith
before_not p q (inr a) (inr b) = omega arith

-- q does not go before p
pub record First (p q : Share) : Type 0 where
  pub longer : run_left q ≤ run_left p
  pub tie : run_left q ≡ run_left p → p.job.number ≤ q.job.number

first_of : (p q : Share) → ¬ Before q p → First p q
unfolding Before
first_of p q h = record { longer = longer (dec_lt (run_left p) (run_left q)); tie = λ e. tie e (dec_lt q.job.number p.job.number) }
  where
    longer : Dec (run_left p < run_left q) → run_left q ≤ run_left p
    longer (yes l) = absurd (h (inl l))
    longer (no l) = omega arith

    tie : run_left q ≡ run_left p → Dec (q.job.number < p.job.number) → p.job.number ≤ q.job.number
    tie e (yes l) = absurd (h (inr (sym e, l)))
    tie e (no l) = omega arith

first_self : (p : Share) → First p p
first_self p = record { longer = le_refl (run_left p); tie = λ e. le_refl p.job.number }

first_trans : (p q r : Share) → First p q → First q r → First p r
first_trans p q r a b = record { longer = omega arith; tie = λ e. tie e }
  where
    tie : run_left r ≡ run_left p → p.job.number ≤ r.job.number
    tie e = omega (arith, a.tie (omega (arith, a.longer, b.longer)), b.tie (omega (arith, a.longer, b.longer)))

first_before : (p q : Share) → before p q ≡ true → First p q
first_before p q e = first_of p q (before_not p q (goes_before p q e))

first_not : (p q : Share) → before p q ≡ false → First q p
first_not p q e = first_of q p (λ b. true≢false (sym (is_before p q b) ∙ e))

-- p is the choice among ps in slot t
pub record Chosen (t : ℕ) (ps : List Share) (p : Share) : Type 0 where
  pub member : Memᴰ p ps
  pub open' : Open t p
  pub best : All (λ q. Open t q → First p q) ps

abbrev pub Choice : ℕ → List Share → Option Share → Type 0
Choice t ps none = All (λ q. ¬ Open t q) ps
Choice t ps (some p) = Chosen t ps p

module _ (t : ℕ) (p : Share) (ps : List Share) where
  choice_both : qualifies t p ≡ true → (q : Share) → Chosen t ps q → (b : Bool) → before p q ≡ b → Chosen t (p ∷ ps) (cond b p q)
  choice_both e q c true h = record {
    member = Memᴰ.head refl;
    open' = is_open t p e;
    best = ((λ _. first_self p), All-map (λ r f o. first_trans p q r (first_before p q h) (f o)) ps c.best);
  }
  choice_both e q c false h = record { member = Memᴰ.tail c.member; open' = c.open'; best = ((λ _. first_not p q h), c.best) }

  choice_step : (b : Bool) → qualifies t p ≡ b → (o : Option Share) → Choice t ps o → Choice t (p ∷ ps) (cond b (choose p o) o)
  choice_step true e none s = record {
    member = Memᴰ.head refl;
    open' = is_open t p e;
    best = ((λ _. first_self p), All-map (λ q f o. absurd (f o)) ps s);
  }
  choice_step true e (some q) s = choice_both e q s (before p q) refl
  choice_step false e none s = (not_open t p e, s)
  choice_step false e (some q) s = record {
    member = Memᴰ.tail s.member;
    open' = s.open';
    best = ((λ o. absurd (not_open t p e o)), s.best);
  }

pub choice : (t : ℕ) (ps : List Share) → Choice t ps (next t ps)
choice t [] = tt
choice t (p ∷ ps) = choice_step t p ps (qualifies t p) refl (next t ps) (choice t ps)

-- the run length is at most L exactly if the work fits into L full slots
pub run_le : (work bound L : ℕ) → 0 < bound → work ≤ bound * L → run_length work bound ≤ L
unfolding run_length
run_le work bound L h e = omega (arith, (div-lt_iff_lt-mul {k = bound} {x = work + (bound - 1)} {y = suc L} h).1 (omega arith))

pub le_run : (work bound L : ℕ) → 0 < bound → run_length work bound ≤ L → work ≤ bound * L
unfolding run_length
le_run work bound L h e = omega (arith, (div-lt_iff_lt-mul {k = bound} {x = work + (bound - 1)} {y = suc L} h).0 (omega arith))
