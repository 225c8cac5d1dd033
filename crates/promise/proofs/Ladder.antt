-- The order of refusals, for any tests: an answer made by `first` from the faults of the tests is the answer that the order gives.
use Prim.Native.Nat.{ℕ, ◌<◌}
use native.Mathlib.Omega.{arith}
use mathlib.Core.Path.{◌≡◌, refl, sym, ◌∙◌, ap}
use mathlib.Core.Logic.{◌≢◌, ◌⊎◌, inl, inr, ◌↔◌}
use mathlib.Core.Bool.{Bool, true, false, cond, not, ◌||◌}
use mathlib.Core.List.{List, [], ◌∷◌, ◌++◌}
use lib.Dec.{ltb, eqb}
use borrow.Author.Tests.{ltb-true, ltb-false, eqb-true, eqb-false, eq-eqb, ne_eqb}
use Rattle.model.specs.Lists.{All}
use Rattle.promise.specs.declared.Answer.{Answer}
use Rattle.promise.specs.Answers.{yes, fault, first}
use Rattle.promise.specs.Order.{FirstOf, GivenBy}

-- the outcome of a test tells whether P holds
pub data Tells (P : Type 0) : Bool → Type 0 where
  holds : P → Tells P true
  fails : ¬ P → Tells P false

pub tells_lt : (a b : ℕ) → Tells (a < b) (ltb a b)
tells_lt a b = go (ltb a b) refl
  where
    go : (t : Bool) → ltb a b ≡ t → Tells (a < b) t
    go true e = holds (ltb-true a b e)
    go false e = fails (omega (arith, ltb-false a b e))

pub tells_eq : (a b : ℕ) → Tells (a ≡ b) (eqb a b)
tells_eq a b = go (eqb a b) refl
  where
    go : (t : Bool) → eqb a b ≡ t → Tells (a ≡ b) t
    go true e = holds (eqb-true a b e)
    go false e = fails (eqb-false a b e)

pub tells_or : {P Q : Type 0} {s t : Bool} → Tells P s → Tells Q t → Tells (P ⊎ Q) (s || t)
tells_or (holds h) k = holds (inl h)
tells_or (fails h) (holds k) = holds (inr k)
tells_or {P} {Q} (fails h) (fails k) = fails neither
  where
    neither : P ⊎ Q → ⊥
    neither (inl p) = h p
    neither (inr q) = k q

pub tells_not : {P : Type 0} {t : Bool} → Tells P t → Tells (¬ P) (not t)
tells_not (holds h) = fails (λ n. n h)
tells_not (fails h) = holds h

pub tells_same : {P Q : Type 0} {t : Bool} → P ↔ Q → Tells P t → Tells Q t
tells_same s (holds h) = holds (s.0 h)
tells_same s (fails h) = fails (λ q. h (s.1 q))

pub same_number : {a b : Answer} → a ≡ b → a.number ≡ b.number
same_number e = ap (λ (a : Answer). a.number) e

-- no refusal of two is no refusal of the second
pub first_zero : (a b : Answer) → (first a b).number ≡ 0 → b.number ≡ 0
first_zero a b = go (eqb a.number 0) refl
  where
    go : (t : Bool) → eqb a.number 0 ≡ t → (cond t b a).number ≡ 0 → b.number ≡ 0
    go true e z = z
    go false e z = absurd (eqb-false a.number 0 e z)

-- the first of two answers: a is the first, r what comes after it
pub first_stop : (a x rest : Answer) → a ≡ x → a.number ≢ 0 → a ≡ first x rest
first_stop a x rest e h = rw (← e, ne_eqb a.number 0 h) refl

pub first_past : (a x rest r : Answer) → a ≡ x → a.number ≡ 0 → r ≡ rest → r ≡ first x rest
first_past a x rest r e z f = rw (← e, eq-eqb a.number 0 z) f

-- no refusal of two is no refusal of the first
pub first_zero_front : (a b : Answer) → (first a b).number ≡ 0 → a.number ≡ 0
first_zero_front a b = go (eqb a.number 0) refl
  where
    go : (t : Bool) → eqb a.number 0 ≡ t → (cond t b a).number ≡ 0 → a.number ≡ 0
    go true e z = eqb-true a.number 0 e
    go false e z = z

-- the same tests, the first two taken together
pub first_first : (a b c : Answer) → first (first a b) c ≡ first a (first b c)
first_first a b c = go (eqb a.number 0) refl
  where
    go : (t : Bool) → eqb a.number 0 ≡ t → cond (eqb (cond t b a).number 0) c (cond t b a) ≡ cond t (first b c) a
    go true e = refl
    go false e = rw e refl

module _ {A : Type 0} (P : A → Type 0) where
  pub All-front : (xs ys : List A) → All P (xs ++ ys) → All P xs
  All-front [] ys h = tt
  All-front (x ∷ xs) ys h = (h.0, All-front xs ys h.1)

  pub All-back : (xs ys : List A) → All P (xs ++ ys) → All P ys
  All-back [] ys h = h
  All-back (x ∷ xs) ys h = All-back xs ys h.1

module _ {A : Type 0} (Holds : A → Type 0) (answer_of : A → Answer) where
  -- a is the answer of the first test that holds, and yes if none does
  abbrev pub Ladder : List A → Answer → Type 0
  Ladder [] a = a ≡ yes
  Ladder (x ∷ xs) a = (Holds x × (a ≡ answer_of x)) ⊎ ((¬ Holds x) × Ladder xs a)

  pub one : (x : A) {t : Bool} → Tells (Holds x) t → Ladder (x ∷ []) (fault t (answer_of x))
  one x (holds h) = inl (h, refl)
  one x (fails h) = inr (h, refl)

  -- what a ladder says where no test holds, and where x is the first that does
  pub none_holds : (xs : List A) (a : Answer) → Ladder xs a → All (λ x. ¬ Holds x) xs → a ≡ yes
  none_holds [] a l n = l
  none_holds (x ∷ xs) a (inl l) n = absurd (n.0 l.0)
  none_holds (x ∷ xs) a (inr l) n = none_holds xs a l.1 n.1

  first_holds : (xs ys : List A) (x : A) (a : Answer) → Ladder (xs ++ (x ∷ ys)) a → Holds x → All (λ y. ¬ Holds y) xs → a ≡ answer_of x
  first_holds [] ys x a (inl l) h n = l.1
  first_holds [] ys x a (inr l) h n = absurd (l.0 h)
  first_holds (y ∷ xs) ys x a (inl l) h n = absurd (n.0 l.0)
  first_holds (y ∷ xs) ys x a (inr l) h n = first_holds xs ys x a l.1 h n.1

  -- a refusal is the answer of some first test
  some_first : (xs : List A) (a : Answer) → a.number ≢ 0 → Ladder xs a → (x : A) × FirstOf Holds xs x × (a ≡ answer_of x)
  some_first [] a q l = absurd (q (same_number l))
  some_first (x ∷ xs) a q (inl l) = (x, record { earlier = []; later = xs; split = refl; holds = l.0; none_earlier = tt }, l.1)
  some_first (x ∷ xs) a q (inr l) = go (some_first xs a q l.1)
    where
      go : (y : A) × FirstOf Holds xs y × (a ≡ answer_of y) → (y : A) × FirstOf Holds (x ∷ xs) y × (a ≡ answer_of y)
      go s =
          let f = s.1 in (
            s.0,
            record {
              earlier = x ∷ f.earlier;
              later = f.later;
              split = ap (λ (ys : List A). x ∷ ys) f.split;
              holds = f.holds;
              none_earlier = (l.0, f.none_earlier);
            },
            s.2,
          )

  -- below, the answer of a test that holds is a refusal
  module _ (refuses : (x : A) → Holds x → (answer_of x).number ≢ 0) where
    first_stays : (a b : Answer) → a.number ≢ 0 → first a b ≡ a
    first_stays a b q = rw (ne_eqb a.number 0 q)

    pub append : (xs ys : List A) (a b : Answer) → Ladder xs a → Ladder ys b → Ladder (xs ++ ys) (first a b)
    append [] ys a b l m = rw l m
    append (x ∷ xs) ys a b (inl l) m =
        inl (l.0, first_stays a b (λ e. refuses x l.0 (same_number (sym l.1) ∙ e)) ∙ l.1)
    append (x ∷ xs) ys a b (inr l) m = inr (l.0, append xs ys a b l.1 m)

    -- number 0 is given only where no test holds
    pub zero_none : (xs : List A) (a : Answer) → a.number ≡ 0 → Ladder xs a → All (λ x. ¬ Holds x) xs
    zero_none [] a e l = tt
    zero_none (x ∷ xs) a e (inl l) = absurd (refuses x l.0 (same_number (sym l.1) ∙ e))
    zero_none (x ∷ xs) a e (inr l) = (l.0, zero_none xs a e l.1)

    pub zero_yes : (xs : List A) (a : Answer) → a.number ≡ 0 → Ladder xs a → a ≡ yes
    zero_yes xs a e l = none_holds xs a l (zero_none xs a e l)

    pub given : (xs : List A) (a : Answer) → Ladder xs a → GivenBy Holds answer_of xs a
    given xs a l = record {
      exactly = λ q h. (forth q h, back q);
      told = told;
      otherwise = (none_holds xs a l, λ e. zero_none xs a (same_number e) l);
    }
      where
        told : (x : A) → FirstOf Holds xs x → a ≡ answer_of x
        told x f = first_holds f.earlier f.later x a (rw f.split at l) f.holds f.none_earlier

        back : (q : ℕ) → (x : A) × FirstOf Holds xs x × ((answer_of x).number ≡ q) → a.number ≡ q
        back q s = same_number (told s.0 s.1) ∙ s.2

        forth : (q : ℕ) → q ≢ 0 → a.number ≡ q → (x : A) × FirstOf Holds xs x × ((answer_of x).number ≡ q)
        forth q h e = let s = some_first xs a (λ z. h (sym e ∙ z)) l in (s.0, s.1, same_number (sym s.2) ∙ e)
