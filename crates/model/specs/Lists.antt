-- Sums, a statement of each member, lists with the same members: what the other files are written with.
use Rattle.std.specs.Prelude.{ℕ, zero, suc, ◌+◌, ◌<◌, ◌≢◌, List, [], ◌∷◌}

module _ {A : Type 0} where
  -- the sum of f over a list
  abbrev pub total : (A → ℕ) → List A → ℕ
  total f [] = 0
  total f (x ∷ xs) = f x + total f xs

  -- P holds of each member of a list
  abbrev pub All : (A → Type 0) → List A → Type 0
  All P [] = Unit
  All P (x ∷ xs) = P x × All P xs

  -- two lists with the same members, in any order
  pub data Perm : List A → List A → Type 0 where
    done : Perm [] []
    keep : (x : A) {xs ys : List A} → Perm xs ys → Perm (x ∷ xs) (x ∷ ys)
    swap : (x y : A) (xs : List A) → Perm (x ∷ y ∷ xs) (y ∷ x ∷ xs)
    then : {xs ys zs : List A} → Perm xs ys → Perm ys zs → Perm xs zs

-- no number stands twice in a list
abbrev pub Distinct : List ℕ → Type 0
Distinct [] = Unit
Distinct (n ∷ ns) = All (λ m. n ≢ m) ns × Distinct ns

-- each number of a list is below all that follow it
abbrev pub Rising : List ℕ → Type 0
Rising [] = Unit
Rising (n ∷ ns) = All (λ m. n < m) ns × Rising ns

-- y 1 + y 2 + .. + y n
abbrev pub upto : (ℕ → ℕ) → ℕ → ℕ
upto y zero = 0
upto y (suc n) = upto y n + y (suc n)

-- the n numbers y t, y (t + 1), ..
abbrev pub span : ℕ → ℕ → (ℕ → ℕ) → List ℕ
span t zero y = []
span t (suc n) y = y t ∷ span (suc t) n y
