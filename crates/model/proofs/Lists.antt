-- Laws of sums, of `All` and of permutations, over any list, and of `&&` and `||`.
use Prim.Native.Nat.{ℕ, zero, suc, ◌+◌, ◌≤◌, ◌<◌}
use native.Mathlib.Decide.{ℕ_discrete}
use native.Mathlib.Omega.{arith}
use mathlib.Core.Path.{◌≡◌, refl, sym, ◌∙◌, ap, ap₂, subst}
use mathlib.Core.Logic.{◌≢◌, ◌⊎◌, inl, inr}
use mathlib.Core.Bool.{Bool, true, false, ◌&&◌, ◌||◌, true≢false}
use mathlib.Core.List.{List, [], ◌∷◌, map, Memᴰ}
use Rattle.model.specs.Lists.{total, All, Distinct, Perm, done, keep, swap, then, upto}

module _ {A : Type 0} where
  pub total_add : (f g : A → ℕ) (xs : List A) → total (λ x. f x + g x) xs ≡ total f xs + total g xs
  total_add f g [] = refl
  total_add f g (x ∷ xs) = omega (arith, total_add f g xs)

  pub total_zero : (xs : List A) → total (λ x. 0) xs ≡ 0
  total_zero [] = refl
  total_zero (x ∷ xs) = omega (arith, total_zero xs)

  pub total_le : (f g : A → ℕ) (xs : List A) → All (λ x. f x ≤ g x) xs → total f xs ≤ total g xs
  total_le f g [] h = omega arith
  total_le f g (x ∷ xs) h = omega (arith, h.0, total_le f g xs h.1)

  pub total_same : (f g : A → ℕ) (xs : List A) → All (λ x. f x ≡ g x) xs → total f xs ≡ total g xs
  total_same f g [] h = refl
  total_same f g (x ∷ xs) h = omega (arith, h.0, total_same f g xs h.1)

  pub total_perm : (f : A → ℕ) {xs ys : List A} → Perm xs ys → total f xs ≡ total f ys
  total_perm f done = refl
  total_perm f (keep x p) = omega (arith, total_perm f p)
  total_perm f (swap x y xs) = omega arith
  total_perm f (then p q) = total_perm f p ∙ total_perm f q

  pub All-map : {P Q : A → Type 0} → ((x : A) → P x → Q x) → (xs : List A) → All P xs → All Q xs
  All-map f [] h = tt
  All-map f (x ∷ xs) h = (f x h.0, All-map f xs h.1)

  pub All-both : {P Q R : A → Type 0} → ((x : A) → P x → Q x → R x) → (xs : List A) → All P xs → All Q xs → All R xs
  All-both f [] h k = tt
  All-both f (x ∷ xs) h k = (f x h.0 k.0, All-both f xs h.1 k.1)

  pub All-of : {P : A → Type 0} → ((x : A) → P x) → (xs : List A) → All P xs
  All-of f [] = tt
  All-of f (x ∷ xs) = (f x, All-of f xs)

  pub All-mem : {P : A → Type 0} (xs : List A) → ((x : A) → Memᴰ x xs → P x) → All P xs
  All-mem [] f = tt
  All-mem (x ∷ xs) f = (f x (Memᴰ.head refl), All-mem xs (λ y m. f y (Memᴰ.tail m)))

  pub All-at : (P : A → Type 0) (x : A) {xs : List A} → All P xs → Memᴰ x xs → P x
  All-at P x h (Memᴰ.head e) = subst P (sym e) h.0
  All-at P x h (Memᴰ.tail m) = All-at P x h.1 m

  -- each value is at most their sum
  pub le_sum : (f : A → ℕ) (m : ℕ) (xs : List A) → All (λ x. f x ≤ m + total f xs) xs
  le_sum f m [] = tt
  le_sum f m (x ∷ xs) =
      (omega arith, All-map (λ y (e : f y ≤ m + f x + total f xs). omega arith) xs (le_sum f (m + f x) xs))

  pub perm_all : (P : A → Type 0) {xs ys : List A} → Perm xs ys → All P xs → All P ys
  perm_all P done h = h
  perm_all P (keep x p) h = (h.0, perm_all P p h.1)
  perm_all P (swap x y xs) h = (h.1.0, (h.0, h.1.1))
  perm_all P (then p q) h = perm_all P q (perm_all P p h)

  pub perm_mem : (x : A) {xs ys : List A} → Perm xs ys → Memᴰ x xs → Memᴰ x ys
  perm_mem x done m = m
  perm_mem x (keep y p) (Memᴰ.head e) = Memᴰ.head e
  perm_mem x (keep y p) (Memᴰ.tail m) = Memᴰ.tail (perm_mem x p m)
  perm_mem x (swap y z xs) (Memᴰ.head e) = Memᴰ.tail (Memᴰ.head e)
  perm_mem x (swap y z xs) (Memᴰ.tail (Memᴰ.head e)) = Memᴰ.head e
  perm_mem x (swap y z xs) (Memᴰ.tail (Memᴰ.tail m)) = Memᴰ.tail (Memᴰ.tail m)
  perm_mem x (then p q) m = perm_mem x q (perm_mem x p m)

  pub perm_back : {xs ys : List A} → Perm xs ys → Perm ys xs
  perm_back done = done
  perm_back (keep x p) = keep x (perm_back p)
  perm_back (swap x y xs) = swap y x xs
  perm_back (then p q) = then (perm_back q) (perm_back p)

module _ {A B : Type 0} where
  pub total_map : (f : A → B) (g : B → ℕ) (xs : List A) → total g (map f xs) ≡ total (λ x. g (f x)) xs
  total_map f g [] = refl
  total_map f g (x ∷ xs) = omega (arith, total_map f g xs)

  pub All-under : (f : A → B) (P : B → Type 0) (xs : List A) → All (λ x. P (f x)) xs → All P (map f xs)
  All-under f P [] h = tt
  All-under f P (x ∷ xs) h = (h.0, All-under f P xs h.1)

  pub All-over : (f : A → B) (P : B → Type 0) (xs : List A) → All P (map f xs) → All (λ x. P (f x)) xs
  All-over f P [] h = tt
  All-over f P (x ∷ xs) h = (h.0, All-over f P xs h.1)

  pub map_same : (f g : A → B) (xs : List A) → All (λ x. f x ≡ g x) xs → map f xs ≡ map g xs
  map_same f g [] h = refl
  map_same f g (x ∷ xs) h = ap₂ ◌∷◌ h.0 (map_same f g xs h.1)

  pub mem_map : (f : A → B) (x : A) {xs : List A} → Memᴰ x xs → Memᴰ (f x) (map f xs)
  mem_map f x (Memᴰ.head e) = Memᴰ.head (ap f e)
  mem_map f x (Memᴰ.tail m) = Memᴰ.tail (mem_map f x m)

  pub perm_map : (f : A → B) {xs ys : List A} → Perm xs ys → Perm (map f xs) (map f ys)
  perm_map f done = done
  perm_map f (keep x p) = keep (f x) (perm_map f p)
  perm_map f (swap x y xs) = swap (f x) (f y) (map f xs)
  perm_map f (then p q) = then (perm_map f p) (perm_map f q)

pub map_map : {A B D : Type 0} (f : A → B) (g : B → D) (xs : List A) → map g (map f xs) ≡ map (λ x. g (f x)) xs
map_map f g [] = refl
map_map f g (x ∷ xs) = ap₂ ◌∷◌ refl (map_map f g xs)

pub perm_distinct : {ns ms : List ℕ} → Perm ns ms → Distinct ns → Distinct ms
perm_distinct done d = d
perm_distinct (keep n p) d = (perm_all (λ m. n ≢ m) p d.0, perm_distinct p d.1)
perm_distinct (swap n m ns) d = (((λ e. d.0.0 (sym e)), d.1.0), (d.0.1, d.1.1))
perm_distinct (then p q) d = perm_distinct q (perm_distinct p d)

-- sums over slots
pub upto_same : (f g : ℕ → ℕ) (m : ℕ) → ((s : ℕ) → 1 ≤ s → s ≤ m → f s ≡ g s) → upto f m ≡ upto g m
upto_same f g zero h = refl
upto_same f g (suc m) h = omega (arith, upto_same f g m (λ s l k. h s l (omega arith)), h (suc m) (omega arith) (omega arith))

-- past its last slot a sum stands still
pub upto_stop : (y : ℕ → ℕ) (d m : ℕ) → ((s : ℕ) → d < s → y s ≡ 0) → d ≤ m → upto y m ≡ upto y d
upto_stop y d zero h l = let e : d ≡ 0 = omega arith in rw e
upto_stop y d (suc m) h l = go (ℕ_discrete d (suc m)) (upto_stop y d m h)
  where
    go : Dec (d ≡ suc m) → (d ≤ m → upto y m ≡ upto y d) → upto y m + y (suc m) ≡ upto y d
    go (yes e) i = rw e
    go (no n) i = omega (arith, i (omega arith), h (suc m) (omega arith))

pub and_true : (a b : Bool) → a && b ≡ true → (a ≡ true) × (b ≡ true)
and_true true b e = (refl, e)
and_true false b e = absurd (true≢false (sym e))

pub or_true : (a b : Bool) → a || b ≡ true → (a ≡ true) ⊎ (b ≡ true)
or_true true b e = inl refl
or_true false b e = inr e
