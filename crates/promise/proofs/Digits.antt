-- Numbers and their digits: what is printed is read back, and what is read is what would be printed.
use Prim.Native.Nat.{ℕ, zero, suc, ◌+◌, ◌*◌, ◌-◌, ◌/◌, ◌%◌, ◌^◌, ◌≤◌, ◌<◌}
use native.Mathlib.Nat.{pow-succ', one-le-pow, pow-le-pow_right, mod-lt, mod-eq_of_lt, mul-le-mul_right, le-div_iff_mul-le, div-lt_iff_lt-mul}
use native.Mathlib.Decide.{dec_lt}
use native.Mathlib.Omega.{arith}
use mathlib.Core.Path.{◌≡◌, refl, sym, ◌∙◌, ap, ap₂}
use mathlib.Core.Logic.{◌≢◌}
use mathlib.Core.Bool.{Bool, true, false, cond, true≢false}
use mathlib.Core.List.{List, [], ◌∷◌}
use mathlib.Core.Option.{some, none, none-ne-some, some-injective}
use lib.ListN.{length, get_or}
use lib.Arith.{digits_lt, digits_div, mod-mul}
use borrow.Author.Tests.{lt-ltb, le-ltb}
use Rattle.model.specs.Lists.{All}
use Rattle.promise.proofs.TextTests.{number_told, told_number}
use Rattle.promise.specs.Texts.{digits_from, decimal, NumberText, is_number, value_from, read_number}
use Rattle.promise.specs.TextClaims.{NumbersAreReadBack, NumbersArePrintedBack}

-- a byte that is a digit
abbrev pub Digit : ℕ → Type 0
Digit b = (48 ≤ b) × (b ≤ 57)

-- the last k + 1 digits of a number, zeros in front not left out
abbrev full : ℕ → ℕ → List ℕ
full zero n = (48 + n % 10) ∷ []
full (suc k) n = (48 + n / 10 ^ suc k % 10) ∷ full k n

ten_pos : (k : ℕ) → 0 < 10 ^ k
ten_pos k = one-le-pow k 10 (omega arith)

ten_rises : (j k : ℕ) → j ≤ k → 10 ^ j ≤ 10 ^ k
ten_rises j k h = pow-le-pow_right (omega arith) h

-- with no zero in front nothing is left out
digits_full : (k n : ℕ) → (1 ≤ k → 10 ^ k ≤ n) → digits_from k n ≡ full k n
digits_full zero n h = refl
digits_full (suc k) n h =
    let l : 10 ^ suc k ≤ n = h (omega arith) in
    rw (le-ltb n (10 ^ suc k) l) (ap (λ (t : List ℕ). (48 + n / 10 ^ suc k % 10) ∷ t) (digits_full k n (λ o. omega (arith, ten_rises k (suc k) (omega arith)))))

-- what is left out are the zeros in front
record Shape (k n : ℕ) (bytes : List ℕ) : Type 0 where
  last : ℕ
  within : last ≤ k
  same : bytes ≡ full last n
  least : 1 ≤ last → 10 ^ last ≤ n
  most : n < 10 ^ suc k → n < 10 ^ suc last

shape : (k n : ℕ) → Shape k n (digits_from k n)
shape zero n = record { last = 0; within = omega arith; same = refl; least = λ o. omega arith; most = λ l. l }
shape (suc k) n = go (dec_lt n (10 ^ suc k)) (shape k n)
  where
    go : Dec (n < 10 ^ suc k) → Shape k n (digits_from k n) → Shape (suc k) n (digits_from (suc k) n)
    go (yes l) s = record {
      last = s.last;
      within = omega arith;
      same = rw (lt-ltb n (10 ^ suc k) l) s.same;
      least = s.least;
      most = λ m. s.most l;
    }
    go (no l) s = record {
      last = suc k;
      within = omega arith;
      same = digits_full (suc k) n (λ o. omega arith);
      least = λ o. omega arith;
      most = λ m. m;
    }

full_length : (k n : ℕ) → length (full k n) ≡ suc k
full_length zero n = refl
full_length (suc k) n = ap suc (full_length k n)

digit : (d : ℕ) → Digit (48 + d % 10)
digit d = omega (arith, mod-lt d {m = 10} (omega arith))

full_digits : (k n : ℕ) → All Digit (full k n)
full_digits zero n = (digit n, tt)
full_digits (suc k) n = (digit (n / 10 ^ suc k), full_digits k n)

-- one digit d more in front, where the digits after it have the weight c and the value r
weigh : (v d c r : ℕ) → (10 * v + d) * c + r ≡ v * (10 * c) + (d * c + r)
weigh v d c r = omega arith

value_full : (k v n : ℕ) → value_from v (full k n) ≡ v * 10 ^ suc k + n % 10 ^ suc k
value_full zero v n = omega arith
value_full (suc k) v n =
    let c = 10 ^ suc k in
    let d : 48 + n / c % 10 - 48 ≡ n / c % 10 = omega arith in
    rw (pow-succ' 10 (suc k), mod-mul n {m = 10} {c = c} (omega arith) (ten_pos (suc k)))
    (ap (λ (x : ℕ). value_from (10 * v + x) (full k n)) d ∙ value_full k (10 * v + n / c % 10) n ∙ weigh v (n / c % 10) c (n % c))

-- what stands in front counts ten times as much for each digit
value_front : (v : ℕ) (bytes : List ℕ) → value_from v bytes ≡ v * 10 ^ length bytes + value_from 0 bytes
value_front v [] = omega arith
value_front v (b ∷ bytes) =
    let d = b - 48 in
    rw (pow-succ' 10 (length bytes), value_front (10 * v + d) bytes, value_front (0 + d) bytes) (omega arith)

-- digits are worth less than one more digit
value_below : (bytes : List ℕ) → All Digit bytes → value_from 0 bytes < 10 ^ length bytes
value_below [] h = omega arith
value_below (b ∷ bytes) h =
    let d : 0 + (b - 48) < 10 = omega (arith, h.0) in
    rw (value_front (0 + (b - 48)) bytes, pow-succ' 10 (length bytes)) (digits_lt d (value_below bytes h.1))

-- what stands in front, taken off again
value_over : (v k : ℕ) (bytes : List ℕ) → length bytes ≡ k → All Digit bytes → value_from v bytes / 10 ^ k ≡ v
value_over v k bytes e h = rw (← e, value_front v bytes) (digits_div v (value_below bytes h))

last_digit : (v b : ℕ) → Digit b → 48 + (10 * v + (b - 48)) % 10 ≡ b
last_digit v b h = omega arith

-- the digits of what digits are worth are these digits, whatever stands in front of them
full_value : (bytes : List ℕ) (k v : ℕ) → length bytes ≡ suc k → All Digit bytes → full k (value_from v bytes) ≡ bytes
full_value [] k v e h = absurd (omega arith)
full_value (b ∷ []) zero v e h = ap₂ ◌∷◌ (last_digit v b h.0) refl
full_value (b ∷ []) (suc k) v e h = absurd (omega arith)
full_value (b ∷ c ∷ bytes) zero v e h = absurd (omega arith)
full_value (b ∷ c ∷ bytes) (suc k) v e h =
    let w = 10 * v + (b - 48) in
    let l : length (c ∷ bytes) ≡ suc k = omega arith in
    ap₂ ◌∷◌ (ap (λ (x : ℕ). 48 + x % 10) (value_over w (suc k) (c ∷ bytes) l h.1) ∙ last_digit v b h.0) (full_value (c ∷ bytes) k w l h.1)

-- the first digit of a number with no zero in front
first_digit : (k n : ℕ) → 10 ^ k ≤ n → n < 10 ^ suc k → get_or (full k n) 0 0 ≢ 48
first_digit zero n l m e = omega arith
first_digit (suc k) n l m e =
    let c = 10 ^ suc k in
    let least : 1 ≤ n / c = (le-div_iff_mul-le {k = c} {x = 1} {y = n} (ten_pos (suc k))).1 (omega arith) in
    let most : n / c < 10 = (div-lt_iff_lt-mul {k = c} {x = n} {y = 10} (ten_pos (suc k))).1 (omega (arith, pow-succ' 10 (suc k))) in
    let d : n / c % 10 ≡ n / c = mod-eq_of_lt most in
    omega arith

-- and of digits whose first is not 0
value_least : (b : ℕ) (bytes : List ℕ) → All Digit (b ∷ bytes) → b ≢ 48 → 10 ^ length bytes ≤ value_from 0 (b ∷ bytes)
value_least b bytes h n =
    let d : 1 ≤ 0 + (b - 48) = omega (arith, h.0) in
    omega (arith, value_front (0 + (b - 48)) bytes, mul-le-mul_right (10 ^ length bytes) d)

decimal_shape : (n : ℕ) → Shape 6 n (decimal n)
unfolding decimal
decimal_shape n = shape 6 n

decimal_length : (n : ℕ) → length (decimal n) ≡ suc (decimal_shape n).last
decimal_length n = ap length (decimal_shape n).same ∙ full_length (decimal_shape n).last n

pub decimal_digits : (n : ℕ) → (1 ≤ length (decimal n)) × (length (decimal n) ≤ 7) × All (λ b. (48 ≤ b) × (b ≤ 57)) (decimal n)
decimal_digits n =
    let s = decimal_shape n in
    let l = decimal_length n in
    (omega arith, omega arith, rw s.same (full_digits s.last n))

decimal_at_most : (n k : ℕ) → 1 ≤ k → n < 10 ^ k → length (decimal n) ≤ k
decimal_at_most n k o l = go (dec_lt (decimal_shape n).last k)
  where
    go : Dec ((decimal_shape n).last < k) → length (decimal n) ≤ k
    go (yes m) = omega (arith, decimal_length n)
    go (no m) = let s = decimal_shape n in absurd (omega (arith, ten_rises k s.last (omega arith), s.least (omega arith)))

pub decimal_short : (n : ℕ) → (n < 100 → length (decimal n) ≤ 2) × (n < 1000 → length (decimal n) ≤ 3)
decimal_short n = ((λ l. decimal_at_most n 2 (omega arith) l), λ l. decimal_at_most n 3 (omega arith) l)

-- the printed digits of a number that has k + 1 of them
decimal_full : (k n : ℕ) → k ≤ 6 → (1 ≤ k → 10 ^ k ≤ n) → n < 10 ^ suc k → decimal n ≡ full k n
decimal_full k n l least most = (decimal_shape n).same ∙ ap (λ (j : ℕ). full j n) (go (dec_lt s.last k) (dec_lt k s.last))
  where
    s : Shape 6 n (decimal n)
    s = decimal_shape n

    go : Dec (s.last < k) → Dec (k < s.last) → s.last ≡ k
    go (yes a) b =
        let m : n < 10 ^ suc s.last = s.most (omega (arith, ten_rises (suc k) 7 (omega arith))) in
        absurd (omega (arith, ten_rises (suc s.last) k (omega arith), least (omega arith)))
    go (no a) (yes b) = absurd (omega (arith, ten_rises (suc k) s.last (omega arith), s.least (omega arith)))
    go (no a) (no b) = omega arith

printed_text : (n : ℕ) → n < 10000000 → NumberText (decimal n)
printed_text n l = record {
  least = (decimal_digits n).0;
  most = (decimal_digits n).1;
  digits = (decimal_digits n).2;
  leading = λ e. go (dec_lt 0 (decimal_shape n).last) e;
}
  where
    go : Dec (0 < (decimal_shape n).last) → get_or (decimal n) 0 0 ≡ 48 → length (decimal n) ≡ 1
    go (yes o) e =
        let s = decimal_shape n in
        absurd (first_digit s.last n (s.least o) (s.most l) (rw s.same at e))
    go (no o) e = omega (arith, decimal_length n)

printed_value : (n : ℕ) → n < 10000000 → value_from 0 (decimal n) ≡ n
printed_value n l =
    let s = decimal_shape n in
    let m : n % 10 ^ suc s.last ≡ n = mod-eq_of_lt (s.most l) in
    ap (value_from 0) s.same ∙ value_full s.last 0 n ∙ omega arith

pub numbers_are_read_back : NumbersAreReadBack
unfolding read_number
numbers_are_read_back n l =
    let t = printed_text n l in
    (t, rw (told_number (decimal n) t) (ap some (printed_value n l)))

-- what digits that are a number are worth
value_printed : (bytes : List ℕ) → NumberText bytes → (value_from 0 bytes < 10000000) × (decimal (value_from 0 bytes) ≡ bytes)
value_printed [] h = absurd (omega (arith, h.least))
value_printed (b ∷ bytes) h =
    let k = length bytes in
    let n = value_from 0 (b ∷ bytes) in
    let most : n < 10 ^ suc k = value_below (b ∷ bytes) h.digits in
    let l : k ≤ 6 = omega (arith, h.most) in
    let least : 1 ≤ k → 10 ^ k ≤ n = λ o. value_least b bytes h.digits (λ e. omega (arith, h.leading e)) in
    (omega (arith, ten_rises (suc k) 7 (omega arith)), decimal_full k n l least most ∙ full_value (b ∷ bytes) k 0 refl h.digits)

pub numbers_are_printed_back : NumbersArePrintedBack
unfolding read_number
numbers_are_printed_back bytes = go (is_number bytes) refl
  where
    go : (t : Bool) → is_number bytes ≡ t
        → ((n : ℕ) → cond t (some (value_from 0 bytes)) none ≡ some n → NumberText bytes × (n < 10000000) × (decimal n ≡ bytes))
        × (cond t (some (value_from 0 bytes)) none ≡ none → ¬ NumberText bytes)
    go true e =
        let h = number_told bytes e in
        let p = value_printed bytes h in
        ((λ n q. let v : value_from 0 bytes ≡ n = some-injective (value_from 0 bytes) n q in rw (← v) (h, p.0, p.1)), λ q k. none-ne-some (value_from 0 bytes) (sym q))
    go false e = ((λ n q. absurd (none-ne-some n q)), λ q h. true≢false (sym (told_number bytes h) ∙ e))
