-- The texts of numbers, refusals and slots, piece by piece.
use Rattle.std.proofs.Common.{◌≡◌, ℕ, zero, suc, ◌+◌, ◌-◌, ◌*◌, ◌/◌, ◌%◌, ◌^◌, ◌≤◌, ◌<◌, Bool, true, false, cond, List, [], ◌∷◌, ◌++◌, length, get_or, refl, sym, ◌∙◌, ap, append_assoc, length-append, arith, drop, drop-cons, add-one, drop_of_length-le, ◌||◌}
use Rattle.promise.specs.Texts.{ascii, digits_from, decimal}
use Rattle.promise.specs.PlanText.{pair_text, pairs_from, each_after_comma, with_commas, run_line}
use Rattle.writer.specs.Writing.{digit_at, slot_text, slots_text}
use lib.Dec.{ltb}

-- the places from 10 ^ suc k down: its digit, then the places below it
digits_split : (k n : ℕ) → digits_from (suc k) n ≡ digit_at n (10 ^ suc k) ++ digits_from k n
unfolding digit_at
digits_split k n = go (ltb n (10 ^ suc k))
  where
    go : (t : Bool) → cond t (digits_from k n) ((48 + n / 10 ^ suc k % 10) ∷ digits_from k n)
        ≡ cond t [] ((48 + n / 10 ^ suc k % 10) ∷ []) ++ digits_from k n
    go true = refl
    go false = refl

-- a number without its first i places
unfoldable pub places_from : ℕ → ℕ → List ℕ
places_from i n = digits_from (6 - i) n

pub all_places : (n : ℕ) → places_from 0 n ≡ decimal n
unfolding places_from decimal
all_places n = refl

pub next_place : (i n : ℕ) → i < 6
    → places_from i n ≡ digit_at n (get_or (1000000 ∷ 100000 ∷ 10000 ∷ 1000 ∷ 100 ∷ 10 ∷ []) i 0) ++ places_from (i + 1) n
unfolding places_from
next_place zero n l = digits_split 5 n
next_place (suc zero) n l = digits_split 4 n
next_place (suc (suc zero)) n l = digits_split 3 n
next_place (suc (suc (suc zero))) n l = digits_split 2 n
next_place (suc (suc (suc (suc zero)))) n l = digits_split 1 n
next_place (suc (suc (suc (suc (suc zero))))) n l = digits_split 0 n
next_place (suc (suc (suc (suc (suc (suc i)))))) n l = absurd (omega arith)

pub last_place : (i n : ℕ) → 6 ≤ i → places_from i n ≡ (48 + n % 10) ∷ []
unfolding places_from
last_place i n l = let e : 6 - i ≡ 0 = omega arith in rw e refl

pub ruleset number_laws = (all_places, next_place, last_place, append_assoc, length-append)

-- the slots of a run line, from slot i + 1 on
pub next_slot : (comma : Bool) (ms : List ℕ) (i : ℕ) → i < length ms
    → slots_text comma (i + 1) (drop i ms)
    ≡ slot_text comma (i + 1) (get_or ms i 0) ++ slots_text (comma || ltb 0 (get_or ms i 0)) (i + 1 + 1) (drop (i + 1) ms)
next_slot comma ms i l = rw (drop-cons ms i 0 l, add-one i, add-one (suc i)) refl

pub last_slot : (comma : Bool) (ms : List ℕ) (i : ℕ) → length ms ≤ i → slots_text comma (i + 1) (drop i ms) ≡ []
last_slot comma ms i l = rw drop_of_length-le refl

pub ruleset slot_laws = (next_slot, last_slot, append_assoc, length-append)

slots_after : (t : ℕ) (ms : List ℕ) → slots_text true t ms ≡ each_after_comma (pairs_from t ms)
unfolding slot_text
slots_after t [] = refl
slots_after t (m ∷ ms) = go (ltb 0 m) (slots_after (suc t) ms)
  where
    go : (comma : Bool) → slots_text true (suc t) ms ≡ each_after_comma (pairs_from (suc t) ms)
        → cond comma (ascii "," ++ pair_text t m) [] ++ slots_text true (suc t) ms
        ≡ each_after_comma (cond comma (pair_text t m ∷ pairs_from (suc t) ms) (pairs_from (suc t) ms))
    go true e = ap (λ (more : List ℕ). ascii "," ++ (pair_text t m ++ more)) e
    go false e = e

slots_first : (t : ℕ) (ms : List ℕ) → slots_text false t ms ≡ with_commas (pairs_from t ms)
unfolding slot_text
slots_first t [] = refl
slots_first t (m ∷ ms) = go (ltb 0 m) (slots_after (suc t) ms) (slots_first (suc t) ms)
  where
    go : (comma : Bool) → slots_text true (suc t) ms ≡ each_after_comma (pairs_from (suc t) ms)
        → slots_text false (suc t) ms ≡ with_commas (pairs_from (suc t) ms)
        → cond comma (pair_text t m) [] ++ slots_text comma (suc t) ms
        ≡ with_commas (cond comma (pair_text t m ∷ pairs_from (suc t) ms) (pairs_from (suc t) ms))
    go true e f = ap (λ (more : List ℕ). pair_text t m ++ more) e
    go false e f = f

pub run_slots : (ms : List ℕ) → run_line ms ≡ ascii "run=" ++ slots_text false 1 ms
unfolding run_line
run_slots ms = ap (λ (pairs : List ℕ). ascii "run=" ++ pairs) (sym (slots_first 1 ms))

pub ruleset run_laws = (run_slots, append_assoc, length-append)
