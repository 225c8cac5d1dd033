-- The numbers of a list read from its bytes, and a plan's numbers written as bytes.
use Prim.Native.Nat.{ℕ, zero, suc, ◌+◌, ◌*◌, ◌/◌, ◌%◌, ◌≤◌, ◌<◌}
use native.Mathlib.Omega.{arith}
use mathlib.Core.Path.{◌≡◌, refl, sym, ◌∙◌, ap, ap₂}
use mathlib.Core.List.{List, [], ◌∷◌, ◌++◌}
use lib.ListN.{length, get_or, set, take, drop}
use lib.Seq.{length-take-le}
use borrow.Rule.Slice.PartMut.{mid_of, put_mid}
use Rattle.std.proofs.lemmas.List.{take_more, take_more_set, length-take, drop_all}
use Rattle.promise.specs.Window.{word_at, words_from, words_of, bytes_of}
use Rattle.std.proofs.Common.{add-one}
use Rattle.record.proofs.Buffers.{put_more}

words_last : (list : List ℕ) (i n last : ℕ) → i + n ≡ last → words_from list i (suc n) ≡ words_from list i n ++ (word_at list last ∷ [])
words_last list i zero last e = let f : i ≡ last = omega arith in rw f refl
words_last list i (suc n) last e = ap (λ (ws : List ℕ). word_at list i ∷ ws) (words_last list (suc i) n last (omega arith))

-- the first i + 1 numbers are the first i, then number i
pub words_next : (list : List ℕ) (i : ℕ) → words_from list 0 (i + 1) ≡ words_from list 0 i ++ (word_at list i ∷ [])
words_next list i = rw (add-one i) (words_last list 0 i i (omega arith))

-- one more number of the list is read
pub word_read : (list numbers : List ℕ) (i word : ℕ) → i < length numbers → word ≡ word_at list i → take i numbers ≡ words_from list 0 i
    → take (i + 1) (set numbers i word) ≡ words_from list 0 (i + 1)
word_read list numbers i word h e so_far =
    take_more_set numbers i word h ∙ ap₂ (λ (ws : List ℕ) (w : ℕ). ws ++ (w ∷ [])) so_far e ∙ sym (words_next list i)

-- the numbers of whole rows are all
pub rows_read : (list numbers : List ℕ) → length list % 16 ≡ 0 → take (4 * (length list / 16)) numbers ≡ words_from list 0 (4 * (length list / 16))
    → take (4 * (length list / 16)) numbers ≡ words_of list
unfolding words_of
rows_read list numbers whole read = let n : 4 * (length list / 16) ≡ length list / 4 = omega arith in read ∙ ap (words_from list 0) n

bytes-append : (ms ns : List ℕ) → bytes_of (ms ++ ns) ≡ bytes_of ms ++ bytes_of ns
bytes-append [] ns = refl
bytes-append (m ∷ ms) ns = ap (λ (l : List ℕ). m % 256 ∷ m / 256 ∷ l) (bytes-append ms ns)

pub bytes-length : (ns : List ℕ) → length (bytes_of ns) ≡ 2 * length ns
bytes-length [] = refl
bytes-length (n ∷ ns) = omega (arith, bytes-length ns)

-- number i's two bytes behind those before it
pub number_step : (numbers lent now part : List ℕ) (i k n : ℕ) → i < length numbers → 2 * length numbers ≤ length lent → k ≡ 2 → n ≡ get_or numbers i 0 → n < 65536
    → now ≡ bytes_of (take i numbers) ++ drop (2 * i) lent → part ≡ n % 256 ∷ n / 256 % 256 ∷ []
    → put_mid (2 * i) k now part ≡ bytes_of (take (i + 1) numbers) ++ drop (2 * (i + 1)) lent
number_step numbers lent now part i k n h l e ew small en ep =
    let top : n / 256 % 256 ≡ n / 256 = omega arith in
    let whole : drop 2 (mid_of (2 * i) k now) ≡ [] = drop_all 2 (mid_of (2 * i) k now) (omega (arith, length-take k (drop (2 * i) now))) in
    let row : part ≡ bytes_of (n ∷ []) ++ drop 2 (mid_of (2 * i) k now) =
    ep ∙ ap (λ (b : ℕ). n % 256 ∷ b ∷ []) top ∙ ap (λ (r : List ℕ). bytes_of (n ∷ []) ++ r) (sym whole) in
    let count : 2 * i ≡ length (bytes_of (take i numbers)) = omega (arith, bytes-length (take i numbers), length-take-le i numbers (omega arith)) in
    put_more (bytes_of (take i numbers)) (bytes_of (n ∷ [])) lent now part (2 * i) k count (omega arith) (omega arith) en row
    ∙ ap₂ (λ (s : List ℕ) (m : ℕ). s ++ drop m lent)
    (sym (bytes-append (take i numbers) (n ∷ [])) ∙ ap bytes_of (sym (take_more numbers i 0 h ∙ ap (λ (m : ℕ). take i numbers ++ m ∷ []) (sym ew)))) (omega arith)
