-- Numbers written behind those that a buffer begins with, one row after the other.
use Prim.Native.Nat.{ℕ, ◌+◌, ◌*◌, ◌/◌, ◌%◌, ◌≤◌, ◌<◌}
use native.Mathlib.Omega.{arith}
use mathlib.Core.Path.{◌≡◌, refl, sym, ◌∙◌, ap, ap₂}
use mathlib.Core.List.{List, [], ◌∷◌, ◌++◌, map, flatten, append-nil, append_assoc}
use lib.ListN.{length, get_or, take, drop, length-append, length-drop}
use lib.Seq.{length-take-le, drop_at}
use borrow.Rule.Slice.PartMut.{mid_of, put_mid}
use Rattle.std.proofs.lemmas.List.{take_at, take_all, take_more, length-take, take-append-drop, drop-append-le, drop-drop, drop_all, map_more}
use Rattle.promise.specs.Window.{sent}
use Rattle.promise.specs.declared.Held.{Held}
use Rattle.promise.specs.declared.Desk.{Desk}
use Rattle.promise.specs.DeskWindow.{seat_numbers, desk_numbers, desk_bytes, sent_over}
use Rattle.promise.proofs.Words.{sent_length}
use Rattle.promise.proofs.DeskRecord.{each_length}

sent-append : (ms ns : List ℕ) → sent (ms ++ ns) ≡ sent ms ++ sent ns
sent-append [] ns = refl
sent-append (m ∷ ms) ns = ap (λ (l : List ℕ). m % 256 ∷ m / 256 % 256 ∷ m / 65536 % 256 ∷ m / 16777216 ∷ l) (sent-append ms ns)

-- what is left of a part, and what lies behind the part
drop-rest : (b k : ℕ) (rest : List ℕ) → b ≤ k → k ≤ length rest → drop b (take k rest) ++ drop k rest ≡ drop b rest
drop-rest b k rest h l =
    sym (drop-append-le b (take k rest) (drop k rest) (omega (arith, length-take-le k rest l))) ∙ ap (drop b) (take-append-drop k rest)

-- a row at the start of the part behind what stands in front
pub put_more : (front row lent now part : List ℕ) (a k : ℕ) → a ≡ length front → length row ≤ k → a + k ≤ length lent → now ≡ front ++ drop a lent
    → part ≡ row ++ drop (length row) (mid_of a k now) → put_mid a k now part ≡ (front ++ row) ++ drop (a + length row) lent
put_more front row lent now part a k e h l en ep =
    let b = length row in
    let rest = drop a lent in
    let begins : take a now ≡ front = ap (take a) en ∙ take_at front rest a (sym e) in
    let behind : drop a now ≡ rest = ap (drop a) en ∙ drop_at front rest a (sym e) in
    let room : k ≤ length rest = omega (arith, length-drop a lent) in
    ap₂ ◌++◌ begins
    (ap₂ ◌++◌ (ep ∙ ap (λ (r : List ℕ). row ++ drop b (take k r)) behind) (ap (drop k) behind) ∙ append_assoc row _ _
    ∙ ap (λ (r : List ℕ). row ++ r) (drop-rest b k rest h room ∙ drop-drop b a lent))
    ∙ sym (append_assoc front row _)

-- the same of numbers that were sent
pub over_more : (ns row lent now part : List ℕ) (a k : ℕ) → a ≡ 4 * length ns → 4 * length row ≤ k → a + k ≤ length lent → now ≡ sent_over ns lent
    → part ≡ sent_over row (mid_of a k now) → put_mid a k now part ≡ sent_over (ns ++ row) lent
over_more ns row lent now part a k e h l en ep =
    let bytes : length (sent row) ≡ 4 * length row = sent_length row in
    let last : a + length (sent row) ≡ 4 * length (ns ++ row) = omega (arith, length-append ns row) in
    put_more (sent ns) (sent row) lent now part a k (e ∙ sym (sent_length ns)) (omega arith) l
    (en ∙ ap (λ (n : ℕ). sent ns ++ drop n lent) (sym e))
    (ep ∙ ap (λ (n : ℕ). sent row ++ drop n (mid_of a k now)) (sym bytes))
    ∙ ap₂ (λ (s : List ℕ) (n : ℕ). s ++ drop n lent) (sym (sent-append ns row)) last

pub no_rows : flatten {A = ℕ} [] ≡ []
unfolding flatten
no_rows = refl

flatten-append : {A : Type 0} (xss yss : List (List A)) → flatten (xss ++ yss) ≡ flatten xss ++ flatten yss
unfolding flatten
flatten-append [] yss = refl
flatten-append (xs ∷ xss) yss = ap (λ l. xs ++ l) (flatten-append xss yss) ∙ sym (append_assoc xs _ _)

-- element i's row, of w numbers, behind those before it
pub row_step : {A : Type 0} (numbers : A → List ℕ) (w : ℕ) (wide : (x : A) → length (numbers x) ≡ w) (before : List ℕ) (xs : List A) (lent now part : List ℕ)
    (i a k : ℕ) (d : A) → i < length xs → a ≡ 4 * (length before + w * i) → 4 * w ≤ k → a + k ≤ length lent
    → now ≡ sent_over (before ++ flatten (map numbers (take i xs))) lent → part ≡ sent_over (numbers (get_or xs i d)) (mid_of a k now)
    → put_mid a k now part ≡ sent_over (before ++ flatten (map numbers (take (i + 1) xs))) lent
unfolding flatten
row_step numbers w wide before xs lent now part i a k d h ea hk l en ep =
    let done = flatten (map numbers (take i xs)) in
    let row = numbers (get_or xs i d) in
    let count : length (flatten (map numbers (take i xs))) ≡ w * i =
    each_length numbers w wide (take i xs) ∙ ap (λ (n : ℕ). w * n) (length-take-le i xs (omega arith)) in
    let all : flatten (map numbers (take (i + 1) xs)) ≡ done ++ row =
    ap flatten (map_more numbers xs i d h) ∙ flatten-append (map numbers (take i xs)) (row ∷ []) ∙ ap (λ r. done ++ r) (append-nil row) in
    over_more (before ++ done) row lent now part a k (omega (arith, length-append before (flatten (map numbers (take i xs))))) (omega (arith, wide (get_or xs i d))) l en ep
    ∙ ap (λ (ns : List ℕ). sent_over ns lent) (append_assoc before done row ∙ ap (λ (ns : List ℕ). before ++ ns) (sym all))

-- number i's four bytes behind those before it
pub word_step : (words lent now part : List ℕ) (i k n : ℕ) → i < length words → 4 * length words ≤ length lent → k ≡ 4 → n ≡ get_or words i 0 → n < 4294967296
    → now ≡ sent_over (take i words) lent → part ≡ n % 256 ∷ n / 256 % 256 ∷ n / 65536 % 256 ∷ n / 16777216 % 256 ∷ []
    → put_mid (4 * i) k now part ≡ sent_over (take (i + 1) words) lent
word_step words lent now part i k n h l e ew small en ep =
    let top : n / 16777216 % 256 ≡ n / 16777216 = omega arith in
    let whole : drop 4 (mid_of (4 * i) k now) ≡ [] = drop_all 4 (mid_of (4 * i) k now) (omega (arith, length-take k (drop (4 * i) now))) in
    let row : part ≡ sent_over (n ∷ []) (mid_of (4 * i) k now) =
    ep ∙ ap (λ (b : ℕ). n % 256 ∷ n / 256 % 256 ∷ n / 65536 % 256 ∷ b ∷ []) top ∙ ap (λ (r : List ℕ). sent (n ∷ []) ++ r) (sym whole) in
    over_more (take i words) (n ∷ []) lent now part (4 * i) k (omega (arith, length-take-le i words (omega arith))) (omega arith) (omega arith) en row
    ∙ ap (λ (ns : List ℕ). sent_over ns lent) (sym (take_more words i 0 h ∙ ap (λ (m : ℕ). take i words ++ m ∷ []) (sym ew)))

-- the last seat is written
pub desk_end : (desk : Desk) (lent out : List ℕ) (i : ℕ) → length desk.seats ≡ 32 → length lent ≡ 776 → 32 ≤ i
    → out ≡ sent_over (desk.machines ∷ desk.clock ∷ flatten (map seat_numbers (take i desk.seats))) lent → out ≡ desk_bytes desk
unfolding desk_bytes desk_numbers
desk_end desk lent out i e l h eo =
    let all = desk_numbers desk in
    let none : drop (4 * length (desk_numbers desk)) lent ≡ [] =
    drop_all (4 * length (desk_numbers desk)) lent (omega (arith, each_length seat_numbers 6 (λ s. refl) desk.seats)) in
    eo ∙ ap (λ (seats : List Held). sent_over (desk.machines ∷ desk.clock ∷ flatten (map seat_numbers seats)) lent) (take_all i desk.seats (omega arith))
    ∙ ap (λ (rest : List ℕ). sent all ++ rest) none ∙ append-nil (sent all)
