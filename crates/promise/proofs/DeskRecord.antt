-- A desk's record is read as it was written, and written as it was read.
use Prim.Native.Nat.{ℕ, zero, suc, ◌+◌, ◌*◌, ◌/◌, ◌%◌, ◌<◌}
use native.Mathlib.Omega.{arith}
use mathlib.Core.Path.{◌≡◌, refl, sym, ◌∙◌, ap, ap₂}
use mathlib.Core.List.{List, [], ◌∷◌, ◌++◌, map, flatten}
use lib.ListN.{length, get_or, drop, length-map, get_or-append, get_or-map}
use lib.Seq.{drop-cons, drop-length}
use Rattle.model.specs.Lists.{All}
use Rattle.model.proofs.Lists.{All-of, All-under}
use Rattle.promise.specs.declared.Held.{Held}
use Rattle.promise.specs.declared.Desk.{Desk}
use Rattle.promise.specs.Desk.{unused}
use Rattle.promise.specs.Claims.{four_from}
use Rattle.promise.specs.Window.{word_at, words_from, sent}
use Rattle.promise.specs.DeskClaims.{Has32Seats}
use Rattle.promise.specs.DeskWindow.{seat_numbers, desk_numbers, desk_bytes, seat_at, seats_from, desk_read}
use Rattle.promise.specs.DeskWindowClaims.{RecordsAreReadBack, RecordsAreLaidOut, RecordsAreWrittenBack}
use Rattle.promise.proofs.Words.{sent_length, word_on, words_on, first_word, bytes_sent}
use Rattle.promise.proofs.Buffer.{flat_length, flat_at}

-- ---- numbers that were sent

pub word_sent : (ns : List ℕ) (i : ℕ) → word_at (sent ns) i ≡ get_or ns i 0
unfolding word_at
word_sent [] i = omega arith
word_sent (n ∷ ns) zero = first_word n ns
word_sent (n ∷ ns) (suc i) = word_on (n % 256) (n / 256 % 256) (n / 65536 % 256) (n / 16777216) (sent ns) i ∙ word_sent ns i

-- whatever stands after them
pub word_front : (ns rest : List ℕ) (i : ℕ) → i < length ns → word_at (sent ns ++ rest) i ≡ get_or ns i 0
unfolding word_at
word_front ns rest i h =
    let same = get_or-append (sent ns) rest 0 in
    let l = sent_length ns in
    omega (arith, same (4 * i) (omega arith), same (4 * i + 1) (omega arith), same (4 * i + 2) (omega arith), same (4 * i + 3) (omega arith), word_sent ns i)

-- rows of w numbers each: the number at place s of row i
module _ {A : Type 0} (numbers : A → List ℕ) (w : ℕ) (wide : (a : A) → length (numbers a) ≡ w) (xs : List A) where
  all_wide : All (λ r. length r ≡ w) (map numbers xs)
  all_wide = All-under numbers (λ r. length r ≡ w) xs (All-of wide xs)

  pub each_length : length (flatten (map numbers xs)) ≡ w * length xs
  each_length = flat_length w (map numbers xs) all_wide ∙ ap (λ (n : ℕ). w * n) (length-map xs numbers)

  pub each_at : (i s : ℕ) (d : A) → i < length xs → s < w → get_or (flatten (map numbers xs)) (w * i + s) 0 ≡ get_or (numbers (get_or xs i d)) s 0
  each_at i s d l k =
      flat_at w (map numbers xs) all_wide i s (numbers d) (omega (arith, length-map xs numbers)) k
      ∙ ap (λ (r : List ℕ). get_or r s 0) (get_or-map numbers xs i d)

-- ---- read as it was written

module _ (machines clock : ℕ) (seats : List Held) where
  written : List ℕ
  written = sent (machines ∷ clock ∷ flatten (map seat_numbers seats))

  field_read : (i s p : ℕ) → i < length seats → s < 6 → p ≡ suc (suc (6 * i + s)) → word_at written p ≡ get_or (seat_numbers (get_or seats i unused)) s 0
  unfolding written
  field_read i s p l k e =
      word_sent (machines ∷ clock ∷ flatten (map seat_numbers seats)) p
      ∙ ap (λ (m : ℕ). get_or (machines ∷ clock ∷ flatten (map seat_numbers seats)) m 0) e
      ∙ each_at seat_numbers 6 (λ h. refl) seats i s unused l k

  seat_read : (i : ℕ) → i < length seats → seat_at written i ≡ get_or seats i unused
  unfolding seat_at
  seat_read i l = λ t. record {
    number = field_read i 0 (6 * i + 2) l (omega arith) (omega arith) t;
    work = field_read i 1 (6 * i + 3) l (omega arith) (omega arith) t;
    left = field_read i 2 (6 * i + 4) l (omega arith) (omega arith) t;
    deadline = field_read i 3 (6 * i + 5) l (omega arith) (omega arith) t;
    bound = field_read i 4 (6 * i + 6) l (omega arith) (omega arith) t;
    slots = field_read i 5 (6 * i + 7) l (omega arith) (omega arith) t;
  }

  seats_read : (i n : ℕ) → i + n ≡ length seats → seats_from written i n ≡ drop i seats
  seats_read i zero e = let l : i ≡ length seats = omega arith in sym (rw l (drop-length seats))
  seats_read i (suc n) e =
      ap₂ ◌∷◌ (seat_read i (omega arith)) (seats_read (suc i) n (omega arith)) ∙ sym (drop-cons seats i unused (omega arith))

desk_read_lem : (desk : Desk) → Has32Seats desk → desk_read (desk_bytes desk) ≡ desk
unfolding desk_read desk_bytes desk_numbers written
desk_read_lem desk e = λ t. record {
  machines = word_sent (desk_numbers desk) 0 t;
  clock = word_sent (desk_numbers desk) 1 t;
  seats = (seats_read desk.machines desk.clock desk.seats 0 32 (omega arith) ∙ drop_zero desk.seats) t;
}
  where
    drop_zero : (hs : List Held) → drop 0 hs ≡ hs
    drop_zero [] = refl
    drop_zero (h ∷ hs) = refl

pub record_length : (desk : Desk) → Has32Seats desk → length (desk_bytes desk) ≡ 776
unfolding desk_bytes desk_numbers
record_length desk e = omega (arith, sent_length (desk_numbers desk), each_length seat_numbers 6 (λ h. refl) desk.seats)

pub records_are_read_back : RecordsAreReadBack
unfolding desk_bytes
records_are_read_back desk e = (desk_read_lem desk e, record_length desk e, bytes_sent (desk_numbers desk))

-- ---- where its numbers stand

-- number k stands in the four bytes from 4 × k on
four_at : (bytes : List ℕ) (k m : ℕ) → 4 * k ≡ m → four_from bytes m ≡ word_at bytes k
unfolding word_at
four_at bytes k m e = ap (four_from bytes) (sym e)

seats_at : (bytes : List ℕ) (a n i : ℕ) (none : Held) → i < n → get_or (seats_from bytes a n) i none ≡ seat_at bytes (a + i)
seats_at bytes a zero i none l = absurd (omega arith)
seats_at bytes a (suc n) zero none l = let e : a ≡ a + 0 = omega arith in ap (seat_at bytes) e
seats_at bytes a (suc n) (suc i) none l =
    let e : suc a + i ≡ a + suc i = omega arith in seats_at bytes (suc a) n i none (omega arith) ∙ ap (seat_at bytes) e

pub records_are_laid_out : RecordsAreLaidOut
unfolding desk_read seat_at
records_are_laid_out desk s = (
  four_at bytes 0 0 refl ∙ ap (λ (d : Desk). d.machines) same,
  four_at bytes 1 4 refl ∙ ap (λ (d : Desk). d.clock) same,
  λ i none l. let h = seat i none l in record {
    number = four_at bytes (6 * i + 2) (24 * i + 8) (omega arith) ∙ ap (λ (h : Held). h.number) h;
    work = four_at bytes (6 * i + 3) (24 * i + 12) (omega arith) ∙ ap (λ (h : Held). h.work) h;
    left = four_at bytes (6 * i + 4) (24 * i + 16) (omega arith) ∙ ap (λ (h : Held). h.left) h;
    deadline = four_at bytes (6 * i + 5) (24 * i + 20) (omega arith) ∙ ap (λ (h : Held). h.deadline) h;
    bound = four_at bytes (6 * i + 6) (24 * i + 24) (omega arith) ∙ ap (λ (h : Held). h.bound) h;
    slots = four_at bytes (6 * i + 7) (24 * i + 28) (omega arith) ∙ ap (λ (h : Held). h.slots) h;
  },
)
  where
    bytes : List ℕ
    bytes = desk_bytes desk

    same : desk_read bytes ≡ desk
    same = (records_are_read_back desk s).0

    seat : (i : ℕ) (none : Held) → i < 32 → seat_at bytes i ≡ get_or desk.seats i none
    seat i none l =
        let e : i ≡ 0 + i = omega arith in
        ap (seat_at bytes) e ∙ sym (seats_at bytes 0 32 i none l) ∙ ap (λ (d : Desk). get_or d.seats i none) same

-- ---- written as it was read

-- the four bytes of their own number
four_back : (a b c d w : ℕ) (ns ms : List ℕ) → a < 256 → b < 256 → c < 256 → d < 256 → w ≡ a + 256 * b + 65536 * c + 16777216 * d → ns ≡ ms
    → w % 256 ∷ w / 256 % 256 ∷ w / 65536 % 256 ∷ w / 16777216 ∷ ns ≡ a ∷ b ∷ c ∷ d ∷ ms
four_back a b c d w ns ms ha hb hc hd e f = ap₂ ◌∷◌ (omega arith) (ap₂ ◌∷◌ (omega arith) (ap₂ ◌∷◌ (omega arith) (ap₂ ◌∷◌ (omega arith) f)))

sent_back : (bytes : List ℕ) (n : ℕ) → length bytes ≡ 4 * n → All (λ b. b < 256) bytes → sent (words_from bytes 0 n) ≡ bytes
unfolding word_at
sent_back [] zero e h = refl
sent_back [] (suc n) e h = absurd (omega arith)
sent_back (a ∷ []) n e h = absurd (omega arith)
sent_back (a ∷ b ∷ []) n e h = absurd (omega arith)
sent_back (a ∷ b ∷ c ∷ []) n e h = absurd (omega arith)
sent_back (a ∷ b ∷ c ∷ d ∷ bytes) zero e h = absurd (omega arith)
sent_back (a ∷ b ∷ c ∷ d ∷ bytes) (suc n) e h =
    four_back a b c d _ _ bytes h.0 h.1.0 h.1.1.0 h.1.1.1.0 refl
    (ap sent (words_on a b c d bytes 0 n) ∙ sent_back bytes n (omega arith) h.1.1.1.1)

-- the seats, number by number
seats_words : (bytes : List ℕ) (i n : ℕ) → flatten (map seat_numbers (seats_from bytes i n)) ≡ words_from bytes (6 * i + 2) (6 * n)
unfolding flatten seat_at
seats_words bytes i zero = refl
seats_words bytes i (suc n) =
    let six : 6 * suc n ≡ suc (suc (suc (suc (suc (suc (6 * n)))))) = omega arith in
    let at : (k l : ℕ) → k ≡ l → word_at bytes k ≡ word_at bytes l = λ k l. ap (word_at bytes) in
    rw six
    (ap₂ ◌∷◌ refl
    (ap₂ ◌∷◌ (at (6 * i + 3) _ (omega arith))
    (ap₂ ◌∷◌ (at (6 * i + 4) _ (omega arith))
    (ap₂ ◌∷◌ (at (6 * i + 5) _ (omega arith))
    (ap₂ ◌∷◌ (at (6 * i + 6) _ (omega arith))
    (ap₂ ◌∷◌ (at (6 * i + 7) _ (omega arith)) (seats_words bytes (suc i) n ∙ ap (λ (k : ℕ). words_from bytes k (6 * n)) (omega arith))))))))

seats_count : (bytes : List ℕ) (i n : ℕ) → length (seats_from bytes i n) ≡ n
seats_count bytes i zero = refl
seats_count bytes i (suc n) = ap suc (seats_count bytes (suc i) n)

pub from_seated : (bytes : List ℕ) → Has32Seats (desk_read bytes)
unfolding desk_read
from_seated bytes = seats_count bytes 0 32

pub records_are_written_back : RecordsAreWrittenBack
unfolding desk_bytes desk_numbers desk_read
records_are_written_back bytes e h = (
  ap (λ (ns : List ℕ). sent (word_at bytes 0 ∷ word_at bytes 1 ∷ ns)) (seats_words bytes 0 32) ∙ sent_back bytes 194 e h,
  from_seated bytes,
)
