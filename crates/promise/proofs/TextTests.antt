-- The tests of a number and of a label, and what they tell.
use Prim.Native.Nat.{ℕ, ◌≤◌}
use mathlib.Core.Path.{◌≡◌, refl, sym}
use mathlib.Core.Logic.{◌⊎◌, inl, inr}
use mathlib.Core.Bool.{Bool, true, false, not, ◌&&◌, ◌||◌, true≢false}
use mathlib.Core.List.{List, [], ◌∷◌}
use lib.Dec.{leb, eqb}
use lib.ListN.{length, get_or}
use borrow.Author.Tests.{leb-true, le-leb, eqb-true, eq-eqb}
use Rattle.model.specs.Lists.{All}
use Rattle.model.proofs.Lists.{and_true, or_true}
use Rattle.promise.specs.Texts.{NumberText, LabelText, all_within, is_number, is_label}

pub within_all : (least most : ℕ) (bytes : List ℕ) → all_within least most bytes ≡ true → All (λ b. (least ≤ b) × (b ≤ most)) bytes
within_all least most [] e = tt
within_all least most (b ∷ bytes) e =
    let t = and_true (leb least b && leb b most) (all_within least most bytes) e in
    let u = and_true (leb least b) (leb b most) t.0 in
    ((leb-true least b u.0, leb-true b most u.1), within_all least most bytes t.1)

pub all_within_lem : (least most : ℕ) (bytes : List ℕ) → All (λ b. (least ≤ b) × (b ≤ most)) bytes → all_within least most bytes ≡ true
all_within_lem least most [] h = refl
all_within_lem least most (b ∷ bytes) h = rw (le-leb least b h.0.0, le-leb b most h.0.1) (all_within_lem least most bytes h.1)

pub number_told : (bytes : List ℕ) → is_number bytes ≡ true → NumberText bytes
unfolding is_number
number_told bytes e =
    let n = length bytes in
    let s = and_true (leb 1 n && leb n 7 && (not (eqb (get_or bytes 0 0) 48) || eqb n 1)) (all_within 48 57 bytes) e in
    let t = and_true (leb 1 n && leb n 7) (not (eqb (get_or bytes 0 0) 48) || eqb n 1) s.0 in
    let u = and_true (leb 1 n) (leb n 7) t.0 in
    record {
      least = leb-true 1 n u.0;
      most = leb-true n 7 u.1;
      digits = within_all 48 57 bytes s.1;
      leading = alone (or_true (not (eqb (get_or bytes 0 0) 48)) (eqb n 1) t.1);
    }
  where
    alone : (not (eqb (get_or bytes 0 0) 48) ≡ true) ⊎ (eqb (length bytes) 1 ≡ true) → get_or bytes 0 0 ≡ 48 → length bytes ≡ 1
    alone (inl f) z = absurd (true≢false (sym (rw (eq-eqb (get_or bytes 0 0) 48 z) at f)))
    alone (inr f) z = eqb-true (length bytes) 1 f

pub told_number : (bytes : List ℕ) → NumberText bytes → is_number bytes ≡ true
unfolding is_number
told_number bytes h =
    let n = length bytes in
    rw (le-leb 1 n h.least, le-leb n 7 h.most, all_within_lem 48 57 bytes h.digits) (go (eqb (get_or bytes 0 0) 48) refl)
  where
    go : (t : Bool) → eqb (get_or bytes 0 0) 48 ≡ t → (not t || eqb (length bytes) 1) && true ≡ true
    go true e = rw (eq-eqb (length bytes) 1 (h.leading (eqb-true (get_or bytes 0 0) 48 e)))
    go false e = refl

pub label_told_lem : (bytes : List ℕ) → is_label bytes ≡ true → LabelText bytes
unfolding is_label
label_told_lem bytes e =
    let t = and_true (leb (length bytes) 24) (all_within 0x20 0x7e bytes) e in
    record { most = leb-true (length bytes) 24 t.0; printable = within_all 0x20 0x7e bytes t.1 }

pub told_label : (bytes : List ℕ) → LabelText bytes → is_label bytes ≡ true
unfolding is_label
told_label bytes h = rw (le-leb (length bytes) 24 h.most) (all_within_lem 0x20 0x7e bytes h.printable)
