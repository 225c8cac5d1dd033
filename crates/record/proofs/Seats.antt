-- The seats that calls at the indices from 0 on gave.
use Prim.Native.Nat.{ℕ, zero, suc, ◌+◌}
use native.Mathlib.Omega.{arith}
use native.Mathlib.Numerals.{add-one}
use mathlib.Core.Path.{◌≡◌, sym, ◌∙◌, ap₂, subst}
use mathlib.Core.List.{List, ◌∷◌}
use lib.ListN.{length, drop}
use lib.Seq.{drop-cons}
use denote.Param.Members.{Mut, Called}
use Rattle.std.specs.Array.{IsFromFnResultFrom}
use Rattle.std.proofs.lemmas.List.{drop_all}
use Rattle.promise.specs.declared.Held.{Held}
use Rattle.promise.specs.DeskWindow.{seat_at, seats_from}

-- each call leaves the closure as it was and gives that seat of the record
module _ {F : Type 0} (g : Mut F (ℕ × Unit {0}) Held) (f : F) (bytes : List ℕ)
    (calls : (i : ℕ) (h : Held) (q : F) → Called g f (i, tt) h q → (q ≡ f) × (h ≡ seat_at bytes i)) (seats : List Held) where
  read_from : (i n : ℕ) → i + n ≡ length seats → IsFromFnResultFrom g f seats i n → drop i seats ≡ seats_from bytes i n
  read_from i zero e r = drop_all i seats (omega arith)
  read_from i (suc n) e (q, h, at, call, rest) =
      let c = calls i h q call in
      drop-cons seats i h (omega arith)
      ∙ ap₂ ◌∷◌ (at.0 ∙ c.1)
      (rw (sym (add-one i)) (read_from (i + 1) n (omega arith) (subst (λ (p : F). IsFromFnResultFrom g p seats (i + 1) n) c.0 rest)))

  pub seats_read : length seats ≡ 32 → IsFromFnResultFrom g f seats 0 32 → seats ≡ seats_from bytes 0 32
  seats_read e r = read_from 0 32 (sym e) r
