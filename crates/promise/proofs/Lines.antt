-- Bytes cut at their newlines.
use Prim.Native.Nat.{ℕ}
use mathlib.Core.Path.{◌≡◌, refl, ap}
use mathlib.Core.List.{List, [], ◌∷◌, ◌++◌}
use borrow.Author.Tests.{ne_eqb}
use Rattle.promise.specs.Texts.{newline, Lines, in_front, cut}
use Rattle.promise.specs.JobFile.{OneLine}

pub cut_line : (line more : List ℕ) → OneLine line
    → cut (line ++ (newline ∷ more)) ≡ record { whole = line ∷ (cut more).whole; rest = (cut more).rest }
cut_line [] more h = refl
cut_line (b ∷ line) more h = rw (ne_eqb b newline h.0) (ap (λ (l : Lines). in_front b l.whole l.rest) (cut_line line more h.1))

pub cut_rest : (bytes : List ℕ) → OneLine bytes → cut bytes ≡ record { whole = []; rest = bytes }
cut_rest [] h = refl
cut_rest (b ∷ bytes) h = rw (ne_eqb b newline h.0) (ap (λ (l : Lines). in_front b l.whole l.rest) (cut_rest bytes h.1))
