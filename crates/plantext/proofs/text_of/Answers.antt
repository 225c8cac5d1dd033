use Rattle.std.proofs.Common.{◌≡◌, ℕ, ◌≤◌, List, ◌++◌, length, drop, take_all, arith, ◌∙◌, refl}
use Rattle.std.proofs.Math.ListN.{replicate}
use Rattle.std.proofs.lemmas.List.{drop-replicate}
use Rattle.promise.specs.Texts.{padded}
use Rattle.plantext.proofs.text_of.Goals as goal

-- the bytes of a text, put over the first of n zeros
copied_over : (n len : ℕ) (copied text : List ℕ) → copied ≡ text → len ≡ length text → length text ≤ n
    → copied ++ drop len (replicate n 0) ≡ padded n text
unfolding padded
copied_over n len copied text e f fits = rw (e, f, drop-replicate, take_all n text fits) refl

pub returns-clause-printed : goal.returns-clause-printed
returns-clause-printed c =
    copied_over 40960 _ _ _ (c.copy_from_slice.ensures.after ∙ c.as_slice.ensures.value) c.len.ensures.value (omega arith)
