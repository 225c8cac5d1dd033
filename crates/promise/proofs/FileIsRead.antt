-- J: what the reader answers, for every run of bytes.
use Prim.Native.Nat.{ℕ, ◌-◌, ◌/◌, ◌≤◌, ◌<◌}
use native.Mathlib.Decide.{dec_lt}
use native.Mathlib.Omega.{arith}
use mathlib.Core.Path.{◌≡◌, refl, sym, ◌∙◌, ap}
use mathlib.Core.Logic.{◌≢◌, ◌⊎◌, inl, inr, ◌↔◌}
use mathlib.Core.List.{List, ◌∷◌}
use lib.ListN.{length, replicate}
use borrow.Author.Tests.{lt-ltb, le-ltb}
use Rattle.promise.specs.declared.Answer.{Answer}
use Rattle.promise.specs.Records.{Reading}
use Rattle.promise.specs.Answers.{refusal}
use Rattle.promise.specs.Answers as answers
use Rattle.promise.specs.Texts.{padded}
use Rattle.promise.specs.JobFile.{File, file_text, Typed, GoodFile, BadLine, Said, bad, says, file_says, reading_from, not_read, reading_said, reading_of, numbers_of}
use Rattle.promise.specs.TextClaims.{FileIsRead}
use Rattle.promise.proofs.FileJobs.{numbers_length}
use Rattle.promise.proofs.FileRead.{says_file, bad_said, good_said, said_good, said_bad}

-- a long file, and one that is not
pub long_read : (bytes : List ℕ) → 4096 < length bytes → reading_of bytes ≡ not_read (refusal 14 0 0)
unfolding reading_of
long_read bytes l = rw (lt-ltb 4096 (length bytes) l)

pub short_read : (bytes : List ℕ) → length bytes ≤ 4096 → reading_of bytes ≡ reading_said (file_says bytes)
unfolding reading_of
short_read bytes l = rw (le-ltb 4096 (length bytes) l)

answer_of : {r s : Reading} → r ≡ s → r.answer ≡ s.answer
answer_of e = ap (λ (r : Reading). r.answer) e

-- the answer tells what was said
said_thirteen : (s : Said) (ℓ : ℕ) → (reading_said s).answer ≡ refusal 13 ℓ 0 → s ≡ bad ℓ
unfolding not_read reading_from
said_thirteen (bad m) ℓ e = ap bad (ap (λ (a : Answer). a.place) e)
said_thirteen (says ns) ℓ e = absurd (omega (arith, ap (λ (a : Answer). a.number) e))

said_yes : (s : Said) → (reading_said s).answer ≡ answers.yes → (ns : List ℕ) × (s ≡ says ns)
unfolding not_read reading_from
said_yes (bad m) e = absurd (omega (arith, ap (λ (a : Answer). a.number) e))
said_yes (says ns) e = (ns, refl)

said_fourteen : (s : Said) → (reading_said s).answer ≢ refusal 14 0 0
unfolding not_read reading_from
said_fourteen (bad m) e = omega (arith, ap (λ (a : Answer). a.number) e)
said_fourteen (says ns) e = omega (arith, ap (λ (a : Answer). a.number) e)

module _ (bytes : List ℕ) where
  fourteen : ((reading_of bytes).answer ≡ refusal 14 0 0) ↔ (4096 < length bytes)
  unfolding not_read
  fourteen = (go (dec_lt 4096 (length bytes)), λ l. answer_of (long_read bytes l))
    where
      go : Dec (4096 < length bytes) → (reading_of bytes).answer ≡ refusal 14 0 0 → 4096 < length bytes
      go (yes l) e = l
      go (no l) e = absurd (said_fourteen (file_says bytes) (sym (answer_of (short_read bytes (omega arith))) ∙ e))

  -- read, or refused with no figures
  abbrev ReadOrNot : Type 0
  ReadOrNot = ((reading_of bytes).answer ≡ answers.yes) ⊎ ((ℓ : ℕ) × (reading_of bytes ≡ not_read (refusal 13 ℓ 0))) ⊎ (reading_of bytes ≡ not_read (refusal 14 0 0))

  read_or_not : ReadOrNot
  unfolding reading_from
  read_or_not = go (dec_lt 4096 (length bytes))
    where
      short : (s : Said) → reading_of bytes ≡ reading_said s → ReadOrNot
      short (bad ℓ) e = inr (inl (ℓ, e))
      short (says ns) e = inl (answer_of e)

      go : Dec (4096 < length bytes) → ReadOrNot
      go (yes l) = inr (inr (long_read bytes l))
      go (no l) = short (file_says bytes) (short_read bytes (omega arith))

  abbrev OneAnswer : Type 0
  OneAnswer = ((reading_of bytes).answer ≡ answers.yes) ⊎ ((ℓ : ℕ) × ((reading_of bytes).answer ≡ refusal 13 ℓ 0)) ⊎ ((reading_of bytes).answer ≡ refusal 14 0 0)

  abbrev NoFigures : Type 0
  NoFigures = ((reading_of bytes).machines ≡ 0) × ((reading_of bytes).groups ≡ 0) × ((reading_of bytes).rows ≡ replicate 128 0)

  one_of_these : OneAnswer
  unfolding not_read
  one_of_these = go read_or_not
    where
      go : ReadOrNot → OneAnswer
      go (inl e) = inl e
      go (inr (inl e)) = inr (inl (e.0, answer_of e.1))
      go (inr (inr e)) = inr (inr (answer_of e))

  no_figures : (reading_of bytes).answer.number ≢ 0 → NoFigures
  unfolding not_read
  no_figures h = go read_or_not
    where
      none_of : (a : Answer) → reading_of bytes ≡ not_read a → NoFigures
      none_of a e = (ap (λ (r : Reading). r.machines) e, ap (λ (r : Reading). r.groups) e, ap (λ (r : Reading). r.rows) e)

      go : ReadOrNot → NoFigures
      go (inl e) = absurd (h (ap (λ (a : Answer). a.number) e))
      go (inr (inl e)) = none_of (refusal 13 e.0 0) e.1
      go (inr (inr e)) = none_of (refusal 14 0 0) e

  module _ (l : length bytes ≤ 4096) where
    good : ((reading_of bytes).answer ≡ answers.yes) ↔ GoodFile bytes
    unfolding reading_from
    good = (
      (λ e. let s = said_yes (file_says bytes) (sym (answer_of (short_read bytes l)) ∙ e) in said_good bytes s.0 s.1),
      λ g. answer_of (short_read bytes l ∙ ap reading_said (good_said bytes g).1),
    )

    thirteen : (ℓ : ℕ) → ((reading_of bytes).answer ≡ refusal 13 ℓ 0) ↔ BadLine bytes ℓ
    unfolding not_read
    thirteen ℓ = (
      (λ e. said_bad bytes ℓ (said_thirteen (file_says bytes) ℓ (sym (answer_of (short_read bytes l)) ∙ e))),
      λ h. answer_of (short_read bytes l ∙ ap reading_said (bad_said bytes ℓ h)),
    )

    as_typed : (f : File) → Typed f → file_text f ≡ bytes
        → reading_of bytes ≡ record { answer = answers.yes; machines = f.machines; groups = length f.groups; rows = padded 128 (numbers_of f.groups) }
    unfolding reading_from
    as_typed f t e =
        let count : (length (f.machines ∷ numbers_of f.groups) - 1) / 4 ≡ length f.groups = omega (arith, numbers_length f.groups) in
        short_read bytes l ∙ ap (λ (b : List ℕ). reading_said (file_says b)) (sym e) ∙ ap reading_said (says_file f t)
        ∙ rw count

pub file_is_read : FileIsRead
file_is_read bytes = record {
  fourteen = fourteen bytes;
  good = good bytes;
  as_typed = as_typed bytes;
  thirteen = thirteen bytes;
  one_of_these = one_of_these bytes;
  no_figures = no_figures bytes;
}
