-- The reader line by line: what it comes to from what is kept so far and the bytes that are left.
use Prim.Native.Nat.{ℕ, zero, suc, ◌+◌, ◌-◌, ◌/◌, ◌≤◌, ◌<◌}
use native.Mathlib.Nat.{suc-sub-suc}
use native.Mathlib.Numerals.{add-one}
use native.Mathlib.Omega.{arith}
use mathlib.Core.Path.{◌≡◌, refl, sym, ◌∙◌, ap, subst}
use mathlib.Core.Logic.{◌≢◌}
use mathlib.Core.List.{List, [], ◌∷◌, ◌++◌, append_assoc, append-nil}
use mathlib.Core.Option.{Option, some, none}
use lib.ListN.{length, set, replicate, length-append}
use borrow.Author.Tests.{lt-ltb, le-ltb}
use Rattle.std.specs.declared.result.Result.TheVariants.{Ok, Err}
use Rattle.promise.specs.declared.LineKind.{LineKind}
use Rattle.promise.specs.declared.LineKind.TheVariants.{MachinesLine, JobLine, WorkLine, DeadlineLine, BoundLine, LabelLine}
use Rattle.promise.specs.declared.Refusal.TheVariants.{BadLine, LongFile}
use Rattle.promise.specs.Records.{Reading}
use Rattle.promise.specs.Refusals.{as_reading}
use Rattle.promise.specs.Texts.{Lines, cut, padded, newline, read_number}
use Rattle.promise.specs.JobFile.{told, told_by, after_key, key, number_told, following, not_read, OneLine, Said, bad, says, and_then, at_end, lines_in, file_says, reading_from, reading_said, reading_of}
use Rattle.promise.proofs.Lines.{cut_line, cut_rest}
use Rattle.jobfile.specs.declared.Kept.{Kept}
use Rattle.jobfile.specs.Reader.{rows_kept, kept_with}
use Rattle.jobfile.proofs.Laws.{keep_count}

abbrev pub file_of : Kept → Reading
file_of k = as_reading (Ok (record { machines = k.machines; groups = k.count / 4; rows = k.rows }))

-- what is kept so far, and what the lines from a line of this kind on say
abbrev goes_on : LineKind → Kept → Said → Reading
goes_on kind k (bad ℓ) = as_reading (Err (BadLine ℓ))
goes_on kind k (says ns) = file_of (kept_with kind k ns)

-- the same, where line ℓ is due and some bytes are left
unfoldable pub reads_on : Kept → LineKind → ℕ → List ℕ → Reading
reads_on k kind ℓ rest = goes_on kind k (lines_in kind ℓ (cut rest))

-- numbers kept from the first on are padded with zeros
padded_more : (k : ℕ) (ns : List ℕ) (n : ℕ) → set (padded k ns) (length ns) n ≡ padded k (ns ++ (n ∷ []))
unfolding padded
padded_more zero [] n = refl
padded_more (suc zero) [] n = refl
padded_more (suc (suc k)) [] n =
    let e : suc (suc k) - 0 ≡ suc (suc k) = omega arith in
    let f : suc (suc k) - 1 ≡ suc k = omega arith in
    rw (e, f) refl
padded_more zero (m ∷ ns) n =
    let e : 0 - suc (length ns) ≡ 0 = omega arith in
    let f : 0 - suc (length (ns ++ (n ∷ []))) ≡ 0 = omega arith in
    rw (e, f) refl
padded_more (suc k) (m ∷ ns) n =
    rw (suc-sub-suc k (length ns), suc-sub-suc k (length (ns ++ (n ∷ [])))) (ap (λ (l : List ℕ). m ∷ l) (padded_more k ns n))

kept_of : ℕ → List ℕ → Kept
kept_of m ns = record { machines = m; count = length ns; rows = padded 128 ns }

kept_all : (m : ℕ) (ns more : List ℕ) → rows_kept (kept_of m ns) more ≡ kept_of m (ns ++ more)
unfolding kept_of
kept_all m ns [] = rw (append-nil ns) refl
kept_all m ns (n ∷ more) =
    let e : length ns + 1 ≡ length (ns ++ (n ∷ [])) = omega (arith, length-append ns (n ∷ [])) in
    rw (e, padded_more 128 ns n) (kept_all m (ns ++ (n ∷ [])) more ∙ rw (append_assoc ns (n ∷ []) more) refl)

start : (s : Said) → reading_said s ≡ goes_on MachinesLine (record { machines = 0; count = 0; rows = replicate 128 0 }) s
unfolding reading_from not_read kept_of padded
start (bad ℓ) = refl
start (says []) = refl
start (says (n ∷ ns)) =
    let f : suc (length ns) - 1 ≡ length ns = omega arith in
    rw f (ap file_of (sym (kept_all n [] ns)))

pub read_start : (bytes : List ℕ) → reading_said (file_says bytes) ≡ reads_on (record { machines = 0; count = 0; rows = replicate 128 0 }) MachinesLine 1 bytes
unfolding reads_on file_says
read_start bytes = start (lines_in MachinesLine 1 (cut bytes))

-- the first line tells a number
machines_line : (text : List ℕ) → told_by MachinesLine text ≡ some [] → ⊥
unfolding told_by
machines_line text e = go (after_key (key MachinesLine) text) e
  where
    number : (n : Option ℕ) → number_told n ≡ some [] → ⊥
    number none e = cc
    number (some n) e = cc

    go : (t : Option (List ℕ)) → told MachinesLine t ≡ some [] → ⊥
    go none e = cc
    go (some t) e = number (read_number t) e

rows_more : (k : Kept) (ns more : List ℕ) → rows_kept k (ns ++ more) ≡ rows_kept (rows_kept k ns) more
rows_more k [] more = refl
rows_more k (n ∷ ns) more = rows_more (record { machines = k.machines; count = k.count + 1; rows = set k.rows k.count n }) ns more

kept_more : (kind : LineKind) (k : Kept) (ns more : List ℕ) → (kind ≡ MachinesLine → ns ≢ [])
    → kept_with kind k (ns ++ more) ≡ kept_with (following kind) (kept_with kind k ns) more
kept_more MachinesLine k [] more h = absurd (h refl refl)
kept_more MachinesLine k (n ∷ ns) more h = rows_more (record { machines = n; count = k.count; rows = k.rows }) ns more
kept_more JobLine k ns more h = rows_more k ns more
kept_more WorkLine k ns more h = rows_more k ns more
kept_more DeadlineLine k ns more h = rows_more k ns more
kept_more BoundLine k ns more h = rows_more k ns more
kept_more LabelLine k ns more h = rows_more k ns more

-- what the reader comes to after a line that tells numbers, or is bad
abbrev pub after_line : Option (List ℕ) → Kept → LineKind → ℕ → List ℕ → Reading
after_line none k kind ℓ rest = as_reading (Err (BadLine ℓ))
after_line (some ns) k kind ℓ rest = reads_on (kept_with kind k ns) (following kind) (ℓ + 1) rest

module _ (k : Kept) (kind : LineKind) (ℓ : ℕ) where
  pub read_line : (text rest : List ℕ) → OneLine text → reads_on k kind ℓ (text ++ (newline ∷ rest)) ≡ after_line (told_by kind text) k kind ℓ rest
  unfolding reads_on
  read_line text rest one = ap (λ (c : Lines). goes_on kind k (lines_in kind ℓ c)) (cut_line text rest one) ∙ go (told_by kind text) refl
    where
      later : Said
      later = lines_in (following kind) (suc ℓ) (cut rest)

      go : (t : Option (List ℕ)) → told_by kind text ≡ t → goes_on kind k (and_then t ℓ later) ≡ after_line t k kind ℓ rest
      go none e = refl
      go (some ns) e = rw (add-one ℓ) (said later)
        where
          said : (s : Said) → goes_on kind k (and_then (some ns) ℓ s) ≡ goes_on (following kind) (kept_with kind k ns) s
          said (bad m) = refl
          said (says more) = ap file_of (kept_more kind k ns more (λ f z. machines_line text (subst (λ l. told_by l text ≡ some []) f (e ∙ ap some z))))

  -- the end of the bytes
  module _ (rest : List ℕ) (one : OneLine rest) where
    unended : reads_on k kind ℓ rest ≡ goes_on kind k (at_end kind ℓ rest)
    unfolding reads_on
    unended = ap (λ (c : Lines). goes_on kind k (lines_in kind ℓ c)) (cut_rest rest one)

    pub end_read : kind ≡ JobLine → length rest ≡ 0 → reads_on k kind ℓ rest ≡ file_of k
    end_read e z = unended ∙ rw e (go rest z)
      where
        go : (rest : List ℕ) → length rest ≡ 0 → goes_on JobLine k (at_end JobLine ℓ rest) ≡ file_of k
        go [] z = refl
        go (b ∷ rest) z = absurd (omega arith)

    pub end_kind : kind ≢ JobLine → reads_on k kind ℓ rest ≡ as_reading (Err (BadLine ℓ))
    end_kind n = unended ∙ go kind n
      where
        go : (kind : LineKind) → kind ≢ JobLine → goes_on kind k (at_end kind ℓ rest) ≡ as_reading (Err (BadLine ℓ))
        go JobLine n = absurd (n refl)
        go MachinesLine n = refl
        go WorkLine n = refl
        go DeadlineLine n = refl
        go BoundLine n = refl
        go LabelLine n = refl

    pub end_rest : kind ≡ JobLine → 0 < length rest → reads_on k kind ℓ rest ≡ as_reading (Err (BadLine ℓ))
    end_rest e h = unended ∙ rw e (go rest h)
      where
        go : (rest : List ℕ) → 0 < length rest → goes_on JobLine k (at_end JobLine ℓ rest) ≡ as_reading (Err (BadLine ℓ))
        go [] h = absurd (omega arith)
        go (b ∷ rest) h = refl

pub ruleset line_laws = (keep_count, length-append, read_start, read_line, end_read, end_kind, end_rest)

-- 14 before 13
module _ (bytes : List ℕ) where
  pub file_long : 4096 < length bytes → as_reading (Err LongFile) ≡ reading_of bytes
  unfolding reading_of not_read
  file_long h = rw (lt-ltb 4096 (length bytes) h) refl

  pub file_fits : length bytes ≤ 4096 → reading_said (file_says bytes) ≡ reading_of bytes
  unfolding reading_of
  file_fits h = rw (le-ltb 4096 (length bytes) h) refl

pub ruleset file_laws = (file_long, file_fits)
