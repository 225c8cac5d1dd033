-- J: what a job file says, and which line is its first bad one.
use Prim.Native.Nat.{ℕ, suc, ◌+◌}
use native.Mathlib.Omega.{arith}
use mathlib.Core.Path.{◌≡◌, refl, sym, ◌∙◌, ap, subst}
use mathlib.Core.Logic.{◌⊎◌, inl, inr}
use mathlib.Core.List.{List, [], ◌∷◌, ◌++◌, append_assoc, append-nil}
use mathlib.Core.Option.{Option, some, none, none-ne-some}
use lib.ListN.{length}
use lib.Seq.{append_snoc}
use Rattle.model.specs.Lists.{All}
use Rattle.promise.specs.declared.LineKind.{LineKind}
use Rattle.promise.specs.declared.LineKind.TheVariants.{MachinesLine, JobLine, WorkLine, DeadlineLine, BoundLine, LabelLine}
use Rattle.promise.specs.Texts.{newline, ended, cut}
use Rattle.promise.specs.JobFile.{Group, File, groups_lines, file_text, TypedGroup, Typed, GoodFile, BeginsGood, OneLine, BadLine, told_by, following, Said, bad, says, and_then, at_end, lines_say, lines_in, file_says, numbers_of}
use Rattle.promise.proofs.Ladder.{All-front, All-back}
use Rattle.promise.proofs.Lines.{cut_line, cut_rest}
use Rattle.promise.proofs.FileFits.{kind_after, Fits, fits_join, fits_back, ended_join, good_lines, fits_begins, begins_fits}
use Rattle.promise.proofs.FileLines.{machines, job, work, deadline, bound, number_line_told, label_line_told, cut_ended, joined, cut_file}

-- the lines of a typed file say its numbers
groups_say : (ℓ : ℕ) (gs : List Group) → All TypedGroup gs → lines_say JobLine ℓ (groups_lines gs) [] ≡ says (numbers_of gs)
groups_say ℓ [] h = refl
groups_say ℓ (g ∷ gs) h =
    let t = h.0 in
    rw (
      number_line_told JobLine job g.job.number t.number,
      number_line_told WorkLine work g.job.work t.work,
      number_line_told DeadlineLine deadline g.job.deadline t.deadline,
      number_line_told BoundLine bound g.job.bound t.bound,
      label_line_told g.label t.label,
      groups_say (suc (suc (suc (suc (suc ℓ))))) gs h.1,
    )

pub says_file : (f : File) → Typed f → file_says (file_text f) ≡ says (f.machines ∷ numbers_of f.groups)
unfolding file_says
says_file f h =
    ap (lines_in MachinesLine 1) (cut_file f h)
    ∙ rw (number_line_told MachinesLine machines f.machines h.machines, groups_say 2 f.groups h.groups)

-- lines of their kinds say nothing bad: a bad line is one after them
bad_after : (kind : LineKind) (i j m : ℕ) (xs ys : List (List ℕ)) (rest : List ℕ) → Fits kind xs → j ≡ i + length xs
    → lines_say (kind_after kind xs) j ys rest ≡ bad m → lines_say kind i (xs ++ ys) rest ≡ bad m
bad_after kind i j m [] ys rest h e q = let l : j ≡ i = omega arith in rw (← l) q
bad_after kind i j m (x ∷ xs) ys rest h e q = rw (h.0.1, bad_after (following kind) (suc i) j m xs ys rest h.1 (omega arith) q)

-- a file ends where a job could begin, or the line there is bad
ends : (kind : LineKind) (ℓ : ℕ) (rest : List ℕ) → (at_end kind ℓ rest ≡ bad ℓ) ⊎ ((kind ≡ JobLine) × (rest ≡ []))
ends JobLine ℓ [] = inr (refl, refl)
ends JobLine ℓ (b ∷ rest) = inl refl
ends MachinesLine ℓ rest = inl refl
ends WorkLine ℓ rest = inl refl
ends DeadlineLine ℓ rest = inl refl
ends BoundLine ℓ rest = inl refl
ends LabelLine ℓ rest = inl refl

-- at the first bad line the reader says so
module _ (bytes : List ℕ) (ℓ : ℕ) (h : BadLine bytes ℓ) where
  fits : Fits MachinesLine h.lines
  fits = begins_fits h.lines h.each h.begins

  there : LineKind
  there = kind_after MachinesLine h.lines

  ended_bad : (line more : List ℕ) → OneLine line → (¬ BeginsGood (ended h.lines ++ (line ++ (newline ∷ []))))
      → lines_in there ℓ (cut (line ++ (newline ∷ more))) ≡ bad ℓ
  unfolding there
  ended_bad line more o never = ap (lines_in there ℓ) (cut_line line more o) ∙ go (told_by there line) refl
    where
      go : (t : Option (List ℕ)) → told_by there line ≡ t → and_then t ℓ (lines_in (following there) (suc ℓ) (cut more)) ≡ bad ℓ
      go none e = refl
      go (some ns) e =
          absurd (never (subst BeginsGood (ended_join h.lines (line ∷ []))
          (fits_begins (h.lines ++ (line ∷ [])) (fits_join MachinesLine h.lines (line ∷ []) fits ((ns, e), tt)))))

  missing_bad : OneLine h.after → (¬ GoodFile bytes) → lines_in there ℓ (cut h.after) ≡ bad ℓ
  unfolding there
  missing_bad o never = ap (lines_in there ℓ) (cut_rest h.after o) ∙ go (ends there ℓ h.after)
    where
      go : (at_end there ℓ h.after ≡ bad ℓ) ⊎ ((there ≡ JobLine) × (h.after ≡ [])) → at_end there ℓ h.after ≡ bad ℓ
      go (inl e) = e
      go (inr e) =
          let same : bytes ≡ ended h.lines = h.split ∙ ap (λ (t : List ℕ). ended h.lines ++ t) e.1 ∙ append-nil (ended h.lines) in
          absurd (never (subst GoodFile (sym same) (good_lines h.lines fits e.0)))

pub bad_said : (bytes : List ℕ) (ℓ : ℕ) → BadLine bytes ℓ → file_says bytes ≡ bad ℓ
unfolding file_says there
bad_said bytes ℓ h =
    ap (λ (b : List ℕ). lines_in MachinesLine 1 (cut b)) h.split
    ∙ ap (lines_in MachinesLine 1) (cut_ended h.lines h.after h.each)
    ∙ bad_after MachinesLine 1 ℓ ℓ h.lines (cut h.after).whole (cut h.after).rest (fits bytes ℓ h) (omega (arith, h.counted)) (go h.bad)
  where
    go : ((line : List ℕ) × (more : List ℕ) × OneLine line × (h.after ≡ line ++ (newline ∷ more)) × (¬ BeginsGood (ended h.lines ++ (line ++ (newline ∷ [])))))
        ⊎ (OneLine h.after × (¬ GoodFile bytes))
        → lines_in (there bytes ℓ h) ℓ (cut h.after) ≡ bad ℓ
    go (inl (line, more, o, e, never)) = ap (λ (b : List ℕ). lines_in (there bytes ℓ h) ℓ (cut b)) e ∙ ended_bad bytes ℓ h line more o never
    go (inr (o, never)) = missing_bad bytes ℓ h o never

-- line ℓ is the first that is not of its kind, or the lines end before it
record FirstBad (kind : LineKind) (i : ℕ) (whole : List (List ℕ)) (ℓ : ℕ) : Type 0 where
  lines : List (List ℕ)
  each : Fits kind lines
  counted : ℓ ≡ i + length lines
  here : ((line : List ℕ) × (more : List (List ℕ)) × (whole ≡ lines ++ (line ∷ more)) × (told_by (kind_after kind lines) line ≡ none)) ⊎ (whole ≡ lines)

-- what is known of lines that say this
abbrev Saying : LineKind → ℕ → List (List ℕ) → List ℕ → Said → Type 0
Saying kind i whole rest (bad ℓ) = FirstBad kind i whole ℓ
Saying kind i whole rest (says ns) = Fits kind whole × (kind_after kind whole ≡ JobLine) × (rest ≡ [])

no_line : (kind : LineKind) (i : ℕ) → FirstBad kind i [] i
no_line kind i = record { lines = []; each = tt; counted = omega arith; here = inr refl }

at_end_lem : (kind : LineKind) (i : ℕ) (rest : List ℕ) → Saying kind i [] rest (at_end kind i rest)
at_end_lem JobLine i [] = (tt, refl, refl)
at_end_lem JobLine i (b ∷ rest) = no_line JobLine i
at_end_lem MachinesLine i rest = no_line MachinesLine i
at_end_lem WorkLine i rest = no_line WorkLine i
at_end_lem DeadlineLine i rest = no_line DeadlineLine i
at_end_lem BoundLine i rest = no_line BoundLine i
at_end_lem LabelLine i rest = no_line LabelLine i

-- a line of its kind in front
line_more : (kind : LineKind) (i : ℕ) (line ns : List ℕ) (whole : List (List ℕ)) (ℓ : ℕ) → told_by kind line ≡ some ns
    → FirstBad (following kind) (suc i) whole ℓ → FirstBad kind i (line ∷ whole) ℓ
line_more kind i line ns whole ℓ e f = record { lines = line ∷ f.lines; each = ((ns, e), f.each); counted = omega (arith, f.counted); here = go f.here }
  where
    go : ((x : List ℕ) × (more : List (List ℕ)) × (whole ≡ f.lines ++ (x ∷ more)) × (told_by (kind_after (following kind) f.lines) x ≡ none)) ⊎ (whole ≡ f.lines)
        → ((x : List ℕ) × (more : List (List ℕ)) × (line ∷ whole ≡ line ∷ (f.lines ++ (x ∷ more))) × (told_by (kind_after (following kind) f.lines) x ≡ none))
        ⊎ (line ∷ whole ≡ line ∷ f.lines)
    go (inl (x, more, q, t)) = inl (x, more, ap (λ (l : List (List ℕ)). line ∷ l) q, t)
    go (inr q) = inr (ap (λ (l : List (List ℕ)). line ∷ l) q)

saying : (kind : LineKind) (i : ℕ) (whole : List (List ℕ)) (rest : List ℕ) → Saying kind i whole rest (lines_say kind i whole rest)
saying kind i [] rest = at_end_lem kind i rest
saying kind i (line ∷ whole) rest = go (told_by kind line) refl (lines_say (following kind) (suc i) whole rest) (saying (following kind) (suc i) whole rest)
  where
    go : (t : Option (List ℕ)) → told_by kind line ≡ t → (s : Said) → Saying (following kind) (suc i) whole rest s
        → Saying kind i (line ∷ whole) rest (and_then t i s)
    go none e s h = record { lines = []; each = tt; counted = omega arith; here = inl (line, whole, refl, e) }
    go (some ns) e (bad ℓ) h = line_more kind i line ns whole ℓ e h
    go (some ns) e (says ms) h = (((ns, e), h.0), h.1, h.2)

file_saying : (bytes : List ℕ) (s : Said) → file_says bytes ≡ s → Saying MachinesLine 1 (cut bytes).whole (cut bytes).rest s
unfolding file_says
file_saying bytes s e =
    subst (λ (x : Said). Saying MachinesLine 1 (cut bytes).whole (cut bytes).rest x) e (saying MachinesLine 1 (cut bytes).whole (cut bytes).rest)

pub said_good : (bytes ns : List ℕ) → file_says bytes ≡ says ns → GoodFile bytes
said_good bytes ns e =
    let s = file_saying bytes (says ns) e in
    let whole = (cut bytes).whole in
    let same : bytes ≡ ended whole = (joined bytes).same ∙ ap (λ (t : List ℕ). ended whole ++ t) s.2 ∙ append-nil (ended whole) in
    subst GoodFile (sym same) (good_lines whole s.0 s.1)

pub good_said : (bytes : List ℕ) → GoodFile bytes → (ns : List ℕ) × (file_says bytes ≡ says ns)
good_said bytes (f, typed, e) = (f.machines ∷ numbers_of f.groups, ap file_says (sym e) ∙ says_file f typed)

not_both : {A : Type 0} (s : Said) (ℓ : ℕ) (ns : List ℕ) → s ≡ bad ℓ → s ≡ says ns → A
not_both s ℓ ns p q = let z : ◌≡◌ {A = ℕ} 0 1 = cc in absurd (omega arith)

-- lines, one line and more lines, put together from the left
pieces : (lines : List (List ℕ)) (line : List ℕ) (more : List (List ℕ)) (rest : List ℕ)
    → ended (lines ++ (line ∷ more)) ++ rest ≡ ended lines ++ (line ++ (newline ∷ (ended more ++ rest)))
pieces lines line more rest = simp (ended_join, append_assoc)

-- and only there
module _ (bytes : List ℕ) (ℓ : ℕ) (f : FirstBad MachinesLine 1 (cut bytes).whole ℓ) where
  bad_ended : (line : List ℕ) (more : List (List ℕ)) → (cut bytes).whole ≡ f.lines ++ (line ∷ more)
      → told_by (kind_after MachinesLine f.lines) line ≡ none → BadLine bytes ℓ
  bad_ended line more e t =
      let rest = (cut bytes).rest in
      let each : All OneLine (f.lines ++ (line ∷ more)) = subst (All OneLine) e (joined bytes).each in
      record {
        lines = f.lines;
        after = line ++ (newline ∷ (ended more ++ rest));
        split = (joined bytes).same ∙ ap (λ (l : List (List ℕ)). ended l ++ rest) e ∙ pieces f.lines line more rest;
        each = All-front OneLine f.lines (line ∷ more) each;
        counted = omega (arith, f.counted);
        begins = fits_begins f.lines f.each;
        bad = inl (line, ended more ++ rest, (All-back OneLine f.lines (line ∷ more) each).0, refl, never each);
      }
    where
      never : All OneLine (f.lines ++ (line ∷ more)) → ¬ BeginsGood (ended f.lines ++ (line ++ (newline ∷ [])))
      never each g =
          let through = f.lines ++ (line ∷ []) in
          let each' : All OneLine (through ++ more) = subst (All OneLine) (sym (append_snoc f.lines line more)) each in
          let fits' = begins_fits through (All-front OneLine through more each') (subst BeginsGood (sym (ended_join f.lines (line ∷ []))) g) in
          let s = (fits_back MachinesLine f.lines (line ∷ []) fits').0 in
          none-ne-some s.0 (sym t ∙ s.1)

  bad_missing : (cut bytes).whole ≡ f.lines → file_says bytes ≡ bad ℓ → BadLine bytes ℓ
  bad_missing e q = record {
    lines = f.lines;
    after = (cut bytes).rest;
    split = (joined bytes).same ∙ ap (λ (l : List (List ℕ)). ended l ++ (cut bytes).rest) e;
    each = subst (All OneLine) e (joined bytes).each;
    counted = omega (arith, f.counted);
    begins = fits_begins f.lines f.each;
    bad = inr ((joined bytes).last, λ g. let s = good_said bytes g in not_both (file_says bytes) ℓ s.0 q s.1);
  }

pub said_bad : (bytes : List ℕ) (ℓ : ℕ) → file_says bytes ≡ bad ℓ → BadLine bytes ℓ
said_bad bytes ℓ e = go f.here
  where
    f : FirstBad MachinesLine 1 (cut bytes).whole ℓ
    f = file_saying bytes (bad ℓ) e

    go : ((line : List ℕ) × (more : List (List ℕ)) × ((cut bytes).whole ≡ f.lines ++ (line ∷ more)) × (told_by (kind_after MachinesLine f.lines) line ≡ none))
        ⊎ ((cut bytes).whole ≡ f.lines)
        → BadLine bytes ℓ
    go (inl (line, more, q, t)) = bad_ended bytes ℓ f line more q t
    go (inr q) = bad_missing bytes ℓ f q e
