-- Lines of their kinds: just those with which a job file begins.
use Prim.Native.Nat.{ℕ}
use native.Mathlib.Omega.{arith}
use mathlib.Core.Path.{◌≡◌, refl, sym, ◌∙◌, ap, ap₂, subst}
use mathlib.Core.List.{List, [], ◌∷◌, ◌++◌, append_assoc}
use mathlib.Core.Option.{some}
use Rattle.model.specs.Lists.{All}
use Rattle.promise.specs.declared.LineKind.{LineKind}
use Rattle.promise.specs.declared.LineKind.TheVariants.{MachinesLine, JobLine, WorkLine, DeadlineLine, BoundLine, LabelLine}
use Rattle.promise.specs.Texts.{newline, ended, Lines, cut}
use Rattle.promise.specs.JobFile.{line_of, number_line, Group, File, groups_lines, file_lines, file_text, TypedGroup, Typed, GoodFile, BeginsGood, OneLine, told_by, following}
use Rattle.promise.proofs.FileLines.{Numeric, machines, job, work, deadline, bound, number_line_told, label_line_told, told_number_line, told_label_line, cut_ended, cut_file}

-- the kind of the line after some lines
abbrev pub kind_after : LineKind → List (List ℕ) → LineKind
kind_after kind [] = kind
kind_after kind (line ∷ lines) = kind_after (following kind) lines

-- each line is of its kind
abbrev pub Fits : LineKind → List (List ℕ) → Type 0
Fits kind [] = Unit
Fits kind (line ∷ lines) = ((ns : List ℕ) × (told_by kind line ≡ some ns)) × Fits (following kind) lines

fits_front : (kind : LineKind) (xs ys : List (List ℕ)) → Fits kind (xs ++ ys) → Fits kind xs
fits_front kind [] ys h = tt
fits_front kind (x ∷ xs) ys h = (h.0, fits_front (following kind) xs ys h.1)

pub fits_back : (kind : LineKind) (xs ys : List (List ℕ)) → Fits kind (xs ++ ys) → Fits (kind_after kind xs) ys
fits_back kind [] ys h = h
fits_back kind (x ∷ xs) ys h = fits_back (following kind) xs ys h.1

pub fits_join : (kind : LineKind) (xs ys : List (List ℕ)) → Fits kind xs → Fits (kind_after kind xs) ys → Fits kind (xs ++ ys)
fits_join kind [] ys h k = k
fits_join kind (x ∷ xs) ys h k = (h.0, fits_join (following kind) xs ys h.1 k)

after_join : (kind : LineKind) (xs ys : List (List ℕ)) → kind_after kind (xs ++ ys) ≡ kind_after (kind_after kind xs) ys
after_join kind [] ys = refl
after_join kind (x ∷ xs) ys = after_join (following kind) xs ys

pub ended_join : (xs ys : List (List ℕ)) → ended (xs ++ ys) ≡ ended xs ++ ended ys
ended_join [] ys = refl
ended_join (x ∷ xs) ys =
    ap (λ (t : List ℕ). x ++ (newline ∷ t)) (ended_join xs ys) ∙ sym (append_assoc x (newline ∷ ended xs) (ended ys))

groups_fit : (gs : List Group) → All TypedGroup gs → Fits JobLine (groups_lines gs)
groups_fit [] h = tt
groups_fit (g ∷ gs) h =
    let t = h.0 in (
      (_, number_line_told JobLine job g.job.number t.number),
      (
        (_, number_line_told WorkLine work g.job.work t.work),
        (
          (_, number_line_told DeadlineLine deadline g.job.deadline t.deadline),
          ((_, number_line_told BoundLine bound g.job.bound t.bound), ((_, label_line_told g.label t.label), groups_fit gs h.1)),
        ),
      ),
    )

file_fits : (f : File) → Typed f → Fits MachinesLine (file_lines f)
file_fits f h = ((_, number_line_told MachinesLine machines f.machines h.machines), groups_fit f.groups h.groups)

-- 1 for a job's line, 0 for the others
at_job : LineKind → ℕ
at_job JobLine = 1
at_job MachinesLine = 0
at_job WorkLine = 0
at_job DeadlineLine = 0
at_job BoundLine = 0
at_job LabelLine = 0

no_job : {A : Type 0} (kind : LineKind) → at_job kind ≡ 0 → kind ≡ JobLine → A
unfolding at_job
no_job kind z e = absurd (omega (arith, ap at_job e))

-- lines of their kinds, as far as a whole group, are the lines of some groups
record Grouped (lines : List (List ℕ)) : Type 0 where
  groups : List Group
  typed : All TypedGroup groups
  same : groups_lines groups ≡ lines

grouped : (lines : List (List ℕ)) → Fits JobLine lines → kind_after JobLine lines ≡ JobLine → Grouped lines
unfolding at_job
grouped [] h e = record { groups = []; typed = tt; same = refl }
grouped (a ∷ []) h e = no_job WorkLine refl e
grouped (a ∷ b ∷ []) h e = no_job DeadlineLine refl e
grouped (a ∷ b ∷ c ∷ []) h e = no_job BoundLine refl e
grouped (a ∷ b ∷ c ∷ d ∷ []) h e = no_job LabelLine refl e
grouped (a ∷ b ∷ c ∷ d ∷ l ∷ lines) h e =
    let r = grouped lines h.1.1.1.1.1 e in
    let n = told_number_line JobLine job a h.0.0 h.0.1 in
    let w = told_number_line WorkLine work b h.1.0.0 h.1.0.1 in
    let f = told_number_line DeadlineLine deadline c h.1.1.0.0 h.1.1.0.1 in
    let k = told_number_line BoundLine bound d h.1.1.1.0.0 h.1.1.1.0.1 in
    let t = told_label_line l h.1.1.1.1.0.0 h.1.1.1.1.0.1 in
    record {
      groups = record { job = record { number = n.0; work = w.0; deadline = f.0; bound = k.0 }; label = t.0 } ∷ r.groups;
      typed = (record { number = n.1; work = w.1; deadline = f.1; bound = k.1; label = t.1 }, r.typed);
      same = ap₂ ◌∷◌ n.2 (ap₂ ◌∷◌ w.2 (ap₂ ◌∷◌ f.2 (ap₂ ◌∷◌ k.2 (ap₂ ◌∷◌ t.2 r.same))));
    }

pub good_lines : (lines : List (List ℕ)) → Fits MachinesLine lines → kind_after MachinesLine lines ≡ JobLine → GoodFile (ended lines)
unfolding at_job file_text
good_lines [] h e = no_job MachinesLine refl e
good_lines (line ∷ lines) h e =
    let m = told_number_line MachinesLine machines line h.0.0 h.0.1 in
    let r = grouped lines h.1 e in (
      record { machines = m.0; groups = r.groups },
      record { machines = m.1; groups = r.typed },
      ap ended (ap₂ ◌∷◌ m.2 r.same),
    )

-- lines of their kinds can be continued to a whole file
Completed : LineKind → Type 0
Completed kind = (more : List (List ℕ)) × Fits kind more × (kind_after kind more ≡ JobLine)

zero_more : (kind : LineKind) → Numeric kind → Completed (following kind) → Completed kind
unfolding Completed
zero_more kind k c = (number_line kind 0 ∷ c.0, ((_, number_line_told kind k 0 (omega arith)), c.1), c.2)

label_more : Completed LabelLine
unfolding Completed
label_more = (line_of LabelLine [] ∷ [], ((_, label_line_told [] (record { most = omega arith; printable = tt })), tt), refl)

bound_more : Completed BoundLine
bound_more = zero_more BoundLine bound label_more

deadline_more : Completed DeadlineLine
deadline_more = zero_more DeadlineLine deadline bound_more

complete : (kind : LineKind) → Completed kind
unfolding Completed
complete MachinesLine = zero_more MachinesLine machines ([], tt, refl)
complete JobLine = ([], tt, refl)
complete WorkLine = zero_more WorkLine work deadline_more
complete DeadlineLine = deadline_more
complete BoundLine = bound_more
complete LabelLine = label_more

pub fits_begins : (lines : List (List ℕ)) → Fits MachinesLine lines → BeginsGood (ended lines)
unfolding Completed
fits_begins lines h =
    let c = complete (kind_after MachinesLine lines) in
    let g = good_lines (lines ++ c.0) (fits_join MachinesLine lines c.0 h c.1) (after_join MachinesLine lines c.0 ∙ c.2) in
    (ended c.0, rw (← ended_join lines c.0) g)

pub begins_fits : (lines : List (List ℕ)) → All OneLine lines → BeginsGood (ended lines) → Fits MachinesLine lines
begins_fits lines o (more, (f, typed, e)) =
    let same : file_lines f ≡ lines ++ (cut more).whole = ap (λ (l : Lines). l.whole) (sym (cut_file f typed) ∙ ap cut e ∙ cut_ended lines more o) in
    fits_front MachinesLine lines (cut more).whole (subst (λ (w : List (List ℕ)). Fits MachinesLine w) same (file_fits f typed))
