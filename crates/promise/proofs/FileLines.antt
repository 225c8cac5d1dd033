-- The lines of a job file: what a line tells, and bytes cut into lines.
use Prim.Native.Nat.{ℕ, ◌≤◌, ◌<◌}
use native.Mathlib.Omega.{arith}
use mathlib.Core.Path.{◌≡◌, refl, sym, ◌∙◌, ap, ap₂}
use mathlib.Core.Logic.{◌≢◌}
use mathlib.Core.Bool.{Bool, true, false, cond}
use mathlib.Core.List.{List, [], ◌∷◌, ◌++◌, append_assoc, append-nil, append_cancel_left, head-eq_of_cons-eq, tail-eq_of_cons-eq, cons≢nil}
use mathlib.Core.Option.{Option, some, none, none-ne-some, some-injective}
use lib.Dec.{eqb}
use borrow.Author.Tests.{eqb-true, eqb-false, eq-eqb}
use Rattle.model.specs.Lists.{All}
use Rattle.model.proofs.Lists.{All-map}
use Rattle.promise.specs.declared.LineKind.{LineKind}
use Rattle.promise.specs.declared.LineKind.TheVariants.{MachinesLine, JobLine, WorkLine, DeadlineLine, BoundLine, LabelLine}
use Rattle.promise.specs.Texts.{decimal, LabelText, is_label, read_number, newline, ended, Lines, in_front, cut}
use Rattle.promise.specs.JobFile.{key, line_of, number_line, Group, File, groups_lines, file_lines, file_text, TypedGroup, Typed, OneLine, after_key, number_told, label_told, number_after, told, told_by}
use Rattle.promise.specs.TextClaims.{FilesHaveTheirOwnText}
use Rattle.promise.proofs.TextTests.{label_told_lem, told_label}
use Rattle.promise.proofs.Digits.{Digit, decimal_digits, numbers_are_read_back, numbers_are_printed_back}
use Rattle.promise.proofs.Lines.{cut_line}

-- a key is taken off, and only from a line that starts with it
key_off : (k text : List ℕ) → after_key k (k ++ text) ≡ some text
key_off [] text = refl
key_off (b ∷ k) text = rw (eq-eqb b b refl) (key_off k text)

key_on : (k line text : List ℕ) → after_key k line ≡ some text → line ≡ k ++ text
key_on [] line text e = some-injective line text e
key_on (b ∷ k) [] text e = absurd (none-ne-some text e)
key_on (b ∷ k) (c ∷ line) text e = go (eqb c b) refl e (key_on k line text)
  where
    go : (t : Bool) → eqb c b ≡ t → cond t (after_key k line) none ≡ some text → (after_key k line ≡ some text → line ≡ k ++ text)
        → c ∷ line ≡ b ∷ (k ++ text)
    go true q h r = ap₂ ◌∷◌ (eqb-true c b q) (r h)
    go false q h r = absurd (none-ne-some text h)

-- the lines that tell a number
pub data Numeric : LineKind → Type 0 where
  machines : Numeric MachinesLine
  job : Numeric JobLine
  work : Numeric WorkLine
  deadline : Numeric DeadlineLine
  bound : Numeric BoundLine

numeric_told : (kind : LineKind) → Numeric kind → (after : Option (List ℕ)) → told kind after ≡ number_after after
numeric_told kind machines after = refl
numeric_told kind job after = refl
numeric_told kind work after = refl
numeric_told kind deadline after = refl
numeric_told kind bound after = refl

pub number_line_told : (kind : LineKind) → Numeric kind → (n : ℕ) → n < 10000000 → told_by kind (number_line kind n) ≡ some (n ∷ [])
unfolding told_by
number_line_told kind k n l = rw (key_off (key kind) (decimal n)) (numeric_told kind k (some (decimal n)) ∙ ap number_told (numbers_are_read_back n l).1)

pub label_line_told : (text : List ℕ) → LabelText text → told_by LabelLine (line_of LabelLine text) ≡ some []
unfolding told_by label_told
label_line_told text h = ap (told LabelLine) (key_off (key LabelLine) text) ∙ rw (told_label text h)

-- a line that tells numbers, and what it is
abbrev pub NumberSaid : LineKind → List ℕ → List ℕ → Type 0
NumberSaid kind line ns = (n : ℕ) × (n < 10000000) × (number_line kind n ≡ line) × (ns ≡ n ∷ [])

abbrev pub LabelSaid : List ℕ → List ℕ → Type 0
LabelSaid line ns = (text : List ℕ) × LabelText text × (line_of LabelLine text ≡ line) × (ns ≡ [])

pub told_number_line : (kind : LineKind) → Numeric kind → (line ns : List ℕ) → told_by kind line ≡ some ns → NumberSaid kind line ns
unfolding told_by
told_number_line kind k line ns e = go (after_key (key kind) line) refl (sym (numeric_told kind k (after_key (key kind) line)) ∙ e)
  where
    read : (text : List ℕ) → line ≡ key kind ++ text → (o : Option ℕ) → read_number text ≡ o → number_told o ≡ some ns → NumberSaid kind line ns
    read text q none r h = absurd (none-ne-some ns h)
    read text q (some n) r h =
        let p = (numbers_are_printed_back text).0 n r in
        (n, p.1, ap (λ (t : List ℕ). key kind ++ t) p.2 ∙ sym q, sym (some-injective (n ∷ []) ns h))

    go : (o : Option (List ℕ)) → after_key (key kind) line ≡ o → number_after o ≡ some ns → NumberSaid kind line ns
    go none q h = absurd (none-ne-some ns h)
    go (some text) q h = read text (key_on (key kind) line text q) (read_number text) refl h

pub told_label_line : (line ns : List ℕ) → told_by LabelLine line ≡ some ns → LabelSaid line ns
unfolding told_by label_told
told_label_line line ns e = go (after_key (key LabelLine) line) refl e
  where
    read : (text : List ℕ) → line ≡ key LabelLine ++ text → (t : Bool) → is_label text ≡ t → cond t (some []) none ≡ some ns → LabelSaid line ns
    read text q true r h = (text, label_told_lem text r, sym q, sym (some-injective [] ns h))
    read text q false r h = absurd (none-ne-some ns h)

    go : (o : Option (List ℕ)) → after_key (key LabelLine) line ≡ o → told LabelLine o ≡ some ns → LabelSaid line ns
    go none q h = absurd (none-ne-some ns h)
    go (some text) q h = read text (key_on (key LabelLine) line text q) (is_label text) refl h

-- no newline in a line of a file
one_line_join : (a b : List ℕ) → OneLine a → OneLine b → OneLine (a ++ b)
one_line_join [] b h k = k
one_line_join (c ∷ a) b h k = (h.0, one_line_join a b h.1 k)

key_one_line : (kind : LineKind) → OneLine (key kind)
key_one_line MachinesLine = omega arith
key_one_line JobLine = omega arith
key_one_line WorkLine = omega arith
key_one_line DeadlineLine = omega arith
key_one_line BoundLine = omega arith
key_one_line LabelLine = omega arith

number_one_line : (kind : LineKind) (n : ℕ) → OneLine (number_line kind n)
number_one_line kind n =
    one_line_join (key kind) (decimal n) (key_one_line kind) (All-map (λ b (h : Digit b). omega arith) (decimal n) (decimal_digits n).2)

label_one_line : (text : List ℕ) → LabelText text → OneLine (line_of LabelLine text)
label_one_line text h =
    one_line_join (key LabelLine) text (key_one_line LabelLine) (All-map (λ b (k : (0x20 ≤ b) × (b ≤ 0x7e)). omega arith) text h.printable)

pub groups_one_line : (gs : List Group) → All TypedGroup gs → All OneLine (groups_lines gs)
groups_one_line [] h = tt
groups_one_line (g ∷ gs) h = (
  number_one_line JobLine g.job.number,
  (
    number_one_line WorkLine g.job.work,
    (
      number_one_line DeadlineLine g.job.deadline,
      (number_one_line BoundLine g.job.bound, (label_one_line g.label h.0.label, groups_one_line gs h.1)),
    ),
  ),
)

-- lines that end, cut off the bytes before more
pub cut_ended : (lines : List (List ℕ)) (more : List ℕ) → All OneLine lines
    → cut (ended lines ++ more) ≡ record { whole = lines ++ (cut more).whole; rest = (cut more).rest }
cut_ended [] more h = refl
cut_ended (line ∷ lines) more h =
    rw (append_assoc line (newline ∷ ended lines) more)
    (cut_line line (ended lines ++ more) h.0
    ∙ ap {B = Lines} (λ (l : Lines). record { whole = line ∷ l.whole; rest = l.rest }) (cut_ended lines more h.1))

-- bytes are some lines and a rest
pub record Joined (bytes : List ℕ) (l : Lines) : Type 0 where
  pub same : bytes ≡ ended l.whole ++ l.rest
  pub each : All OneLine l.whole
  pub last : OneLine l.rest

in_front_lem : (b : ℕ) (bytes : List ℕ) → b ≢ newline → (whole : List (List ℕ)) (rest : List ℕ)
    → Joined bytes (record { whole = whole; rest = rest }) → Joined (b ∷ bytes) (in_front b whole rest)
in_front_lem b bytes n [] rest j = record { same = ap (λ (t : List ℕ). b ∷ t) j.same; each = tt; last = (n, j.last) }
in_front_lem b bytes n (line ∷ lines) rest j =
    record { same = ap (λ (t : List ℕ). b ∷ t) j.same; each = ((n, j.each.0), j.each.1); last = j.last }

-- any bytes, cut and put together again
pub joined : (bytes : List ℕ) → Joined bytes (cut bytes)
joined [] = record { same = refl; each = tt; last = tt }
joined (b ∷ bytes) = go (eqb b newline) refl (joined bytes)
  where
    go : (t : Bool) → eqb b newline ≡ t → Joined bytes (cut bytes)
        → Joined (b ∷ bytes)
        (cond t (record { whole = [] ∷ (cut bytes).whole; rest = (cut bytes).rest }) (in_front b (cut bytes).whole (cut bytes).rest))
    go true e j = record { same = ap₂ ◌∷◌ (eqb-true b newline e) j.same; each = (tt, j.each); last = j.last }
    go false e j = in_front_lem b bytes (eqb-false b newline e) (cut bytes).whole (cut bytes).rest j

-- the lines of a file are what its text is cut into
pub file_one_line : (f : File) → Typed f → All OneLine (file_lines f)
file_one_line f h = (number_one_line MachinesLine f.machines, groups_one_line f.groups h.groups)

pub cut_file : (f : File) → Typed f → cut (file_text f) ≡ record { whole = file_lines f; rest = [] }
unfolding file_text
cut_file f h =
    ap cut (sym (append-nil (ended (file_lines f)))) ∙ cut_ended (file_lines f) [] (file_one_line f h)
    ∙ ap {B = Lines} (λ (w : List (List ℕ)). record { whole = w; rest = [] }) (append-nil (file_lines f))

-- the same line, the same number or label
same_number : (kind : LineKind) → Numeric kind → (n m : ℕ) → n < 10000000 → m < 10000000 → number_line kind n ≡ number_line kind m → n ≡ m
same_number kind k n m a b e =
    head-eq_of_cons-eq
    (some-injective (n ∷ []) (m ∷ []) (sym (number_line_told kind k n a) ∙ ap (told_by kind) e ∙ number_line_told kind k m b))

same_label : (s t : List ℕ) → line_of LabelLine s ≡ line_of LabelLine t → s ≡ t
same_label s t e = append_cancel_left (key LabelLine) s t e

same_group : (g h : Group) → g.job.number ≡ h.job.number → g.job.work ≡ h.job.work → g.job.deadline ≡ h.job.deadline
    → g.job.bound ≡ h.job.bound → g.label ≡ h.label → g ≡ h
same_group g h n w d b l i = record { job = record { number = n i; work = w i; deadline = d i; bound = b i }; label = l i }

same_groups : (gs hs : List Group) → All TypedGroup gs → All TypedGroup hs → groups_lines gs ≡ groups_lines hs → gs ≡ hs
same_groups [] [] a b e = refl
same_groups [] (h ∷ hs) a b e = absurd (cons≢nil (sym e))
same_groups (g ∷ gs) [] a b e = absurd (cons≢nil e)
same_groups (g ∷ gs) (h ∷ hs) a b e =
    let e₁ = tail-eq_of_cons-eq e in
    let e₂ = tail-eq_of_cons-eq e₁ in
    let e₃ = tail-eq_of_cons-eq e₂ in
    let e₄ = tail-eq_of_cons-eq e₃ in
    let ga = a.0 in
    let hb = b.0 in
    ap₂ ◌∷◌
    (same_group g h
    (same_number JobLine job g.job.number h.job.number ga.number hb.number (head-eq_of_cons-eq e))
    (same_number WorkLine work g.job.work h.job.work ga.work hb.work (head-eq_of_cons-eq e₁))
    (same_number DeadlineLine deadline g.job.deadline h.job.deadline ga.deadline hb.deadline (head-eq_of_cons-eq e₂))
    (same_number BoundLine bound g.job.bound h.job.bound ga.bound hb.bound (head-eq_of_cons-eq e₃))
    (same_label g.label h.label (head-eq_of_cons-eq e₄)))
    (same_groups gs hs a.1 b.1 (tail-eq_of_cons-eq e₄))

pub files_have_their_own_text : FilesHaveTheirOwnText
files_have_their_own_text f g h k e =
    let same : file_lines f ≡ file_lines g = ap (λ (l : Lines). l.whole) (sym (cut_file f h) ∙ ap cut e ∙ cut_file g k) in
    let m = same_number MachinesLine machines f.machines g.machines h.machines k.machines (head-eq_of_cons-eq same) in
    let gs = same_groups f.groups g.groups h.groups k.groups (tail-eq_of_cons-eq same) in
    λ i. record { machines = m i; groups = gs i }
