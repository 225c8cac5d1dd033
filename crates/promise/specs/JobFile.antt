-- 01, "The job file and the program": what a job file is, and what its reader answers for any bytes.
use Rattle.std.specs.Prelude.{ℕ, suc, ◌-◌, ◌/◌, ◌<◌, ◌≡◌, ◌≢◌, ◌⊎◌, cond, List, [], ◌∷◌, ◌++◌, ltb, eqb, length, get_or, drop, replicate}
use Rattle.std.proofs.Math.Option.{Option, some, none}
use Rattle.model.specs.Lists.{All}
use Rattle.model.specs.Jobs.{Job}
use Rattle.promise.specs.declared.Answer.{Answer}
use Rattle.promise.specs.Records.{Reading}
use Rattle.promise.specs.declared.LineKind.{LineKind}
use Rattle.promise.specs.declared.LineKind.TheVariants.{MachinesLine, JobLine, WorkLine, DeadlineLine, BoundLine, LabelLine}
use Rattle.promise.specs.Answers as answers
use Rattle.promise.specs.Texts.{ascii, padded, decimal, LabelText, is_label, read_number, newline, ended, Lines, cut}

-- "each its name, "=" and a number or the label"
abbrev pub key : LineKind → List ℕ
key MachinesLine = ascii "machines="
key JobLine = ascii "job="
key WorkLine = ascii "work="
key DeadlineLine = ascii "deadline="
key BoundLine = ascii "bound="
key LabelLine = ascii "label="

abbrev pub line_of : LineKind → List ℕ → List ℕ
line_of kind text = key kind ++ text

abbrev pub number_line : LineKind → ℕ → List ℕ
number_line kind n = line_of kind (decimal n)

-- a job as it is typed, with its label
pub record Group : Type 0 where
  pub job : Job
  pub label : List ℕ

-- what a department types
pub record File : Type 0 where
  pub machines : ℕ
  pub groups : List Group

-- "Then five lines a job: job, work, deadline, bound, label, in that order"
abbrev pub groups_lines : List Group → List (List ℕ)
groups_lines [] = []
groups_lines (g ∷ gs) =
    number_line JobLine g.job.number
    ∷ number_line WorkLine g.job.work
    ∷ number_line DeadlineLine g.job.deadline
    ∷ number_line BoundLine g.job.bound
    ∷ line_of LabelLine g.label
    ∷ groups_lines gs

-- the text of a file: "The first line starts with the bytes "machines=", then a number."
abbrev pub file_lines : File → List (List ℕ)
file_lines f = number_line MachinesLine f.machines ∷ groups_lines f.groups

unfoldable pub file_text : File → List ℕ
file_text f = ended (file_lines f)

-- a file that can be typed: numbers of at most 7 digits, and labels
pub record TypedGroup (g : Group) : Type 0 where
  pub number : g.job.number < 10000000
  pub work : g.job.work < 10000000
  pub deadline : g.job.deadline < 10000000
  pub bound : g.job.bound < 10000000
  pub label : LabelText g.label

pub record Typed (f : File) : Type 0 where
  pub machines : f.machines < 10000000
  pub groups : All TypedGroup f.groups

-- the bytes are a job file, of any length
abbrev pub GoodFile : List ℕ → Type 0
GoodFile bytes = (f : File) × Typed f × (file_text f ≡ bytes)

-- some job file, of any length, begins with these bytes
abbrev pub BeginsGood : List ℕ → Type 0
BeginsGood bytes = (more : List ℕ) × GoodFile (bytes ++ more)

-- no newline in it
abbrev pub OneLine : List ℕ → Type 0
OneLine bytes = All (λ b. b ≢ newline) bytes

-- the first bad line of some bytes is line ℓ: some job file begins with the lines before it; and either the line is ended and
-- no job file begins with the lines through it, or the bytes end before the line does and are not a job file
pub record BadLine (bytes : List ℕ) (ℓ : ℕ) : Type 0 where
  pub lines : List (List ℕ)
  pub after : List ℕ
  pub split : bytes ≡ ended lines ++ after
  pub each : All OneLine lines
  pub counted : ℓ ≡ suc (length lines)
  pub begins : BeginsGood (ended lines)
  pub bad :
      ((line : List ℕ) × (more : List ℕ) × OneLine line × (after ≡ line ++ (newline ∷ more)) × (¬ BeginsGood (ended lines ++ (line ++ (newline ∷ [])))))
      ⊎ (OneLine after × (¬ GoodFile bytes))

-- The reader.
-- what stands after a key, if the line starts with it
abbrev pub after_key : List ℕ → List ℕ → Option (List ℕ)
after_key [] line = some line
after_key (k ∷ ks) [] = none
after_key (k ∷ ks) (b ∷ line) = cond (eqb b k) (after_key ks line) none

-- the numbers that a line tells: one, none if it has a label, or it is bad
abbrev pub number_told : Option ℕ → Option (List ℕ)
number_told none = none
number_told (some n) = some (n ∷ [])

unfoldable pub label_told : List ℕ → Option (List ℕ)
label_told text = cond (is_label text) (some []) none

abbrev pub number_after : Option (List ℕ) → Option (List ℕ)
number_after none = none
number_after (some text) = number_told (read_number text)

abbrev pub label_after : Option (List ℕ) → Option (List ℕ)
label_after none = none
label_after (some text) = label_told text

abbrev pub told : LineKind → Option (List ℕ) → Option (List ℕ)
told LabelLine text = label_after text
told MachinesLine text = number_after text
told JobLine text = number_after text
told WorkLine text = number_after text
told DeadlineLine text = number_after text
told BoundLine text = number_after text

unfoldable pub told_by : LineKind → List ℕ → Option (List ℕ)
told_by kind line = told kind (after_key (key kind) line)

abbrev pub following : LineKind → LineKind
following MachinesLine = JobLine
following JobLine = WorkLine
following WorkLine = DeadlineLine
following DeadlineLine = BoundLine
following BoundLine = LabelLine
following LabelLine = JobLine

-- what a file says: its numbers in their order, or its first bad line
pub data Said : Type 0 where
  bad : ℕ → Said
  says : List ℕ → Said

abbrev pub and_then : Option (List ℕ) → ℕ → Said → Said
and_then none ℓ later = bad ℓ
and_then (some numbers) ℓ (bad m) = bad m
and_then (some numbers) ℓ (says more) = says (numbers ++ more)

-- "A missing line in a group is bad at the place where it should stand": a file may end only where a job could begin
abbrev pub at_end : LineKind → ℕ → List ℕ → Said
at_end JobLine ℓ [] = says []
at_end JobLine ℓ (b ∷ bs) = bad ℓ
at_end MachinesLine ℓ rest = bad ℓ
at_end WorkLine ℓ rest = bad ℓ
at_end DeadlineLine ℓ rest = bad ℓ
at_end BoundLine ℓ rest = bad ℓ
at_end LabelLine ℓ rest = bad ℓ

-- the lines from line ℓ on, the first of them of this kind
abbrev pub lines_say : LineKind → ℕ → List (List ℕ) → List ℕ → Said
lines_say kind ℓ [] rest = at_end kind ℓ rest
lines_say kind ℓ (line ∷ lines) rest = and_then (told_by kind line) ℓ (lines_say (following kind) (suc ℓ) lines rest)

abbrev pub lines_in : LineKind → ℕ → Lines → Said
lines_in kind ℓ lines = lines_say kind ℓ lines.whole lines.rest

unfoldable pub file_says : List ℕ → Said
file_says bytes = lines_in MachinesLine 1 (cut bytes)

-- what was read: the first number is the machine count, the others are the rows, of which 128 numbers are held
unfoldable pub reading_from : List ℕ → Reading
reading_from numbers = record {
  answer = answers.yes;
  machines = get_or numbers 0 0;
  groups = (length numbers - 1) / 4;
  rows = padded 128 (drop 1 numbers);
}

unfoldable pub not_read : Answer → Reading
not_read a = record { answer = a; machines = 0; groups = 0; rows = replicate 128 0 }

abbrev pub reading_said : Said → Reading
reading_said (bad ℓ) = not_read (answers.refusal 13 ℓ 0)
reading_said (says numbers) = reading_from numbers

-- "14 job file over 4,096 bytes", first
unfoldable pub reading_of : List ℕ → Reading
reading_of bytes = cond (ltb 4096 (length bytes)) (not_read (answers.refusal 14 0 0)) (reading_said (file_says bytes))

-- the promise of the reader
abbrev pub ReadingPromise : List ℕ → Reading → Type 0
ReadingPromise bytes r = r ≡ reading_of bytes

-- the numbers of some groups, row after row
abbrev pub numbers_of : List Group → List ℕ
numbers_of [] = []
numbers_of (g ∷ gs) = g.job.number ∷ g.job.work ∷ g.job.deadline ∷ g.job.bound ∷ numbers_of gs
