-- The headline statements about the job file and the printed text, each a proposition with a name. proofs/Theorems.antt has one
-- theorem for each.
use Rattle.std.specs.Prelude.{ℕ, ◌*◌, ◌≤◌, ◌<◌, ◌≡◌, ◌≢◌, ◌⊎◌, ◌↔◌, length, replicate}
use mathlib.Core.List.{List, ◌∷◌, map, Memᴰ}
use Rattle.std.proofs.Math.Option.{some, none}
use Rattle.model.specs.Lists.{All, Perm, Rising, span}
use Rattle.model.specs.Jobs.{Job, counted}
use Rattle.model.specs.Rule.{plan}
use Rattle.promise.specs.declared.Answer.{Answer}
use Rattle.promise.specs.Records.{Reading}
use Rattle.promise.specs.declared.Text.{Text}
use Rattle.promise.specs.declared.LineKind.TheVariants.{MachinesLine}
use Rattle.promise.specs.Answers.{refusal}
use Rattle.promise.specs.Answers as answers
use Rattle.promise.specs.Lists.{plan_answer}
use Rattle.promise.specs.Texts.{ascii, padded, decimal, NumberText, read_number, ended}
use Rattle.promise.specs.JobFile.{number_line, Group, File, file_text, Typed, GoodFile, BadLine, reading_of, ReadingPromise, numbers_of}
use Rattle.promise.specs.PlanText.{refusal_text, pair_text, pairs_from, plan_text, TextPromise, lines_by_number}

-- numbers: what is printed is a number's text and is read back, and what is read is what would be printed
abbrev pub NumbersAreReadBack : Type 0
NumbersAreReadBack = (n : ℕ) → n < 10000000 → NumberText (decimal n) × (read_number (decimal n) ≡ some n)

abbrev pub NumbersArePrintedBack : Type 0
NumbersArePrintedBack =
    (bytes : List ℕ)
    → ((n : ℕ) → read_number bytes ≡ some n → NumberText bytes × (n < 10000000) × (decimal n ≡ bytes))
    × (read_number bytes ≡ none → ¬ NumberText bytes)

-- J: what the reader answers, for every run of bytes
pub record Read (bytes : List ℕ) : Type 0 where
  pub fourteen : ((reading_of bytes).answer ≡ refusal 14 0 0) ↔ (4096 < length bytes)
  pub good : length bytes ≤ 4096 → ((reading_of bytes).answer ≡ answers.yes) ↔ GoodFile bytes
  -- the count, the number of groups and the rows are those that were typed
  pub as_typed : length bytes ≤ 4096 → (f : File) → Typed f → file_text f ≡ bytes
      → reading_of bytes ≡ record { answer = answers.yes; machines = f.machines; groups = length f.groups; rows = padded 128 (numbers_of f.groups) }
  pub thirteen : length bytes ≤ 4096 → (ℓ : ℕ) → ((reading_of bytes).answer ≡ refusal 13 ℓ 0) ↔ BadLine bytes ℓ
  -- there is no other answer, and "A call's other figures are 0 in a refusal"
  pub one_of_these : ((reading_of bytes).answer ≡ answers.yes) ⊎ ((ℓ : ℕ) × ((reading_of bytes).answer ≡ refusal 13 ℓ 0)) ⊎ ((reading_of bytes).answer ≡ refusal 14 0 0)
  pub no_figures : (reading_of bytes).answer.number ≢ 0
      → ((reading_of bytes).machines ≡ 0) × ((reading_of bytes).groups ≡ 0) × ((reading_of bytes).rows ≡ replicate 128 0)

abbrev pub FileIsRead : Type 0
FileIsRead = (bytes : List ℕ) → Read bytes

-- J: no two files have the same text, labels included
abbrev pub FilesHaveTheirOwnText : Type 0
FilesHaveTheirOwnText = (f g : File) → Typed f → Typed g → file_text f ≡ file_text g → f ≡ g

-- the jobs of a file, in file order
abbrev pub file_jobs : File → List Job
file_jobs f = map (λ (g : Group). g.job) f.groups

-- the answer of Plan for the rows of a file, with a buffer that is just long enough
abbrev pub file_answer : File → Answer
file_answer f = plan_answer f.machines (numbers_of f.groups) (168 * length f.groups)

-- the printed plan of some jobs, with the run lines that the numbers have among these jobs
abbrev pub printed_plan : ℕ → List Job → List Job → List ℕ
printed_plan machines among jobs = ended (number_line MachinesLine machines ∷ ascii "result=plan" ∷ lines_by_number machines (counted machines among) jobs)

-- T: the printed text, every byte, for every run of bytes: too long, a bad line, or a file, which is refused or planned
pub record Printed (bytes : List ℕ) : Type 0 where
  pub too_long : 4096 < length bytes → plan_text bytes ≡ refusal_text (refusal 14 0 0)
  pub bad_line : length bytes ≤ 4096 → (ℓ : ℕ) → BadLine bytes ℓ → plan_text bytes ≡ refusal_text (refusal 13 ℓ 0)
  pub refused : length bytes ≤ 4096 → (f : File) → Typed f → file_text f ≡ bytes → (file_answer f).number ≢ 0 → plan_text bytes ≡ refusal_text (file_answer f)
  pub planned : length bytes ≤ 4096 → (f : File) → Typed f → file_text f ≡ bytes → (file_answer f).number ≡ 0
      → plan_text bytes ≡ printed_plan f.machines (file_jobs f) (file_jobs f)

abbrev pub TextIsPrinted : Type 0
TextIsPrinted = (bytes : List ℕ) → Printed bytes

-- T: a file's rows are never a 2 or a 6: 1, 3, 4, 5 and 7 are left, by `plan_answers_by_the_table`
abbrev pub FilesAreNoTwoNorSix : Type 0
FilesAreNoTwoNorSix = (f : File) → ((file_answer f).number ≢ 2) × ((file_answer f).number ≢ 6)

-- T: every number that is printed has at most 7 digits, so that its text is its own
pub record PrintsWhole (f : File) : Type 0 where
  pub refusal_whole : ((file_answer f).number < 10000000) × ((file_answer f).place < 10000000) × ((file_answer f).amount < 10000000)
  pub count_whole : (file_answer f).number ≡ 0 → f.machines ≤ 64
  pub jobs_whole : (file_answer f).number ≡ 0
      → All (λ j. (j.number ≤ 65535) × ((t : ℕ) → 1 ≤ t → plan f.machines (counted f.machines (file_jobs f)) j.number t ≤ 64)) (file_jobs f)

abbrev pub PrintedNumbersAreWhole : Type 0
PrintedNumbersAreWhole = ((bytes : List ℕ) (ℓ : ℕ) → length bytes ≤ 4096 → BadLine bytes ℓ → ℓ ≤ 4097) × ((f : File) → PrintsWhole f)

-- T: the pairs of a run line: just the slots with machines above 0, rising
abbrev pub PairsAreTheSlotsInUse : Type 0
PairsAreTheSlotsInUse =
    (machines : ℕ → ℕ)
    → (slots : List ℕ)
    × Rising slots
    × ((t : ℕ) → Memᴰ t slots ↔ ((1 ≤ t) × (t ≤ 168) × (0 < machines t)))
    × (pairs_from 1 (span 1 168 machines) ≡ map (λ t. pair_text t (machines t)) slots)

-- labels play no part
abbrev pub LabelsPlayNoPart : Type 0
LabelsPlayNoPart =
    (f g : File) → Typed f → Typed g → f.machines ≡ g.machines → file_jobs f ≡ file_jobs g
    → length (file_text f) ≤ 4096 → length (file_text g) ≤ 4096
    → plan_text (file_text f) ≡ plan_text (file_text g)

-- the same jobs in another order: each number has the run line that it has in the first file, in the second file's order
abbrev pub FileOrderPlaysNoPart : Type 0
FileOrderPlaysNoPart =
    (f g : File) → Typed f → Typed g → f.machines ≡ g.machines → Perm (file_jobs f) (file_jobs g)
    → length (file_text f) ≤ 4096 → length (file_text g) ≤ 4096 → (file_answer f).number ≡ 0
    → plan_text (file_text g) ≡ printed_plan f.machines (file_jobs f) (file_jobs g)

-- the longest text fits
abbrev pub TextFits : Type 0
TextFits = (bytes : List ℕ) → length (plan_text bytes) ≤ 40960

-- uniqueness
abbrev pub TextPromisesLeaveOne : Type 0
TextPromisesLeaveOne =
    (bytes : List ℕ)
    → ((r r' : Reading) → ReadingPromise bytes r → ReadingPromise bytes r' → r ≡ r')
    × ((x x' : Text) → TextPromise bytes x → TextPromise bytes x' → x ≡ x')
