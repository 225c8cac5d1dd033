-- The parts of the job file's reader, as the code takes them one by one.
use Rattle.std.specs.Prelude.{ℕ, ◌+◌, Bool, true, false, List, [], ◌∷◌, set}
use Rattle.std.specs.declared.option.Option as code
use Rattle.std.specs.declared.option.Option.TheVariants.{None, Some}
use Rattle.std.proofs.Math.Option.{Option, some, none}
use Rattle.promise.specs.declared.LineKind.{LineKind}
use Rattle.promise.specs.declared.LineKind.TheVariants.{MachinesLine, JobLine, WorkLine, DeadlineLine, BoundLine, LabelLine}
use Rattle.jobfile.specs.declared.Kept.{Kept}

-- a number or none, as a list
abbrev pub numbers : code.Option ℕ → List ℕ
numbers None = []
numbers (Some n) = n ∷ []

-- the numbers that a line tells: one, none if it has a label, or it is bad
abbrev pub number_as : code.Option ℕ → Option (List ℕ)
number_as None = none
number_as (Some n) = some (n ∷ [])

abbrev pub label_as : Bool → Option (List ℕ)
label_as true = some []
label_as false = none

abbrev pub told_as : code.Option (code.Option ℕ) → Option (List ℕ)
told_as None = none
told_as (Some number) = some (numbers number)

-- numbers of the rows, kept one after the other: those past the rows are only counted
abbrev pub rows_kept : Kept → List ℕ → Kept
rows_kept k [] = k
rows_kept k (n ∷ ns) = rows_kept (record { machines = k.machines; count = k.count + 1; rows = set k.rows k.count n }) ns

-- the numbers of the lines from a line of this kind on, kept: the machines line's is the machine count
abbrev pub kept_with : LineKind → Kept → List ℕ → Kept
kept_with MachinesLine k [] = k
kept_with MachinesLine k (n ∷ ns) = rows_kept (record { machines = n; count = k.count; rows = k.rows }) ns
kept_with JobLine k ns = rows_kept k ns
kept_with WorkLine k ns = rows_kept k ns
kept_with DeadlineLine k ns = rows_kept k ns
kept_with BoundLine k ns = rows_kept k ns
kept_with LabelLine k ns = rows_kept k ns
