-- 01, "Refusal numbers": the number, place and amount of each refusal of the code, and the record that each outcome stands for.
use Rattle.std.specs.Prelude.{ℕ, ℤ, pos, List, replicate}
use Rattle.std.specs.Result.{result_unwrap_or}
use Rattle.std.specs.declared.result.Result.{Result}
use Rattle.std.specs.declared.result.Result.TheVariants.{Ok, Err}
use Rattle.promise.specs.declared.Answer.{Answer}
use Rattle.promise.specs.declared.Field as code
use Rattle.promise.specs.declared.Field.TheVariants.{Number, Work, Deadline, Bound}
use Rattle.promise.specs.declared.Refusal.{Refusal}
use Rattle.promise.specs.declared.Refusal.TheVariants.{MachineCount, ListLength, ManyRows, BadField, SeenNumber, ShortBuffer, NoFit, FullDesk, FarBoundary, NotHeld, ClockAtEnd, NotSound, BadLine, LongFile}
use Rattle.promise.specs.declared.Outcome.{Outcome}
use Rattle.promise.specs.declared.Figures.{Figures}
use Rattle.promise.specs.declared.Given.{Given}
use Rattle.promise.specs.declared.JobFile.{JobFile}
use Rattle.promise.specs.Answers.{yes, refusal}
use Rattle.promise.specs.Rows as rows
use Rattle.promise.specs.Rows.{the_number, the_work, the_deadline, the_bound, field_number}
use Rattle.promise.specs.Records.{RoomAnswer, Desked, Withdrawn, Looked, Ran, Reading}

abbrev pub as_field : code.Field → rows.Field
as_field Number = the_number
as_field Work = the_work
as_field Deadline = the_deadline
as_field Bound = the_bound

-- 01's table, row by row
abbrev pub numbered : Refusal → Answer
numbered MachineCount = refusal 1 0 0
numbered ListLength = refusal 2 0 0
numbered ManyRows = refusal 3 0 0
numbered (BadField row field) = refusal 4 row (field_number (as_field field))
numbered (SeenNumber row) = refusal 5 row 0
numbered ShortBuffer = refusal 6 0 0
numbered (NoFit boundary shortage) = refusal 7 boundary shortage
numbered FullDesk = refusal 8 0 0
numbered FarBoundary = refusal 9 0 0
numbered NotHeld = refusal 10 0 0
numbered ClockAtEnd = refusal 11 0 0
numbered NotSound = refusal 12 0 0
numbered (BadLine line) = refusal 13 line 0
numbered LongFile = refusal 14 0 0

module _ {A : Type 0} where
  abbrev pub as_answer : Result A Refusal → Answer
  as_answer (Ok _) = yes
  as_answer (Err e) = numbered e

-- "A call's other figures are 0 in a refusal"
abbrev pub as_room_answer : Result ℤ Refusal → RoomAnswer
as_room_answer r = record { answer = as_answer r; room = result_unwrap_or r (pos 0) }

abbrev pub as_desked : Outcome Unit → Desked
as_desked o = record { answer = as_answer o.answer; desk = o.desk }

abbrev pub as_withdrawn : Outcome ℕ → Withdrawn
as_withdrawn o = record { answer = as_answer o.answer; left = result_unwrap_or o.answer 0; desk = o.desk }

abbrev pub no_figures : Figures
no_figures = record { left = 0; deadline = 0; bound = 0; leeway = 0 }

abbrev pub as_looked : Outcome Figures → Looked
as_looked o = record {
  answer = as_answer o.answer;
  left = (result_unwrap_or o.answer no_figures).left;
  deadline = (result_unwrap_or o.answer no_figures).deadline;
  bound = (result_unwrap_or o.answer no_figures).bound;
  leeway = (result_unwrap_or o.answer no_figures).leeway;
  desk = o.desk;
}

abbrev pub no_pairs : List Given
no_pairs = replicate 32 (record { number = 0; machines = 0 })

abbrev pub as_ran : Outcome (List Given) → Ran
as_ran o = record { answer = as_answer o.answer; given = result_unwrap_or o.answer no_pairs; desk = o.desk }

abbrev pub as_reading : Result JobFile Refusal → Reading
as_reading (Ok file) = record { answer = yes; machines = file.machines; groups = file.groups; rows = file.rows }
as_reading (Err e) = record { answer = numbered e; machines = 0; groups = 0; rows = replicate 128 0 }
