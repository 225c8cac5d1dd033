-- The parts of a desk call, as the code takes them one by one.
use Rattle.std.specs.Prelude.{ℕ, leb, length}
use Rattle.model.specs.Jobs.{Job}
use Rattle.promise.specs.declared.Answer.{Answer}
use Rattle.promise.specs.declared.Held.{Held}
use Rattle.promise.specs.declared.Desk.{Desk}
use Rattle.promise.specs.declared.Figures.{Figures}
use Rattle.promise.specs.Answers.{refusal, fault, first}
use Rattle.promise.specs.Rows.{fields_fault}
use Rattle.promise.specs.Desk.{held_of, leeway}
use Rattle.promise.specs.DeskCalls.{admit_dues, is_held, sound_fault}

-- a number that is held, then a full table
unfoldable pub seat_fault : Desk → ℕ → Answer
seat_fault desk n = first (fault (is_held n (held_of desk)) (refusal 5 0 0)) (fault (leb 32 (length (held_of desk))) (refusal 8 0 0))

-- Admit's tests before the walk: 12, 4, 5, 8
unfoldable pub admit_fault : Desk → Job → Answer
admit_fault desk j = first (sound_fault desk) (first (fields_fault (admit_dues desk.clock) 0 j) (seat_fault desk j.number))

-- what Look tells of a held job
abbrev pub told : ℕ → Held → Figures
told machines h = record { left = h.left; deadline = h.deadline; bound = h.bound; leeway = leeway machines h }
