-- The parts of a list's check, as the code takes them one by one.
use Rattle.std.specs.Prelude.{ℕ, ◌/◌, ◌%◌, not, ◌||◌, ltb, eqb}
use Rattle.promise.specs.declared.Answer.{Answer}
use Rattle.promise.specs.declared.Field.{Field}
use Rattle.promise.specs.Answers.{refusal, fault, first}
use Rattle.promise.specs.Rows.{DueRange, field_number, count_fault}
use Rattle.promise.specs.Refusals.{as_field}

abbrev pub dues_of : ℕ → ℕ → DueRange
dues_of from to = record { from = from; to = to }

-- a value out of its range, as a 4
abbrev pub range_fault : ℕ → Field → ℕ → ℕ → ℕ → Answer
range_fault place field value least greatest = fault (ltb value least || ltb greatest value) (refusal 4 place (field_number (as_field field)))

-- 1, 2 and 3 of a list of so many entries, of which a row has so many: 4 numbers, or 16 bytes
unfoldable pub shape_fault : ℕ → ℕ → ℕ → Answer
shape_fault machines len row =
    first (count_fault machines) (first (fault (not (eqb (len % row) 0)) (refusal 2 0 0)) (fault (ltb 32 (len / row)) (refusal 3 0 0)))
