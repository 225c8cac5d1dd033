-- The worked cases of the requests, computed by the checker.
use mathlib.Core.Path.{refl}
use mathlib.Core.List.{zip_with, flatten}
use mathlib.Core.Option.{or_else}
use Rattle.model.specs.Jobs.{run_length, forced_of, forced, room, width, counted}
use Rattle.model.specs.Boundaries.{short_at, least_short}
use Rattle.model.specs.Rule.{fresh, run_left, qualifies, before, bump, clear, fill, plan_rows}
use Rattle.model.specs.Monday.{forced_less, figure}
use Rattle.promise.specs.Rows.{row_at, row_count, jobs_of, field_fault, fields_fault, seen_fault, row_fault, count_fault, length_fault, many_fault, list_fault}
use Rattle.promise.specs.Lists.{planned, plan_answer, written, plan_buffer}
use Rattle.promise.specs.Requested.{slots_of, requested, RequestedCasesComeOut}

pub requested_cases_come_out : RequestedCasesComeOut
unfolding requested slots_of figure forced_less planned plan_answer written plan_buffer row_at row_count jobs_of field_fault fields_fault seen_fault row_fault count_fault length_fault many_fault list_fault width counted run_length forced_of forced room short_at least_short or_else plan_rows zip_with flatten fresh fill clear bump before qualifies run_left
requested_cases_come_out = refl
