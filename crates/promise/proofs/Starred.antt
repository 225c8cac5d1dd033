-- The starred cases, computed by the checker.
use mathlib.Core.Path.{refl}
use mathlib.Core.List.{zip_with, flatten}
use mathlib.Core.Option.{or_else}
use Rattle.model.specs.Jobs.{run_length, forced_of, forced, room, width, counted}
use Rattle.model.specs.Boundaries.{short_at, least_short}
use Rattle.model.specs.Rule.{fresh, run_left, qualifies, before, bump, clear, fill, nobody, plan_from, plan_in, plan, plan_rows}
use Rattle.promise.specs.Rows.{row_at, row_count, jobs_of, field_fault, fields_fault, seen_fault, row_fault, count_fault, length_fault, many_fault, list_fault}
use Rattle.promise.specs.Lists.{planned, plan_answer, written, plan_buffer, room_answer, room_figure}
use Rattle.promise.specs.Desk.{held_of, table, desk_of, as_planned, to_plan, jobs_for, column, leeway}
use Rattle.promise.specs.DeskCalls.{open_of, admit_of, look_of, run_of, admit_answer, find_answer, run_answer, sound_fault, is_sound, seat_ok, seat_fits, is_unused, admit_dues, new_held, with_new, pairs, given_of, lowered}
use Rattle.promise.specs.History.{desk_after}
use Rattle.promise.specs.Texts.{padded, decimal, is_number, is_label, read_number}
use Rattle.promise.specs.JobFile.{label_told, told_by, file_says}
use Rattle.promise.specs.PlanText.{refusal_text, pair_text, run_line, planned_text, rows_answer, rows_text, plan_text}
use Rattle.promise.specs.Starred.{starred, StarredCasesComeOut}

pub starred_cases_come_out : StarredCasesComeOut
unfolding starred desk_after plan_text rows_text rows_answer planned_text run_line pair_text refusal_text file_says told_by label_told read_number is_label is_number decimal padded planned plan_answer written plan_buffer room_answer room_figure row_at row_count jobs_of field_fault fields_fault seen_fault row_fault count_fault length_fault many_fault list_fault open_of admit_of look_of run_of admit_answer find_answer run_answer sound_fault is_sound seat_ok seat_fits is_unused admit_dues new_held with_new pairs given_of lowered held_of table desk_of as_planned to_plan jobs_for column leeway width counted run_length forced_of forced room short_at least_short or_else plan plan_in plan_from plan_rows zip_with flatten fresh fill clear bump nobody before qualifies run_left
starred_cases_come_out = refl
