-- The headline statements of specs/Claims.antt, DeskClaims.antt, DeskWindowClaims.antt, TextClaims.antt,
-- Starred.antt and Requested.antt, one theorem each.
use Rattle.promise.specs.Claims.{RefusalsAreNumbered, RefusalsAreToldApart, OutcomesLeaveOne, WindowReadsTheNumbers, WindowReadsLowestFirst, WindowTakesSixteenARow, WindowCountsBytes, WindowCountsMachinesFirst, YesWritesThePlan, RefusalWritesNothing, PlanAnswersByTheTable, RoomAnswersByTheTable, PlanSevenIsTrue, RoomFigureIsTheRoom, RowOrderPlaysNoPart, PlanPromiseLeavesOne, RoomPromiseLeavesOne, AnswersPack, PackingIsOneToOne, RoomIsReadBack, WindowWritesThePlan, WindowPromisesLeaveOne, WrittenPlanTakesTheLeast}
use Rattle.promise.specs.DeskClaims.{SoundIsTested, DeskAnswersByTheTable, SoundnessIsKept, RefusalHandsTheDeskBack, AdmitSevenIsTrue, RunGivesOutThePlan, DeskCallsLeaveOne, OpenAnswersByTheTable, SeatsAreToldAndKept, DemandThree}
use Rattle.promise.specs.DeskWindowClaims.{RecordsAreReadBack, RecordsAreLaidOut, RecordsAreWrittenBack, DeskWindowAnswersByTheTable, DeskWindowRefusalLeavesTheBytes, DeskWindowHandsTheDeskOn, HistoryGoesThroughTheWindow, DeskWindowTellsInPlace, DeskWindowPacks, DeskWindowPromisesLeaveOne}
use Rattle.promise.specs.TextClaims.{NumbersAreReadBack, NumbersArePrintedBack, FileIsRead, FilesHaveTheirOwnText, TextIsPrinted, FilesAreNoTwoNorSix, PrintedNumbersAreWhole, PairsAreTheSlotsInUse, LabelsPlayNoPart, FileOrderPlaysNoPart, TextFits, TextPromisesLeaveOne}
use Rattle.promise.specs.Starred.{StarredCasesComeOut}
use Rattle.promise.specs.Requested.{RequestedCasesComeOut}
use Rattle.promise.proofs.Refusals
use Rattle.promise.proofs.Buffer
use Rattle.promise.proofs.Monday
use Rattle.promise.proofs.Table
use Rattle.promise.proofs.Fit
use Rattle.promise.proofs.Room
use Rattle.promise.proofs.RowOrder
use Rattle.promise.proofs.Packing
use Rattle.promise.proofs.RoomWord
use Rattle.promise.proofs.WindowBytes
use Rattle.promise.proofs.Unique
use Rattle.promise.proofs.Words
use Rattle.promise.proofs.DeskSound
use Rattle.promise.proofs.DeskTable
use Rattle.promise.proofs.DeskKept
use Rattle.promise.proofs.DeskFit
use Rattle.promise.proofs.DeskRun
use Rattle.promise.proofs.DeskUnique
use Rattle.promise.proofs.Seatwise
use Rattle.promise.proofs.HistoryKept
use Rattle.promise.proofs.DeskRecord
use Rattle.promise.proofs.DeskWindowing
use Rattle.promise.proofs.DeskWindowBytes
use Rattle.promise.proofs.DeskWindowWords
use Rattle.promise.proofs.Digits
use Rattle.promise.proofs.FileLines
use Rattle.promise.proofs.FileIsRead
use Rattle.promise.proofs.FileJobs
use Rattle.promise.proofs.Printing
use Rattle.promise.proofs.FileOrder
use Rattle.promise.proofs.TextSize
use Rattle.promise.proofs.Starred
use Rattle.promise.proofs.Requested

-- refusals and outcomes of the code
pub refusals_are_numbered : RefusalsAreNumbered
refusals_are_numbered = Refusals.are_numbered

pub refusals_are_told_apart : RefusalsAreToldApart
refusals_are_told_apart = Refusals.told_apart

pub outcomes_leave_one : OutcomesLeaveOne
outcomes_leave_one = Refusals.outcomes_leave_one

-- L1
pub yes_writes_the_plan : YesWritesThePlan
yes_writes_the_plan = Buffer.yes_writes_the_plan

pub refusal_writes_nothing : RefusalWritesNothing
refusal_writes_nothing = Buffer.refusal_writes_nothing

-- L2
pub plan_answers_by_the_table : PlanAnswersByTheTable
plan_answers_by_the_table = Table.plan_answers_by_the_table

pub room_answers_by_the_table : RoomAnswersByTheTable
room_answers_by_the_table = Table.room_answers_by_the_table

-- L3
pub plan_seven_is_true : PlanSevenIsTrue
plan_seven_is_true = Fit.plan_seven_is_true

-- Rm
pub room_figure_is_the_room : RoomFigureIsTheRoom
room_figure_is_the_room = Room.room_figure_is_the_room

-- rows in another order
pub row_order_plays_no_part : RowOrderPlaysNoPart
row_order_plays_no_part = RowOrder.row_order_plays_no_part

-- L4
pub answers_pack : AnswersPack
answers_pack = Packing.answers_pack

pub packing_is_one_to_one : PackingIsOneToOne
packing_is_one_to_one = Packing.packing_is_one_to_one

pub room_is_read_back : RoomIsReadBack
room_is_read_back = RoomWord.room_is_read_back

pub window_writes_the_plan : WindowWritesThePlan
window_writes_the_plan = WindowBytes.window_writes_the_plan

-- uniqueness
pub plan_promise_leaves_one : PlanPromiseLeavesOne
plan_promise_leaves_one = Unique.plan_promise_leaves_one

pub room_promise_leaves_one : RoomPromiseLeavesOne
room_promise_leaves_one = Unique.room_promise_leaves_one

pub window_promises_leave_one : WindowPromisesLeaveOne
window_promises_leave_one = Unique.window_promises_leave_one

pub window_reads_the_numbers : WindowReadsTheNumbers
window_reads_the_numbers = Words.window_reads_the_numbers

pub window_reads_lowest_first : WindowReadsLowestFirst
window_reads_lowest_first = Words.window_reads_lowest_first

pub window_counts_bytes : WindowCountsBytes
window_counts_bytes = Words.window_counts_bytes

pub window_takes_sixteen_a_row : WindowTakesSixteenARow
window_takes_sixteen_a_row = Words.window_takes_sixteen_a_row

pub window_counts_machines_first : WindowCountsMachinesFirst
window_counts_machines_first = Words.window_counts_machines_first

-- S1
pub sound_is_tested : SoundIsTested
sound_is_tested = DeskSound.sound_is_tested

-- S2
pub desk_answers_by_the_table : DeskAnswersByTheTable
desk_answers_by_the_table = DeskTable.desk_answers_by_the_table

pub open_answers_by_the_table : OpenAnswersByTheTable
open_answers_by_the_table = Seatwise.open_answers_by_the_table

-- S3
pub soundness_is_kept : SoundnessIsKept
soundness_is_kept = DeskKept.soundness_is_kept

pub refusal_hands_the_desk_back : RefusalHandsTheDeskBack
refusal_hands_the_desk_back = DeskKept.refusal_hands_the_desk_back

-- S4
pub admit_seven_is_true : AdmitSevenIsTrue
admit_seven_is_true = DeskFit.admit_seven_is_true

-- S5
pub run_gives_out_the_plan : RunGivesOutThePlan
run_gives_out_the_plan = DeskRun.run_gives_out_the_plan

-- the seats
pub seats_are_told_and_kept : SeatsAreToldAndKept
seats_are_told_and_kept = Seatwise.seats_are_told_and_kept

-- uniqueness
pub desk_calls_leave_one : DeskCallsLeaveOne
desk_calls_leave_one = DeskUnique.desk_calls_leave_one

-- H
pub demand_three : DemandThree
demand_three = HistoryKept.demand_three

-- the desk at the window
pub records_are_read_back : RecordsAreReadBack
records_are_read_back = DeskRecord.records_are_read_back

pub records_are_laid_out : RecordsAreLaidOut
records_are_laid_out = DeskRecord.records_are_laid_out

pub records_are_written_back : RecordsAreWrittenBack
records_are_written_back = DeskRecord.records_are_written_back

pub desk_window_answers_by_the_table : DeskWindowAnswersByTheTable
desk_window_answers_by_the_table = DeskWindowing.desk_window_answers_by_the_table

pub desk_window_refusal_leaves_the_bytes : DeskWindowRefusalLeavesTheBytes
desk_window_refusal_leaves_the_bytes = DeskWindowBytes.desk_window_refusal_leaves_the_bytes

pub desk_window_hands_the_desk_on : DeskWindowHandsTheDeskOn
desk_window_hands_the_desk_on = DeskWindowBytes.desk_window_hands_the_desk_on

pub history_goes_through_the_window : HistoryGoesThroughTheWindow
history_goes_through_the_window = DeskWindowBytes.history_goes_through_the_window

pub desk_window_tells_in_place : DeskWindowTellsInPlace
desk_window_tells_in_place = DeskWindowBytes.desk_window_tells_in_place

pub desk_window_packs : DeskWindowPacks
desk_window_packs = DeskWindowWords.desk_window_packs

pub desk_window_promises_leave_one : DeskWindowPromisesLeaveOne
desk_window_promises_leave_one = DeskWindowing.desk_window_promises_leave_one

-- numbers as texts
pub numbers_are_read_back : NumbersAreReadBack
numbers_are_read_back = Digits.numbers_are_read_back

pub numbers_are_printed_back : NumbersArePrintedBack
numbers_are_printed_back = Digits.numbers_are_printed_back

-- J
pub file_is_read : FileIsRead
file_is_read = FileIsRead.file_is_read

pub files_have_their_own_text : FilesHaveTheirOwnText
files_have_their_own_text = FileLines.files_have_their_own_text

-- T
pub text_is_printed : TextIsPrinted
text_is_printed = Printing.text_is_printed

pub files_are_no_two_nor_six : FilesAreNoTwoNorSix
files_are_no_two_nor_six = FileJobs.files_are_no_two_nor_six

pub printed_numbers_are_whole : PrintedNumbersAreWhole
printed_numbers_are_whole = TextSize.printed_numbers_are_whole

pub pairs_are_the_slots_in_use : PairsAreTheSlotsInUse
pairs_are_the_slots_in_use = Printing.pairs_are_the_slots_in_use

pub labels_play_no_part : LabelsPlayNoPart
labels_play_no_part = Printing.labels_play_no_part

pub file_order_plays_no_part : FileOrderPlaysNoPart
file_order_plays_no_part = FileOrder.file_order_plays_no_part

pub text_fits : TextFits
text_fits = TextSize.text_fits

pub text_promises_leave_one : TextPromisesLeaveOne
text_promises_leave_one = Unique.text_promises_leave_one

-- L1 to P10 and D1
pub starred_cases_come_out : StarredCasesComeOut
starred_cases_come_out = Starred.starred_cases_come_out

-- O4
pub written_plan_takes_the_least : WrittenPlanTakesTheLeast
written_plan_takes_the_least = Monday.written_plan_takes_the_least

-- the worked cases of the requests
pub requested_cases_come_out : RequestedCasesComeOut
requested_cases_come_out = Requested.requested_cases_come_out
