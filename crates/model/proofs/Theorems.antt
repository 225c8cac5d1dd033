-- The headline statements of specs/Claims.antt, one theorem each.
use Rattle.model.specs.Claims.{ScheduleExactlyIfRoom, ForcedIsTotalLessLambda, DocumentSaysTheSame, NothingIsCutOff, ZeroIsShort, BoundariesSuffice, BoundariesAreListed, LeastShortIsNamed, NoneShortIsNamed, SlotLemma, PlanIsValid, PlanIsTheRule, StartPlaysNoPart, OrderPlaysNoPart, RowsAreThePlan, FirstColumnLeavesRoom, EasierStaysPossible, BoundsCountAsAsked, CountedChangesNothing, PlanTakesTheLeast, LeastIsTheFigure, FigureIsTheGreatest, FigureIsNeverNegative, PlanIsOptimal}
use Rattle.model.proofs.Exactly
use Rattle.model.proofs.Document
use Rattle.model.proofs.AllSlots
use Rattle.model.proofs.LeastShort
use Rattle.model.proofs.SlotLemma as Slots
use Rattle.model.proofs.RuleIs
use Rattle.model.proofs.Start
use Rattle.model.proofs.Order
use Rattle.model.proofs.Rows
use Rattle.model.proofs.FirstColumn
use Rattle.model.proofs.Easier
use Rattle.model.proofs.Figure
use Rattle.model.proofs.Monday
use Rattle.model.proofs.Optimal

-- M1
pub schedule_exactly_if_room : ScheduleExactlyIfRoom
schedule_exactly_if_room = Exactly.schedule_exactly_if_room

-- M2
pub forced_is_total_less_lambda : ForcedIsTotalLessLambda
forced_is_total_less_lambda = Document.forced_is_total_less_lambda

pub document_says_the_same : DocumentSaysTheSame
document_says_the_same = Document.document_says_the_same

pub nothing_is_cut_off : NothingIsCutOff
nothing_is_cut_off = Document.nothing_is_cut_off

-- M3
pub zero_is_short : ZeroIsShort
zero_is_short = AllSlots.zero_is_short

-- M4
pub boundaries_suffice : BoundariesSuffice
boundaries_suffice = AllSlots.boundaries_suffice

-- M5
pub boundaries_are_listed : BoundariesAreListed
boundaries_are_listed = LeastShort.boundaries_are_listed

pub least_short_is_named : LeastShortIsNamed
least_short_is_named = LeastShort.least_short_is_named

pub none_short_is_named : NoneShortIsNamed
none_short_is_named = LeastShort.none_short_is_named

-- the slot lemma
pub slot_lemma : SlotLemma
slot_lemma = Slots.slot_lemma

-- R1
pub plan_is_valid : PlanIsValid
plan_is_valid = Exactly.plan_is_valid

-- R2
pub plan_is_the_rule : PlanIsTheRule
plan_is_the_rule = RuleIs.plan_is_the_rule

pub start_plays_no_part : StartPlaysNoPart
start_plays_no_part = Start.start_plays_no_part

-- R3
pub order_plays_no_part : OrderPlaysNoPart
order_plays_no_part = Order.order_plays_no_part

-- R4
pub rows_are_the_plan : RowsAreThePlan
rows_are_the_plan = Rows.rows_are_the_plan

-- the first-column law
pub first_column_leaves_room : FirstColumnLeavesRoom
first_column_leaves_room = FirstColumn.first_column_leaves_room

-- monotonicity
pub easier_stays_possible : EasierStaysPossible
easier_stays_possible = Easier.easier_stays_possible

-- the counted jobs
pub bounds_count_as_asked : BoundsCountAsAsked
bounds_count_as_asked = Exactly.bounds_count_as_asked

pub counted_changes_nothing : CountedChangesNothing
counted_changes_nothing = Exactly.counted_changes_nothing

-- O1
pub plan_takes_the_least : PlanTakesTheLeast
plan_takes_the_least = Monday.plan_takes_the_least

-- O2
pub least_is_the_figure : LeastIsTheFigure
least_is_the_figure = Monday.least_is_the_figure

pub figure_is_the_greatest : FigureIsTheGreatest
figure_is_the_greatest = Figure.figure_is_the_greatest

pub figure_is_never_negative : FigureIsNeverNegative
figure_is_never_negative = Figure.figure_is_never_negative

-- O3
pub plan_is_optimal : PlanIsOptimal
plan_is_optimal = Optimal.plan_is_optimal
