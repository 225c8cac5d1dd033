use Rattle.std.proofs.Common.{rules}
use Rattle.desk.proofs.Runs.{held_plannable, run_answered}
use Rattle.desk.proofs.ran.Goals as goal

pub first_slot-shares-requires : goal.first_slot-shares-requires
first_slot-shares-requires c = search (rules, held_plannable c.args.desk)

pub returns-clause-told : goal.returns-clause-told
returns-clause-told c = search (rules, run_answered c.args.desk (search rules) c.in_ok-run_fault.ensures)
