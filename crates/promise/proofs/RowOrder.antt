-- The rows in another order.
use Prim.Native.Nat.{ℕ}
use mathlib.Core.Path.{◌≡◌, sym, ◌∙◌, ap}
use mathlib.Core.List.{List}
use lib.ListN.{length}
use Rattle.model.specs.Lists.{Perm}
use Rattle.model.specs.Jobs.{counted}
use Rattle.model.specs.Rule.{plan}
use Rattle.model.specs.Claims.{SameFigures}
use Rattle.model.proofs.Lists.{perm_map}
use Rattle.model.proofs.Order.{order_plays_no_part}
use Rattle.promise.specs.Answers.{fit_answer}
use Rattle.promise.specs.Rows.{row_at, jobs_of}
use Rattle.promise.specs.Lists.{planned, plan_answer}
use Rattle.promise.specs.Claims.{RowOrderPlaysNoPart}
use Rattle.promise.proofs.Ladder.{same_number}
use Rattle.promise.proofs.Sound.{planned_distinct, listed_passes, answers_fit}
use Rattle.promise.proofs.Buffer.{yes_writes_the_plan}

planned_perm : (machines : ℕ) (rows rows' : List ℕ) → Perm (jobs_of rows) (jobs_of rows') → Perm (planned machines rows) (planned machines rows')
unfolding planned counted
planned_perm machines rows rows' p = perm_map _ p

pub row_order_plays_no_part : RowOrderPlaysNoPart
row_order_plays_no_part machines rows rows' lent lent' p e e' l l' = record {
  answer = answer;
  machines_same = λ i k t i-row k-row n low high z.
      (yes_writes_the_plan machines rows lent z).cells i t i-row low high
      ∙ ap (λ (m : ℕ). plan machines (planned machines rows) m t) n
      ∙ same.machines (row_at rows' k).number t
      ∙ sym ((yes_writes_the_plan machines rows' lent' (same_number (sym answer) ∙ z)).cells k t k-row low high);
}
  where
    same : SameFigures machines (planned machines rows) (planned machines rows')
    same =
        order_plays_no_part machines (planned machines rows) (planned machines rows') (planned_perm machines rows rows' p)
        (planned_distinct machines rows (listed_passes machines rows e))

    answer : plan_answer machines rows (length lent) ≡ plan_answer machines rows' (length lent')
    answer = answers_fit machines rows (length lent) e l ∙ ap fit_answer same.least_short_lem ∙ sym (answers_fit machines rows' (length lent') e' l')
