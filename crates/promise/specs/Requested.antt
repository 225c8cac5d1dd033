-- The worked cases of the requests of 02, one table beside the starred one. Each entry is a case of some kind with what is stated
-- of it; `computed` is what the definitions give.
use Rattle.std.specs.Prelude.{ℕ, suc, ◌≡◌, List, [], ◌∷◌, ◌++◌, map, ℤ, pos, negsuc}
use Rattle.model.specs.Lists.{span}
use Rattle.model.specs.Jobs.{greatest_deadline}
use Rattle.model.specs.Monday.{forced_less, figure}
use Rattle.promise.specs.Rows.{row_count, jobs_of}
use Rattle.promise.specs.Lists.{planned, plan_buffer}
use Rattle.promise.specs.Monday.{rows_by}
use Rattle.promise.specs.Starred.{lent, row}

-- the kinds: the work of a list's plan in slots 1 to b, for each b from 0 to the greatest deadline; for one b, forced work at c less
-- C × (c − b) for some c
pub data Case : Type 0 where
  work_up_to : ℕ → List ℕ → Case
  less_at : ℕ → List ℕ → ℕ → List ℕ → Case

-- what comes of a case: the work that the buffer holds and the figure of 02; signed numbers
pub data Outcome : Type 0 where
  does : List ℕ → List ℤ → Outcome
  are : List ℤ → Outcome

-- 0 to the greatest deadline
unfoldable pub slots_of : List ℕ → List ℕ
slots_of rows = span 0 (suc (greatest_deadline (jobs_of rows))) (λ b. b)

abbrev pub computed : Case → Outcome
computed (work_up_to machines rows) =
    does (map (rows_by (plan_buffer machines rows (lent (row_count rows))) 0 (row_count rows)) (slots_of rows))
    (map (figure machines (planned machines rows)) (slots_of rows))
computed (less_at machines rows b cs) = are (map (forced_less machines (planned machines rows) b) cs)

-- work and figure are the same number
abbrev pub works : List ℕ → Outcome
works ns = does ns (map pos ns)

pub record Requested : Type 0 where
  pub case : Case
  pub stated : Outcome

unfoldable pub requested : List Requested
requested =
    -- 14: P1, P2 and P7 of 01, and an empty list, of which b is 0 alone
    record { case = work_up_to 3 (row 1 4 3 2 ++ row 2 3 2 3 ++ row 3 2 3 1); stated = works (0 ∷ 3 ∷ 6 ∷ 9 ∷ []) }
    ∷ record { case = work_up_to 2 (row 1 4 2 2 ++ row 2 1 3 1); stated = works (0 ∷ 2 ∷ 4 ∷ 5 ∷ []) }
    ∷ record { case = work_up_to 2 (row 1 2 2 2 ++ row 2 3 3 1); stated = works (0 ∷ 2 ∷ 4 ∷ 5 ∷ []) }
    ∷ record { case = work_up_to 2 []; stated = works (0 ∷ []) }
    -- 14: b = 2 is no boundary, and the greatest stands there and not at 3
    ∷ record { case = work_up_to 3 (row 1 4 3 2); stated = works (0 ∷ 0 ∷ 2 ∷ 4 ∷ []) }
    ∷ record { case = less_at 3 (row 1 4 3 2) 2 (2 ∷ 3 ∷ []); stated = are (pos 2 ∷ pos 1 ∷ []) }
    -- 14: at b = 1 the greatest stands at 3 alone, and not at the next boundary, which is 2
    ∷ record { case = work_up_to 1 (row 1 2 3 2 ++ row 2 1 2 1); stated = works (0 ∷ 1 ∷ 2 ∷ 3 ∷ []) }
    ∷ record { case = less_at 1 (row 1 2 3 2 ++ row 2 1 2 1) 1 (1 ∷ 2 ∷ 3 ∷ []); stated = are (pos 0 ∷ pos 0 ∷ pos 1 ∷ []) }
    -- 14: b = 1 is a boundary, and the greatest stands at 3 alone; at b = 0 a candidate is below zero
    ∷ record { case = work_up_to 2 (row 1 1 1 3 ++ row 2 2 2 2 ++ row 3 3 3 3); stated = works (0 ∷ 2 ∷ 4 ∷ 6 ∷ []) }
    ∷ record { case = less_at 2 (row 1 1 1 3 ++ row 2 2 2 2 ++ row 3 3 3 3) 1 (1 ∷ 2 ∷ 3 ∷ []); stated = are (pos 1 ∷ pos 1 ∷ pos 2 ∷ []) }
    ∷ record { case = less_at 2 (row 1 1 1 3 ++ row 2 2 2 2 ++ row 3 3 3 3) 0 (0 ∷ 1 ∷ 2 ∷ 3 ∷ []); stated = are (pos 0 ∷ negsuc 0 ∷ negsuc 0 ∷ pos 0 ∷ []) }
    ∷ []

-- every case comes out as stated
abbrev pub RequestedCasesComeOut : Type 0
RequestedCasesComeOut = map (λ (s : Requested). computed s.case) requested ≡ map (λ (s : Requested). s.stated) requested
