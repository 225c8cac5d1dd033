-- 01, "Numbers to hold the work against": the cases with a star, one table. Each entry is a case of some kind with what 01 states
-- of it; `computed` is what the promises' definitions give.
use Rattle.std.specs.Prelude.{ℕ, ◌+◌, ◌*◌, ◌≡◌, ℤ, pos, negsuc, length, replicate}
use mathlib.Core.List.{List, [], ◌∷◌, ◌++◌, map, flatten}
use Rattle.model.specs.Jobs.{Job}
use Rattle.promise.specs.declared.Answer.{Answer}
use Rattle.promise.specs.declared.Desk.{Desk}
use Rattle.promise.specs.Answers.{yes, refusal}
use Rattle.promise.specs.Rows.{row_count}
use Rattle.promise.specs.Lists.{plan_answer, plan_buffer, room_answer, room_figure}
use Rattle.promise.specs.Desk.{desk_of}
use Rattle.promise.specs.DeskCalls.{open_of, admit_of, withdraw_of, look_of, run_of}
use Rattle.promise.specs.History.{Call, admit, withdraw, look, run, returned, desk_after}
use Rattle.promise.specs.DeskWindow.{look_numbers, pair_numbers}
use Rattle.promise.specs.Texts.{ascii, padded}
use Rattle.promise.specs.PlanText.{plan_text}

-- the kinds: a job file, a list to plan, the room of a list at some boundaries, Open of so many machines and calls after it
pub data Case : Type 0 where
  file : List ℕ → Case
  list : ℕ → List ℕ → Case
  rooms : ℕ → List ℕ → List ℕ → Case
  desk : ℕ → List Call → Case

-- what a desk call answers, with all its figures
pub record Told : Type 0 where
  pub answer : Answer
  pub figures : List ℕ

-- what comes of a case: the printed text; the answer and the buffer; the answers and signed rooms; what was told, and the desk
pub data Outcome : Type 0 where
  prints : List ℕ → Outcome
  plans : Answer → List ℕ → Outcome
  has : List (Answer × ℤ) → Outcome
  tells : List Told → Desk → Outcome

abbrev pub answered : Answer → List ℕ → Told
answered answer figures = record { answer = answer; figures = figures }

abbrev pub call_tells : Desk → Call → Told
call_tells d (admit j) = record { answer = (admit_of d j).answer; figures = [] }
call_tells d (withdraw n) = record { answer = (withdraw_of d n).answer; figures = (withdraw_of d n).left ∷ [] }
call_tells d (look n) = record { answer = (look_of d n).answer; figures = look_numbers (look_of d n) }
call_tells d run = record { answer = (run_of d).answer; figures = flatten (map pair_numbers (run_of d).given) }

abbrev pub calls_tell : Desk → List Call → List Told
calls_tell d [] = []
calls_tell d (call ∷ calls) = call_tells d call ∷ calls_tell (returned d call) calls

-- a buffer one place longer than the plan, full of nines
abbrev pub lent : ℕ → List ℕ
lent n = replicate (168 * n + 1) 9

abbrev pub computed : Case → Outcome
computed (file bytes) = prints (plan_text bytes)
computed (list machines rows) = plans (plan_answer machines rows (length (lent (row_count rows)))) (plan_buffer machines rows (lent (row_count rows)))
computed (rooms machines rows at) = has (map (λ b. (room_answer machines rows b, room_figure machines rows b)) at)
computed (desk machines calls) = tells (answered (open_of machines).answer [] ∷ calls_tell (open_of machines).desk calls) (desk_after machines calls)

-- how 01 states them: a plan, the zeros at the end of its rows left out, and the place beyond as lent; a 7 with n rows as lent; rooms
abbrev pub row : ℕ → ℕ → ℕ → ℕ → List ℕ
row number work deadline bound = number ∷ work ∷ deadline ∷ bound ∷ []

abbrev pub plan_of : List (List ℕ) → Outcome
plan_of rows = plans yes (flatten (map (padded 168) rows) ++ (9 ∷ []))

abbrev pub short : ℕ → ℕ → ℕ → Outcome
short n place amount = plans (refusal 7 place amount) (lent n)

abbrev pub rooms_of : List ℤ → Outcome
rooms_of zs = has (map (λ z. (yes, z)) zs)

abbrev pub job : ℕ → ℕ → ℕ → ℕ → Job
job number work deadline bound = record { number = number; work = work; deadline = deadline; bound = bound }

-- Run's 32 pairs, of which these are not zero
abbrev pub gave : List ℕ → Told
gave given = answered yes (padded 64 given)

pub record Starred : Type 0 where
  pub case : Case
  pub stated : Outcome

unfoldable pub starred : List Starred
starred =
    -- P1
    record {
      case = file (ascii "machines=3\njob=1\nwork=4\ndeadline=3\nbound=2\nlabel=boot\njob=2\nwork=3\ndeadline=2\nbound=3\nlabel=\njob=3\nwork=2\ndeadline=3\nbound=1\nlabel=a\n");
      stated = prints (ascii "machines=3\nresult=plan\njob=1\nrun=2:2,3:2\njob=2\nrun=1:2,2:1\njob=3\nrun=1:1,3:1\n");
    }
    ∷ record {
      case = rooms 3 (row 1 4 3 2 ++ row 2 3 2 3 ++ row 3 2 3 1) (0 ∷ 2 ∷ 3 ∷ []);
      stated = rooms_of (pos 0 ∷ pos 0 ∷ pos 0 ∷ []);
    }
    ∷ record {
      case = list 3 (row 1 4 3 2 ++ row 2 3 2 3 ++ row 3 2 3 1);
      stated = plan_of ((0 ∷ 2 ∷ 2 ∷ []) ∷ (2 ∷ 1 ∷ []) ∷ (1 ∷ 0 ∷ 1 ∷ []) ∷ []);
    }
    -- P2
    ∷ record { case = list 2 (row 1 4 2 2 ++ row 2 1 3 1); stated = plan_of ((2 ∷ 2 ∷ []) ∷ (0 ∷ 0 ∷ 1 ∷ []) ∷ []) }
    ∷ record { case = rooms 2 (row 1 4 2 2 ++ row 2 1 3 1) (2 ∷ []); stated = rooms_of (pos 0 ∷ []) }
    -- P3, also as a file
    ∷ record { case = list 2 (row 1 4 2 2 ++ row 2 2 3 1); stated = short 2 2 1 }
    ∷ record {
      case = file (ascii "machines=2\njob=1\nwork=4\ndeadline=2\nbound=2\nlabel=\njob=2\nwork=2\ndeadline=3\nbound=1\nlabel=\n");
      stated = prints (ascii "result=refused\ncode=7\nat=2\namount=1\n");
    }
    -- P4, with its second shortage
    ∷ record { case = list 2 (row 1 4 2 2 ++ row 2 3 3 1); stated = short 2 2 2 }
    ∷ record { case = rooms 2 (row 1 4 2 2 ++ row 2 3 3 1) (2 ∷ 3 ∷ []); stated = rooms_of (negsuc 1 ∷ negsuc 0 ∷ []) }
    -- P5
    ∷ record { case = list 2 (row 1 10 3 5); stated = short 1 3 4 }
    -- P6
    ∷ record { case = list 64 (row 1 5 2 2); stated = short 1 0 1 }
    ∷ record { case = list 64 (row 1 4 2 2); stated = plan_of ((2 ∷ 2 ∷ []) ∷ []) }
    -- P7, also as a file
    ∷ record { case = list 2 (row 1 2 2 2 ++ row 2 3 3 1); stated = plan_of ((1 ∷ 1 ∷ []) ∷ (1 ∷ 1 ∷ 1 ∷ []) ∷ []) }
    ∷ record {
      case = file (ascii "machines=2\njob=1\nwork=2\ndeadline=2\nbound=2\nlabel=\njob=2\nwork=3\ndeadline=3\nbound=1\nlabel=\n");
      stated = prints (ascii "machines=2\nresult=plan\njob=1\nrun=1:1,2:1\njob=2\nrun=1:1,2:1,3:1\n");
    }
    -- P8
    ∷ record { case = list 3 (row 1 4 2 3 ++ row 2 2 2 1); stated = plan_of ((2 ∷ 2 ∷ []) ∷ (1 ∷ 1 ∷ []) ∷ []) }
    -- P9
    ∷ record { case = list 1 []; stated = plan_of [] }
    ∷ record { case = rooms 1 [] (168 ∷ []); stated = rooms_of (pos 168 ∷ []) }
    -- P10, with its second shortage
    ∷ record { case = list 2 (row 1 3 2 1 ++ row 2 4 2 2); stated = short 2 0 1 }
    ∷ record { case = rooms 2 (row 1 3 2 1 ++ row 2 4 2 2) (0 ∷ 2 ∷ []); stated = rooms_of (negsuc 0 ∷ negsuc 2 ∷ []) }
    -- D1; the leeway is looked up again after one Run: it is of the admitted work, and stays
    ∷ record {
      case = desk 2
          (admit (job 1 4 2 2)
          ∷ admit (job 2 2 3 1)
          ∷ admit (job 2 1 3 1)
          ∷ look 1
          ∷ look 2
          ∷ run
          ∷ look 1
          ∷ run
          ∷ run
          ∷ []);
      stated = tells
          (answered yes []
          ∷ answered yes []
          ∷ answered (refusal 7 2 1) []
          ∷ answered yes []
          ∷ answered yes (4 ∷ 2 ∷ 2 ∷ 100 ∷ [])
          ∷ answered yes (1 ∷ 3 ∷ 1 ∷ 300 ∷ [])
          ∷ gave (1 ∷ 2 ∷ 2 ∷ 0 ∷ [])
          ∷ answered yes (2 ∷ 2 ∷ 2 ∷ 100 ∷ [])
          ∷ gave (1 ∷ 2 ∷ 2 ∷ 0 ∷ [])
          ∷ gave (2 ∷ 1 ∷ [])
          ∷ [])
          (desk_of 2 3 []);
    }
    ∷ []

-- every case comes out as stated
abbrev pub StarredCasesComeOut : Type 0
StarredCasesComeOut = map (λ (s : Starred). computed s.case) starred ≡ map (λ (s : Starred). s.stated) starred
