-- 01, "Calls": what each call tells, as one record of its answer, its figures and the desk.
use Rattle.std.specs.Prelude.{ℕ, ℤ, List}
use Rattle.promise.specs.declared.Answer.{Answer}
use Rattle.promise.specs.declared.Desk.{Desk}
use Rattle.promise.specs.declared.Given.{Given}

-- what Room answers: the signed room beside the answer
pub record RoomAnswer : Type 0 where
  pub answer : Answer
  pub room : ℤ

-- what Open and Admit answer
pub record Desked : Type 0 where
  pub answer : Answer
  pub desk : Desk

-- what Withdraw answers: the remaining work of the job that left
pub record Withdrawn : Type 0 where
  pub answer : Answer
  pub left : ℕ
  pub desk : Desk

pub record Looked : Type 0 where
  pub answer : Answer
  pub left : ℕ
  pub deadline : ℕ
  pub bound : ℕ
  pub leeway : ℕ
  pub desk : Desk

pub record Ran : Type 0 where
  pub answer : Answer
  pub given : List Given
  pub desk : Desk

-- what the reader of a job file answers: the machine count, the number of groups, the rows of the first 32
pub record Reading : Type 0 where
  pub answer : Answer
  pub machines : ℕ
  pub groups : ℕ
  pub rows : List ℕ
