-- L4: every answer packs without loss.
use Prim.Native.Nat.{ℕ, zero, suc, ◌+◌, ◌*◌, ◌%◌, ◌≤◌, ◌<◌}
use native.Mathlib.Omega.{arith}
use mathlib.Core.Path.{◌≡◌, refl}
use mathlib.Core.Bool.{Bool, true, false, cond, not, ◌||◌}
use mathlib.Core.List.{List}
use mathlib.Core.Option.{Option, some, none}
use lib.Dec.{ltb, eqb}
use lib.ListN.{length}
use borrow.Author.Tests.{ltb-false, eqb-true}
use Rattle.model.specs.Jobs.{Job}
use Rattle.model.specs.Boundaries.{Short, least_short}
use Rattle.model.proofs.LeastShort.{least_short_is_named}
use Rattle.promise.specs.declared.Answer.{Answer}
use Rattle.promise.specs.Answers.{yes, refusal, fault, first, fit_answer}
use Rattle.promise.specs.Rows.{row_at, row_count, DueRange, list_dues, Field, the_number, the_work, the_deadline, the_bound, field_number, field_of, least, greatest, field_fault, fields_fault, seen_before, seen_fault, row_fault, rows_fault, count_fault, length_fault, many_fault, list_fault, list_order}
use Rattle.promise.specs.Lists.{planned, plan_answer, room_answer, Holds, answer_of}
use Rattle.promise.specs.Window.{words_of, bytes_fault, window_answer, pack, Packs, room_window_answer}
use Rattle.promise.specs.Claims.{AnswersPack, PackingIsOneToOne}
use Rattle.promise.proofs.Ladder.{zero_none}
use Rattle.promise.proofs.Table.{refuses, gives_list}
use Rattle.promise.proofs.Sound.{Passes, planned_deadlines}
use Rattle.promise.proofs.Bounds.{planned_forced, boundary_le, shortage_le}

-- no answer on a list names a place above 168 or an amount above all the work
pub record Small (a : Answer) : Type 0 where
  pub number : a.number < 256
  pub place : a.place ≤ 168
  pub amount : a.amount ≤ 1920000

pub small_packs : {a : Answer} → Small a → Packs a
small_packs s = record { number = s.number; place = omega (arith, s.place); amount = omega (arith, s.amount) }

pub yes_small : Small yes
yes_small = record { number = omega arith; place = omega arith; amount = omega arith }

-- what is so of two answers is so of the first of them; the second only comes where the first is no refusal
pub first_keeps : (P : Answer → Type 0) (a b : Answer) → P a → (a.number ≡ 0 → P b) → P (first a b)
first_keeps P a b p f = go (eqb a.number 0) refl
  where
    go : (t : Bool) → eqb a.number 0 ≡ t → P (cond t b a)
    go true e = f (eqb-true a.number 0 e)
    go false e = p

fault_small : (t : Bool) (a : Answer) → Small a → Small (fault t a)
fault_small true a p = p
fault_small false a p = yes_small

-- a refusal of the list as a whole
pub whole_small : (t : Bool) (q : ℕ) → q < 256 → Small (fault t (refusal q 0 0))
whole_small t q l = fault_small t (refusal q 0 0) (record { number = l; place = omega arith; amount = omega arith })

field_few : (f : Field) → field_number f ≤ 4
field_few the_number = omega arith
field_few the_work = omega arith
field_few the_deadline = omega arith
field_few the_bound = omega arith

-- a job's fields at place i, one of at most 32
module _ (w : DueRange) (i : ℕ) (j : Job) (l : i < 32) where
  field_small : (f : Field) → Small (field_fault w i f j)
  unfolding field_fault
  field_small f =
      let v : ℕ = field_of f j in
      fault_small (ltb v (least w f) || ltb (greatest w f) v) (refusal 4 i (field_number f))
      (record { number = omega arith; place = omega arith; amount = omega (arith, field_few f) })

  pub fields_small : Small (fields_fault w i j)
  unfolding fields_fault
  fields_small =
      first_keeps Small _ _ (field_small the_number)
      (λ _. first_keeps Small _ _ (field_small the_work) (λ _. first_keeps Small _ _ (field_small the_deadline) (λ _. field_small the_bound)))

module _ (rows : List ℕ) (i : ℕ) (l : i < 32) where
  seen_small : Small (seen_fault rows i)
  unfolding seen_fault
  seen_small =
      fault_small (seen_before rows (row_at rows i).number i) (refusal 5 i 0)
      (record { number = omega arith; place = omega arith; amount = omega arith })

row_small : (rows : List ℕ) (i : ℕ) → i < 32 → Small (row_fault rows i)
unfolding row_fault
row_small rows i l = first_keeps Small _ _ (fields_small list_dues i (row_at rows i) l) (λ _. seen_small rows i l)

rows_small : (rows : List ℕ) (i n : ℕ) → i + n ≤ 32 → Small (rows_fault rows i n)
rows_small rows i zero l = yes_small
rows_small rows i (suc n) l = first_keeps Small _ _ (row_small rows i (omega arith)) (λ _. rows_small rows (suc i) n (omega arith))

-- no 3 is answered: at most 32 rows
not_many : (rows : List ℕ) → (many_fault rows).number ≡ 0 → row_count rows ≤ 32
unfolding many_fault
not_many rows = go (ltb 32 (row_count rows)) refl
  where
    go : (t : Bool) → ltb 32 (row_count rows) ≡ t → (fault t (refusal 3 0 0)).number ≡ 0 → row_count rows ≤ 32
    go true e z = absurd (omega arith)
    go false e z = omega (arith, ltb-false 32 (row_count rows) e)

pub count_small : (machines : ℕ) → Small (count_fault machines)
unfolding count_fault
count_small machines = whole_small (ltb machines 1 || ltb 64 machines) 1 (omega arith)

module _ (machines : ℕ) (rows : List ℕ) where
  list_small : Small (list_fault machines rows)
  unfolding list_fault length_fault many_fault
  list_small =
      first_keeps Small _ _ (count_small machines)
      (λ _. first_keeps Small _ _ (whole_small (not (eqb (length rows % 4) 0)) 2 (omega arith))
      (λ _. first_keeps Small _ _ (whole_small (ltb 32 (row_count rows)) 3 (omega arith))
      (λ z. rows_small rows 0 (row_count rows) (omega (arith, not_many rows z)))))

  -- a boundary is at most 168, and a shortage at most all the work
  fit_small : Passes machines rows (list_order rows) → (o : Option Short) → least_short machines (planned machines rows) ≡ o → Small (fit_answer o)
  fit_small h none e = yes_small
  fit_small h (some s) e =
      let jobs : List Job = planned machines rows in
      let l = (least_short_is_named machines jobs s).0 e in
      record {
        number = omega arith;
        place = omega (arith, boundary_le 168 jobs (planned_deadlines machines rows h) s.place l.boundary);
        amount = omega (arith, shortage_le machines jobs s l, planned_forced machines rows h s.place);
      }

  pub plan_small : (size : ℕ) → Small (plan_answer machines rows size)
  unfolding plan_answer
  plan_small size =
      first_keeps Small _ _ list_small
      (λ z. first_keeps Small _ _ (whole_small (ltb size (168 * row_count rows)) 6 (omega arith))
      (λ _. fit_small (passes z) (least_short machines (planned machines rows)) refl))
    where
      passes : (list_fault machines rows).number ≡ 0 → Passes machines rows (list_order rows)
      passes z =
          zero_none (Holds machines rows) (answer_of machines rows) (refuses machines rows) (list_order rows) (list_fault machines rows) z
          (gives_list machines rows)

  room_small : (b : ℕ) → Small (room_answer machines rows b)
  unfolding room_answer
  room_small b = first_keeps Small _ _ list_small (λ _. whole_small (ltb 168 b) 9 (omega arith))

  bytes_small : Small (bytes_fault machines rows)
  unfolding bytes_fault
  bytes_small = first_keeps Small _ _ (count_small machines) (λ _. whole_small (not (eqb (length rows % 16) 0)) 2 (omega arith))

pub answers_pack : AnswersPack
unfolding window_answer room_window_answer
answers_pack machines rows size = (
  small_packs (plan_small machines rows size),
  small_packs (room_small machines rows size),
  small_packs (first_keeps Small _ _ (bytes_small machines rows) (λ _. plan_small machines (words_of rows) _)),
  small_packs (first_keeps Small _ _ (bytes_small machines rows) (λ _. room_small machines (words_of rows) size)),
)

pub packing_is_one_to_one : PackingIsOneToOne
unfolding pack
packing_is_one_to_one a b p q e = λ i. record { number = number i; place = place i; amount = amount i }
  where
    number : a.number ≡ b.number
    number = omega arith

    place : a.place ≡ b.place
    place = omega arith

    amount : a.amount ≡ b.amount
    amount = omega arith
