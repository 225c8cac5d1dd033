-- L4: the room, read back from the word.
use Prim.Native.Nat.{ℕ, suc, ◌*◌, ◌-◌, ◌/◌, ◌%◌, ◌≤◌, ◌<◌}
use native.Mathlib.Nat.{mul-le-mul, mul-mod_right}
use native.Mathlib.Decide.{dec_lt}
use native.Mathlib.Omega.{arith}
use mathlib.Core.Path.{◌≡◌}
use mathlib.Core.Logic.{◌≢◌}
use mathlib.Core.Bool.{cond}
use mathlib.Core.List.{List, [], ◌∷◌, ◌++◌}
use lib.Dec.{ltb}
use lib.IntN.{ℤ, pos, negsuc, neg_ℤ}
use lib.Signed.{mag}
use borrow.Author.Tests.{lt-ltb, le-ltb, eq-eqb, ne_eqb}
use Rattle.model.specs.Jobs.{Job, forced, room}
use Rattle.model.proofs.Signed.{room_enough, room_short}
use Rattle.promise.specs.Answers as Answers
use Rattle.promise.specs.Rows.{boundary, list_order}
use Rattle.promise.specs.Lists.{planned, Holds, answer_of, room_order, room_answer, room_figure}
use Rattle.promise.specs.Window.{words_of, bytes_fault, pack, room_word, room_window_answer, room_packed}
use Rattle.promise.specs.Claims.{RoomIsReadBack}
use Rattle.promise.proofs.Ladder.{same_number, All-front, All-back, zero_none, first_zero}
use Rattle.promise.proofs.Table.{refuses, gives_room}
use Rattle.promise.proofs.Sound.{Passes, few_machines}
use Rattle.promise.proofs.Bounds.{planned_forced}

-- the room that a word of 32 bits stands for
abbrev read_back : ℕ → ℤ
read_back w = cond (ltb w 2147483648) (pos w) (neg_ℤ (pos (4294967296 - w)))

read_back_lem : (z : ℤ) → mag z < 2000000 → z ≡ read_back (room_word z)
read_back_lem (pos n) h = rw (lt-ltb n 2147483648 (omega arith))
read_back_lem (negsuc n) h =
    let same : 4294967296 - (4294967296 - suc n) ≡ suc n = omega arith in
    rw (le-ltb (4294967296 - suc n) 2147483648 (omega arith), same)

module _ (machines : ℕ) (rows : List ℕ) (b : ℕ) (z : (room_answer machines rows b).number ≡ 0) where
  room_passes : Passes machines rows (list_order rows ++ (boundary b ∷ []))
  unfolding room_order
  room_passes =
      zero_none (Holds machines rows) (answer_of machines rows) (refuses machines rows) (room_order rows b) (room_answer machines rows b) z
      (gives_room machines rows b)

  list_passes : Passes machines rows (list_order rows)
  list_passes = All-front (λ x. ¬ Holds machines rows x) (list_order rows) (boundary b ∷ []) room_passes

  -- 64 machines in 168 slots, 32 jobs of 60,000 hours
  capacity_le : machines * b ≤ 64 * 168
  capacity_le =
      let p = All-back (λ x. ¬ Holds machines rows x) (list_order rows) (boundary b ∷ []) room_passes in
      let l : b ≤ 168 = omega (arith, p.0) in
      mul-le-mul (few_machines machines rows list_passes) l

  room_small : mag (room machines (planned machines rows) b) < 2000000
  room_small = go (dec_lt (machines * b) (forced jobs b))
    where
      jobs : List Job
      jobs = planned machines rows

      go : Dec (machines * b < forced jobs b) → mag (room machines jobs b) < 2000000
      go (yes l) = rw (room_short machines jobs b l) (omega (arith, planned_forced machines rows list_passes b))
      go (no l) = rw (room_enough machines jobs b (omega arith)) (omega (arith, capacity_le))

  pub figure_small : mag (room_figure machines rows b) < 2000000
  unfolding room_figure
  figure_small = rw (eq-eqb (room_answer machines rows b).number 0 z) room_small

abbrev ReadOff : ℕ → List ℕ → ℕ → Type 0
ReadOff machines list b =
    (room_packed machines list b % 4294967296 ≡ 0)
    × (room_figure machines (words_of list) b ≡ read_back (room_packed machines list b / 4294967296))

room_packed_lem : (machines : ℕ) (list : List ℕ) (b : ℕ) → room_window_answer machines list b ≡ Answers.yes → ReadOff machines list b
unfolding room_window_answer room_packed
room_packed_lem machines list b e =
    (rw packed (mul-mod_right 4294967296 word), rw (packed, upper) (read_back_lem figure (figure_small machines (words_of list) b is_zero)))
  where
    figure : ℤ
    figure = room_figure machines (words_of list) b

    word : ℕ
    word = room_word figure

    is_zero : (room_answer machines (words_of list) b).number ≡ 0
    is_zero = first_zero (bytes_fault machines list) (room_answer machines (words_of list) b) (same_number e)

    packed : room_packed machines list b ≡ 4294967296 * word
    packed = rw (eq-eqb (room_window_answer machines list b).number 0 (same_number e))

    upper : 4294967296 * word / 4294967296 ≡ word
    upper = omega arith

refusal_packed : (machines : ℕ) (list : List ℕ) (b : ℕ) → (room_window_answer machines list b).number ≢ 0
    → room_packed machines list b ≡ pack (room_window_answer machines list b)
unfolding room_packed
refusal_packed machines list b h = rw (ne_eqb (room_window_answer machines list b).number 0 h)

pub room_is_read_back : RoomIsReadBack
room_is_read_back machines list b = (room_packed_lem machines list b, refusal_packed machines list b)
