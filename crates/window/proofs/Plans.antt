-- Plan and Room at the window, from the answers of their parts.
use Prim.Native.Nat.{ℕ, ◌*◌, ◌/◌, min}
use native.Mathlib.Omega.{arith}
use mathlib.Core.Path.{◌≡◌, refl, sym, ◌∙◌, ap}
use mathlib.Core.Bool.{Bool, true, false}
use mathlib.Core.List.{List, ◌++◌, flatten, append-nil}
use lib.Dec.{ltb}
use lib.IntN.{ℤ}
use lib.ListN.{length, drop, drop_of_length-le}
use borrow.Author.Tests.{lt-ltb, le-ltb, ltb-true, ltb-false, eq-eqb, ne_eqb}
use Rattle.model.specs.Rule.{plan_rows}
use Rattle.std.specs.declared.result.Result.TheVariants.{Ok, Err}
use Rattle.promise.specs.declared.Answer.{Answer}
use Rattle.promise.specs.declared.Refusal.{Refusal}
use Rattle.promise.specs.Answers.{yes}
use Rattle.promise.specs.Rows.{row_count}
use Rattle.promise.specs.Lists.{planned, plan_answer, written, plan_buffer, PlanPromise, room_answer, room_figure, RoomPromise}
use Rattle.promise.specs.Window.{words_of, bytes_of, bytes_left, window_answer, window_buffer, pack, Packs, PlanBytesPromise, room_word, room_window_answer, room_packed, RoomBytesPromise}
use Rattle.promise.specs.Refusals.{numbered, as_room_answer}
use Rattle.promise.proofs.Ladder.{same_number}
use Rattle.promise.proofs.Sound.{yes_long}
use Rattle.promise.proofs.Theorems.{refusal_writes_nothing, answers_pack, window_writes_the_plan}
use Rattle.window.specs.Words.{early_fault}
use Rattle.window.proofs.Refused.{refuses}
use Rattle.window.proofs.Early.{refused_early, read_next}

-- no more cells than the plan fills make no other answer
fewer_same : (size k : ℕ) → ltb (min size k) k ≡ ltb size k
fewer_same size k = go (ltb size k) refl
  where
    go : (t : Bool) → ltb size k ≡ t → ltb (min size k) k ≡ t
    go true e = lt-ltb (min size k) k (omega (arith, ltb-true size k e))
    go false e = le-ltb (min size k) k (omega (arith, ltb-false size k e))

same_answer : (machines : ℕ) (rows : List ℕ) (size : ℕ) → plan_answer machines rows (min size (168 * row_count rows)) ≡ plan_answer machines rows size
unfolding plan_answer
same_answer machines rows size = rw (fewer_same size (168 * row_count rows)) refl

-- Plan into cells, written as bytes
module _ (machines : ℕ) (rows lent cells done : List ℕ) (long : length cells ≡ min (length lent / 2) (168 * row_count rows)) where
  same : plan_answer machines rows (length cells) ≡ plan_answer machines rows (length lent / 2)
  same = ap (plan_answer machines rows) long ∙ same_answer machines rows (length lent / 2)

  pub rows_refused : (e : Refusal) → PlanPromise machines rows cells (numbered e) done
      → (numbered e ≡ plan_answer machines rows (length lent / 2)) × (lent ≡ bytes_left (plan_answer machines rows (length lent / 2)) machines rows lent)
  rows_refused e p =
      let told : numbered e ≡ plan_answer machines rows (length lent / 2) = p.answered ∙ same in
      (told, sym (rw (ne_eqb (plan_answer machines rows (length lent / 2)).number 0 (refuses e _ told)) refl))

  module _ (p : PlanPromise machines rows cells yes done) where
    none : (plan_answer machines rows (length cells)).number ≡ 0
    none = sym (same_number p.answered)

    -- the plan fills the cells
    full : length cells ≡ 168 * row_count rows
    full = omega (arith, yes_long machines rows (length cells) none)

    done_plan : done ≡ flatten (plan_rows machines (planned machines rows))
    unfolding plan_buffer written
    done_plan =
        p.left ∙ rw (eq-eqb (plan_answer machines rows (length cells)).number 0 none, drop_of_length-le cells {i = 168 * row_count rows} (omega (arith, full)))
        (append-nil (flatten (plan_rows machines (planned machines rows))))

    done_long : 2 * length done ≡ 336 * row_count rows
    done_long = let e : length done ≡ length cells = ap length p.left ∙ (refusal_writes_nothing machines rows cells).1 in omega (arith, full)

    pub rows_planned : (after : List ℕ) → after ≡ bytes_of done ++ drop (2 * length done) lent
        → (yes ≡ plan_answer machines rows (length lent / 2)) × (after ≡ bytes_left (plan_answer machines rows (length lent / 2)) machines rows lent)
    rows_planned after e =
        let told : yes ≡ plan_answer machines rows (length lent / 2) = p.answered ∙ same in
        (told, e ∙ rw (sym told, done_long, done_plan) refl)

-- Plan on a list of bytes
module _ (machines : ℕ) (list lent : List ℕ) where
  pub plan_early : (e : Refusal) → numbered e ≡ early_fault machines list → Packs (numbered e) × PlanBytesPromise machines list lent (pack (numbered e)) lent
  unfolding window_answer plan_answer
  plan_early e h =
      let told : numbered e ≡ window_answer machines list (length lent) = refused_early machines list e h _ in (
        rw told (answers_pack machines list (length lent)).2,
        record { answered = ap pack told; left = sym ((window_writes_the_plan machines list lent).1 (refuses e _ told)) },
      )

  module _ (read : yes ≡ early_fault machines list) (rows : List ℕ) (r : rows ≡ words_of list) (a : Answer) (told : a ≡ plan_answer machines rows (length lent / 2)) where
    window_told : a ≡ window_answer machines list (length lent)
    unfolding window_answer
    window_told = told ∙ ap (λ (l : List ℕ). plan_answer machines l (length lent / 2)) r ∙ sym (read_next machines list read _)

    pub plan_read : (word : ℕ) (after : List ℕ) → word ≡ pack a → after ≡ bytes_left (plan_answer machines rows (length lent / 2)) machines rows lent
        → Packs a × PlanBytesPromise machines list lent word after
    unfolding window_buffer
    plan_read word after w l = (
      rw window_told (answers_pack machines list (length lent)).2,
      record {
        answered = w ∙ ap pack window_told;
        left = l ∙ ap (λ (x : Answer). bytes_left x machines rows lent) (sym told ∙ window_told) ∙ ap (λ (l : List ℕ). bytes_left (window_answer machines list (length lent)) machines l lent) r;
      },
    )

-- Room on a list of bytes
module _ (machines : ℕ) (list : List ℕ) (b : ℕ) where
  room_refused : (e : Refusal) → numbered e ≡ room_window_answer machines list b → Packs (numbered e) × RoomBytesPromise machines list b (pack (numbered e))
  unfolding room_packed
  room_refused e told =
      (rw told (answers_pack machines list b).3, rw (ne_eqb (room_window_answer machines list b).number 0 (refuses e _ told)) (ap pack told))

  pub room_early : (e : Refusal) → numbered e ≡ early_fault machines list → Packs (numbered e) × RoomBytesPromise machines list b (pack (numbered e))
  unfolding room_window_answer room_answer
  room_early e h = room_refused e (refused_early machines list e h _)

  module _ (read : yes ≡ early_fault machines list) (rows : List ℕ) (r : rows ≡ words_of list) where
    room_told : (a : Answer) → a ≡ room_answer machines rows b → a ≡ room_window_answer machines list b
    unfolding room_window_answer
    room_told a e = e ∙ ap (λ (l : List ℕ). room_answer machines l b) r ∙ sym (read_next machines list read _)

    pub room_no : (e : Refusal) → RoomPromise machines rows b (as_room_answer (Err e)) → Packs (numbered e) × RoomBytesPromise machines list b (pack (numbered e))
    room_no e p = room_refused e (room_told (numbered e) p.answered)

    pub room_yes : (z : ℤ) → RoomPromise machines rows b (as_room_answer (Ok z)) → (word : ℕ) → word ≡ room_word z → RoomBytesPromise machines list b (4294967296 * word)
    unfolding room_packed
    room_yes z p word w =
        rw (sym (room_told yes p.answered))
        (ap (λ (n : ℕ). 4294967296 * n) (w ∙ ap room_word (p.figure ∙ ap (λ (l : List ℕ). room_figure machines l b) r)))
