-- The reader's parts against the definitions: bytes in a range, digits, labels, keys, a number kept.
use Prim.Native.Nat.{ℕ, zero, suc, ◌+◌, ◌*◌, ◌-◌, ◌^◌, ◌≤◌, ◌<◌}
use native.Mathlib.Nat.{pow-succ', pow-le-pow_right}
use native.Mathlib.Numerals.{add-one}
use native.Mathlib.Omega.{arith}
use mathlib.Core.Path.{◌≡◌, refl, sym, ◌∙◌, ap}
use mathlib.Core.Logic.{◌≢◌}
use mathlib.Core.Bool.{Bool, true, false, cond, ◌&&◌}
use mathlib.Core.List.{List, [], ◌∷◌}
use mathlib.Core.Option.{some, none}
use lib.Dec.{leb, eqb}
use lib.ListN.{length, get_or, take, drop, set}
use lib.Seq.{drop-cons}
use lib.Pointwise.{pointwise}
use borrow.Author.Tests.{leb-true}
use Rattle.std.specs.List.{list_all}
use Rattle.model.proofs.Lists.{and_true}
use Rattle.promise.specs.declared.LineKind.{LineKind}
use Rattle.promise.specs.declared.LineKind.TheVariants.{MachinesLine, JobLine, WorkLine, DeadlineLine, BoundLine, LabelLine}
use Rattle.promise.specs.Texts.{all_within, value_from, read_number}
use Rattle.promise.specs.JobFile.{key, after_key, number_told, label_told, told, told_by}
use Rattle.std.specs.Bool.{then_some}
use Rattle.std.specs.declared.option.Option as code
use Rattle.std.specs.declared.option.Option.TheVariants.{None, Some}
use Rattle.jobfile.specs.declared.Kept.{Kept}
use Rattle.jobfile.specs.Reader.{label_as, numbers, told_as, kept_with}

pub all_within_is : (least most : ℕ) (text : List ℕ) → list_all (λ b. leb least b && leb b most) text ≡ all_within least most text
all_within_is least most [] = refl
all_within_is least most (b ∷ text) = ap (λ t. leb least b && leb b most && t) (all_within_is least most text)

-- each byte of a run of which every one is in a range
within_at : (text : List ℕ) (least most i : ℕ) → all_within least most text ≡ true → i < length text → (least ≤ get_or text i 0) × (get_or text i 0 ≤ most)
within_at [] least most i e h = absurd (omega arith)
within_at (b ∷ text) least most zero e h =
    let p = and_true (leb least b) (leb b most) (and_true (leb least b && leb b most) (all_within least most text) e).0 in
    (leb-true least b p.0, leb-true b most p.1)
within_at (b ∷ text) least most (suc i) e h =
    within_at text least most i (and_true (leb least b && leb b most) (all_within least most text) e).1 (omega arith)

-- one digit more: its byte, the value with it, and how large that can be
module _ (text : List ℕ) (i : ℕ) where
  pub digit_least : all_within 48 57 text ≡ true → i < length text → 48 ≤ get_or text i 0
  digit_least e h = (within_at text 48 57 i e h).0

  pub digit_most : all_within 48 57 text ≡ true → i < length text → get_or text i 0 ≤ 57
  digit_most e h = (within_at text 48 57 i e h).1

  pub value_step : (v : ℕ) → i < length text → value_from v (drop i text) ≡ value_from (10 * v + (get_or text i 0 - 48)) (drop (i + 1) text)
  value_step v h = rw (add-one i, drop-cons text i 0 h) refl

pub ten_small : (i : ℕ) → i ≤ 6 → 10 ^ i ≤ 1000000
ten_small i h = pow-le-pow_right {n = 10} (omega arith) {i = i} {j = 6} h

pub ten_more : (i : ℕ) → 10 ^ (i + 1) ≡ 10 * 10 ^ i
ten_more i = rw (add-one i) (omega (arith, pow-succ' 10 i))

pub ruleset digit_laws = (digit_least, digit_most, value_step, ten_small, ten_more)

pub label_cond : (t : Bool) → label_as t ≡ cond t (some []) none
label_cond true = refl
label_cond false = refl

-- what stands after a key, as a comparison of the line's first bytes with it
after_key_is : (key line : List ℕ) → after_key key line ≡ cond (pointwise eqb (take (length key) line) key) (some (drop (length key) line)) none
after_key_is [] line = refl
after_key_is (k ∷ key) [] = refl
after_key_is (k ∷ key) (b ∷ line) = go (eqb b k) (after_key_is key line)
  where
    go : (t : Bool) → after_key key line ≡ cond (pointwise eqb (take (length key) line) key) (some (drop (length key) line)) none
        → cond t (after_key key line) none ≡ cond (t && pointwise eqb (take (length key) line) key) (some (drop (length key) line)) none
    go true e = e
    go false e = refl

-- a line of each kind, by whether it starts with its key
module _ (kind : LineKind) (line : List ℕ) where
  pub key_none : pointwise eqb (take (length (key kind)) line) (key kind) ≡ false → none ≡ told_by kind line
  unfolding told_by
  key_none h = go kind ∙ ap (told kind) (sym (after_key_is (key kind) line ∙ rw h refl))
    where
      go : (kind : LineKind) → none ≡ told kind none
      go MachinesLine = refl
      go JobLine = refl
      go WorkLine = refl
      go DeadlineLine = refl
      go BoundLine = refl
      go LabelLine = refl

  module _ (h : pointwise eqb (take (length (key kind)) line) (key kind) ≡ true) where
    key_some : told_by kind line ≡ told kind (some (drop (length (key kind)) line))
    unfolding told_by
    key_some = ap (told kind) (after_key_is (key kind) line ∙ rw h refl)

    pub key_label : kind ≡ LabelLine → label_told (drop (length (key kind)) line) ≡ told_by kind line
    key_label e = ap (λ k. told k (some (drop (length (key kind)) line))) (sym e) ∙ sym key_some

    pub key_number : kind ≢ LabelLine → number_told (read_number (drop (length (key kind)) line)) ≡ told_by kind line
    key_number n = go kind n ∙ sym key_some
      where
        go : (k : LineKind) → k ≢ LabelLine → number_told (read_number (drop (length (key kind)) line)) ≡ told k (some (drop (length (key kind)) line))
        go MachinesLine n = refl
        go JobLine n = refl
        go WorkLine n = refl
        go DeadlineLine n = refl
        go BoundLine n = refl
        go LabelLine n = absurd (n refl)

pub told_label : (t : Bool) → told_as (then_some t None) ≡ label_as t
told_label true = refl
told_label false = refl

pub ruleset key_laws = (key_none, key_label, key_number, told_label)

-- one number of the rows, and no number
module _ (k : Kept) where
  pub row_kept : (kind : LineKind) (n : ℕ) → kind ≢ MachinesLine
      → kept_with kind k (n ∷ []) ≡ record { machines = k.machines; count = k.count + 1; rows = set k.rows k.count n }
  row_kept MachinesLine n h = absurd (h refl)
  row_kept JobLine n h = refl
  row_kept WorkLine n h = refl
  row_kept DeadlineLine n h = refl
  row_kept BoundLine n h = refl
  row_kept LabelLine n h = refl

  pub none_kept : (kind : LineKind) → kept_with kind k [] ≡ k
  none_kept MachinesLine = refl
  none_kept JobLine = refl
  none_kept WorkLine = refl
  none_kept DeadlineLine = refl
  none_kept BoundLine = refl
  none_kept LabelLine = refl

pub keep_count : (kind : LineKind) (k : Kept) (number : code.Option ℕ) → (kept_with kind k (numbers number)).count ≤ k.count + 1
keep_count MachinesLine k None = omega arith
keep_count MachinesLine k (Some n) = omega arith
keep_count JobLine k None = omega arith
keep_count JobLine k (Some n) = omega arith
keep_count WorkLine k None = omega arith
keep_count WorkLine k (Some n) = omega arith
keep_count DeadlineLine k None = omega arith
keep_count DeadlineLine k (Some n) = omega arith
keep_count BoundLine k None = omega arith
keep_count BoundLine k (Some n) = omega arith
keep_count LabelLine k None = omega arith
keep_count LabelLine k (Some n) = omega arith

pub ruleset keep_laws = (row_kept, none_kept)
