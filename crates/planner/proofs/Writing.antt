-- What the code writes, slot by slot, is the plan, row by row.
use Prim.Native.Nat.{ℕ, zero, suc, ◌+◌, ◌*◌, ◌-◌, ◌/◌, ◌%◌, ◌≤◌, ◌<◌}
use native.Mathlib.Decide.{dec_lt, ℕ_discrete}
use native.Mathlib.Omega.{arith}
use mathlib.Core.Path.{◌≡◌, refl, sym, ◌∙◌, ap, ap₂}
use mathlib.Core.Logic.{◌≢◌}
use mathlib.Core.List.{List, [], ◌∷◌, ◌++◌, map, flatten}
use lib.ListN.{length, get_or, drop, set, length-map, length-set, length-append, length-drop, get_or-append, get_or-map}
use lib.Seq.{get_or-set_same, get_or-set_other, get_or-append-add, get_or-drop, ext_get_or}
use Rattle.model.specs.Lists.{All, Distinct, span}
use Rattle.model.specs.Jobs as Jobs
use Rattle.model.specs.Jobs.{numbers}
use Rattle.model.specs.Rule as Model
use Rattle.model.specs.Rule.{fresh, fill, share_of, cell, plan_from, plan, plan_rows}
use Rattle.model.proofs.Lists.{All-of, All-under, map_map}
use Rattle.model.proofs.Shares.{numbers_of, numbers_fill, numbers_fresh, share_here, share_there, at_slot, under_slot}
use Rattle.model.proofs.Rows.{rows_are_the_plan}
use Rattle.model.proofs.Start.{start_plays_no_part}
use Rattle.promise.specs.Lists.{written}
use Rattle.promise.proofs.Buffer.{flat_length, flat_at, span_length, span_at}
use Rattle.figures.specs.declared.Job.{Job}
use Rattle.figures.specs.Jobs.{as_job, as_jobs}
use Rattle.rule.specs.declared.Share.{Share}
use Rattle.rule.specs.Shares.{as_shares, fresh_of}
use Rattle.planner.specs.Writing.{column_of, Plannable}
use Rattle.planner.proofs.Shares.{start_shares, start_theirs, apart_still, jobs_still, count_still, slim_still}

pub column_length : (t i : ℕ) (ps : List Model.Share) (plan : List ℕ) → length (column_of t i ps plan) ≡ length plan
column_length t i [] plan = refl
column_length t i (p ∷ ps) plan = column_length t (suc i) ps (set plan (168 * i + t - 1) p.given) ∙ length-set plan (168 * i + t - 1) p.given

-- slots t down to 1 filled with C machines each, and written
unfoldable pub write_from : ℕ → ℕ → List Model.Share → List ℕ → List ℕ
write_from C zero ps plan = plan
write_from C (suc t) ps plan = write_from C t (fill C (suc t) ps) (column_of (suc t) 0 (fill C (suc t) ps) plan)

pub write_length : (C t : ℕ) (ps : List Model.Share) (plan : List ℕ) → length (write_from C t ps plan) ≡ length plan
unfolding write_from
write_length C zero ps plan = refl
write_length C (suc t) ps plan =
    write_length C t (fill C (suc t) ps) (column_of (suc t) 0 (fill C (suc t) ps) plan) ∙ column_length (suc t) 0 (fill C (suc t) ps) plan

-- a place that is not of slot t stays as it was
column_other : (t i : ℕ) (ps : List Model.Share) (plan : List ℕ) (k : ℕ) → ((m : ℕ) → i ≤ m → m < i + length ps → k ≢ 168 * m + t - 1)
    → get_or (column_of t i ps plan) k 0 ≡ get_or plan k 0
column_other t i [] plan k h = refl
column_other t i (p ∷ ps) plan k h =
    column_other t (suc i) ps (set plan (168 * i + t - 1) p.given) k (λ m l g. h m (omega arith) (omega arith))
    ∙ get_or-set_other plan (168 * i + t - 1) k p.given 0 (h i (omega arith) (omega arith))

-- the place of row i + m in slot t has the machines of share m
column_here : (t i : ℕ) (ps : List Model.Share) (plan : List ℕ) (m : ℕ) (d : Model.Share) → 1 ≤ t → m < length ps → 168 * (i + m) + t - 1 < length plan
    → get_or (column_of t i ps plan) (168 * (i + m) + t - 1) 0 ≡ (get_or ps m d).given
column_here t i [] plan m d o l h = absurd (omega arith)
column_here t i (p ∷ ps) plan zero d o l h =
    column_other t (suc i) ps (set plan (168 * i + t - 1) p.given) (168 * (i + 0) + t - 1) (λ k a b. omega arith)
    ∙ ap (λ (k : ℕ). get_or (set plan (168 * i + t - 1) p.given) k 0) (omega arith)
    ∙ get_or-set_same plan (168 * i + t - 1) p.given 0 (omega arith)
column_here t i (p ∷ ps) plan (suc m) d o l h =
    let e : 168 * (i + suc m) + t - 1 ≡ 168 * (suc i + m) + t - 1 = omega arith in
    rw e (column_here t (suc i) ps (set plan (168 * i + t - 1) p.given) m d o (omega arith) (rw (length-set plan (168 * i + t - 1) p.given) (omega arith)))

-- the share of a number, by its index
share_at : (ps : List Model.Share) (i : ℕ) → Distinct (numbers_of ps) → i < length ps → (d : Model.Share) → share_of (get_or (numbers_of ps) i 0) ps ≡ get_or ps i d
share_at [] i d l z = absurd (omega arith)
share_at (p ∷ ps) zero d l z = share_here p.job.number p ps refl
share_at (p ∷ ps) (suc i) d l z =
    share_there (get_or (numbers_of ps) i 0) p ps (absent (numbers_of ps) i d.0 (omega (arith, length-map ps (λ q. q.job.number)))) ∙ share_at ps i d.1 (omega arith) z
  where
    absent : (ns : List ℕ) (i : ℕ) → All (λ n. p.job.number ≢ n) ns → i < length ns → p.job.number ≢ get_or ns i 0
    absent [] i a l = absurd (omega arith)
    absent (n ∷ ns) zero a l = a.0
    absent (n ∷ ns) (suc i) a l = absent ns i a.1 (omega arith)

same_length : (C t : ℕ) (ps : List Model.Share) → length (fill C t ps) ≡ length ps
same_length C t ps =
    sym (length-map (fill C t ps) (λ p. p.job.number)) ∙ ap length (numbers_fill C t ps) ∙ length-map ps (λ p. p.job.number)

-- what is written at slot s + 1 of row i, with the slots from t down still to be filled
module _ (C i s : ℕ) (hs : s < 168) where
  write_cell : (t : ℕ) (ps : List Model.Share) (plan : List ℕ) → Distinct (numbers_of ps) → i < length ps → t ≤ 168 → 168 * length ps ≤ length plan
      → (s < t → get_or (write_from C t ps plan) (168 * i + s) 0 ≡ cell (λ r. C) t ps (get_or (numbers_of ps) i 0) (suc s))
      × (t ≤ s → get_or (write_from C t ps plan) (168 * i + s) 0 ≡ get_or plan (168 * i + s) 0)
  unfolding write_from
  write_cell zero ps plan d l h k = ((λ a. absurd (omega arith)), λ a. refl)
  write_cell (suc t) ps plan d l h k =
      let r =
      write_cell t qs (column_of (suc t) 0 qs plan) (rw (numbers_fill C (suc t) ps) d) (omega (arith, same_length C (suc t) ps)) (omega arith)
      (omega (arith, same_length C (suc t) ps, column_length (suc t) 0 qs plan)) in
      (within r (ℕ_discrete s t), λ a. r.1 (omega arith) ∙ column_other (suc t) 0 qs plan (168 * i + s) (λ m x y. omega arith))
    where
      qs : List Model.Share
      qs = fill C (suc t) ps

      number : ℕ
      number = get_or (numbers_of ps) i 0

      here : s ≡ t → get_or (column_of (suc t) 0 qs plan) (168 * i + s) 0 ≡ cell (λ r. C) (suc t) ps number (suc s)
      here e =
          ap (λ (k : ℕ). get_or (column_of (suc t) 0 qs plan) k 0) (omega arith)
          ∙ column_here (suc t) 0 qs plan i (share_of 0 []) (omega arith) (omega (arith, same_length C (suc t) ps)) (omega arith)
          ∙ sym (ap (λ (p : Model.Share). p.given) (ap (λ (n : ℕ). share_of n qs) (ap (λ (ns : List ℕ). get_or ns i 0) (sym (numbers_fill C (suc t) ps))) ∙ share_at qs i (rw (numbers_fill C (suc t) ps) d) (omega (arith, same_length C (suc t) ps)) (share_of 0 [])))
          ∙ sym (at_slot (λ r. C) number t ps) ∙ ap (λ (r : ℕ). cell (λ r. C) (suc t) ps number (suc r)) (sym e)

      within : (s < t → get_or (write_from C t qs (column_of (suc t) 0 qs plan)) (168 * i + s) 0 ≡ cell (λ r. C) t qs (get_or (numbers_of qs) i 0) (suc s))
          × (t ≤ s → get_or (write_from C t qs (column_of (suc t) 0 qs plan)) (168 * i + s) 0 ≡ get_or (column_of (suc t) 0 qs plan) (168 * i + s) 0)
          → Dec (s ≡ t) → s < suc t → get_or (write_from C t qs (column_of (suc t) 0 qs plan)) (168 * i + s) 0 ≡ cell (λ r. C) (suc t) ps number (suc s)
      within r (yes e) a = r.1 (omega arith) ∙ here e
      within r (no n) a =
          r.0 (omega arith) ∙ ap (λ (ns : List ℕ). cell (λ r. C) t qs (get_or ns i 0) (suc s)) (numbers_fill C (suc t) ps)
          ∙ sym (under_slot (λ r. C) number t ps (suc s) (λ e. n (omega arith)))

-- past the rows nothing is written
write_beyond : (C t : ℕ) (ps : List Model.Share) (plan : List ℕ) (k : ℕ) → t ≤ 168 → 168 * length ps ≤ k → get_or (write_from C t ps plan) k 0 ≡ get_or plan k 0
unfolding write_from
write_beyond C zero ps plan k h l = refl
write_beyond C (suc t) ps plan k h l =
    write_beyond C t (fill C (suc t) ps) (column_of (suc t) 0 (fill C (suc t) ps) plan) k (omega arith) (omega (arith, same_length C (suc t) ps))
    ∙ column_other (suc t) 0 (fill C (suc t) ps) plan k (λ m x y. omega (arith, same_length C (suc t) ps))

-- the rows of the plan, by job number
module _ (C : ℕ) (jobs : List Jobs.Job) (apart : Distinct (numbers jobs)) (deadlines : All (λ j. j.deadline ≤ 168) jobs) where
  row : ℕ → List ℕ
  row n = span 1 168 (plan C jobs n)

  rows : List (List ℕ)
  rows = map row (numbers jobs)

  rows_same : plan_rows C jobs ≡ rows
  unfolding rows row
  rows_same = rows_are_the_plan C jobs apart deadlines ∙ sym (map_map (λ j. j.number) row jobs)

  rows_long : All (λ r. length r ≡ 168) rows
  unfolding rows row
  rows_long = All-under row (λ r. length r ≡ 168) (numbers jobs) (All-of (λ n. span_length (plan C jobs n) 1 168) (numbers jobs))

  rows_count : length rows ≡ length jobs
  unfolding rows
  rows_count = length-map (numbers jobs) row ∙ length-map jobs (λ j. j.number)

  flat : length (flatten rows) ≡ 168 * length jobs
  flat = flat_length 168 rows rows_long ∙ ap (λ (n : ℕ). 168 * n) rows_count

  row_cell : (i s : ℕ) → i < length jobs → s < 168 → get_or (flatten rows) (168 * i + s) 0 ≡ plan C jobs (get_or (numbers jobs) i 0) (suc s)
  unfolding rows row
  row_cell i s l h =
      flat_at 168 rows rows_long i s (row 0) (omega (arith, rows_count)) h
      ∙ ap (λ (r : List ℕ). get_or r s 0) (get_or-map row (numbers jobs) i 0)
      ∙ span_at (plan C jobs (get_or (numbers jobs) i 0)) 1 168 s h
      ∙ ap (plan C jobs (get_or (numbers jobs) i 0)) (omega arith)

  module _ (lent : List ℕ) (long : 168 * length jobs ≤ length lent) where
    done : List ℕ
    done = write_from C 168 (map fresh jobs) lent

    in_rows : (i s : ℕ) → i < length jobs → s < 168 → get_or done (168 * i + s) 0 ≡ get_or (flatten rows ++ drop (168 * length jobs) lent) (168 * i + s) 0
    unfolding done plan_from
    in_rows i s l h =
        (write_cell C i s h 168 (map fresh jobs) lent (rw (numbers_fresh jobs) apart) (omega (arith, length-map jobs fresh)) (omega arith) (omega (arith, length-map jobs fresh))).0 h
        ∙ ap (λ (ns : List ℕ). cell (λ r. C) 168 (map fresh jobs) (get_or ns i 0) (suc s)) (numbers_fresh jobs)
        ∙ start_plays_no_part C 168 jobs deadlines (get_or (numbers jobs) i 0) (suc s)
        ∙ sym (row_cell i s l h)
        ∙ sym (get_or-append (flatten rows) (drop (168 * length jobs) lent) 0 (168 * i + s) (omega (arith, flat)))

    past_rows : (k : ℕ) → 168 * length jobs ≤ k → get_or done k 0 ≡ get_or (flatten rows ++ drop (168 * length jobs) lent) k 0
    unfolding done
    past_rows k l =
        let n : ℕ = 168 * length jobs in
        write_beyond C 168 (map fresh jobs) lent k (omega arith) (omega (arith, length-map jobs fresh))
        ∙ ap (λ (m : ℕ). get_or lent m 0) (omega arith)
        ∙ sym (get_or-drop n lent (k - n) 0)
        ∙ sym (get_or-append-add (flatten rows) (drop n lent) (k - n) 0)
        ∙ ap (λ (m : ℕ). get_or (flatten rows ++ drop n lent) m 0) (omega (arith, flat))

    pub writes_the_rows : write_from C 168 (map fresh jobs) lent ≡ written (plan_rows C jobs) (length jobs) lent
    unfolding written done
    writes_the_rows =
        ext_get_or 0 done (flatten rows ++ drop (168 * length jobs) lent) lengths each
        ∙ ap (λ (rs : List (List ℕ)). flatten rs ++ drop (168 * length jobs) lent) (sym rows_same)
      where
        lengths : length done ≡ length (flatten rows ++ drop (168 * length jobs) lent)
        lengths =
            omega (
              arith,
              write_length C 168 (map fresh jobs) lent,
              length-append (flatten rows) (drop (168 * length jobs) lent),
              length-drop (168 * length jobs) lent,
              flat,
            )

        each : (k : ℕ) → k < length done → get_or done k 0 ≡ get_or (flatten rows ++ drop (168 * length jobs) lent) k 0
        each k l = go (dec_lt k (168 * length jobs))
          where
            go : Dec (k < 168 * length jobs) → get_or done k 0 ≡ get_or (flatten rows ++ drop (168 * length jobs) lent) k 0
            go (yes h) =
                let e : 168 * (k / 168) + k % 168 ≡ k = omega arith in
                rw e at (in_rows (k / 168) (k % 168) (omega arith) (omega arith))
            go (no h) = past_rows k (omega arith)

-- with nothing filled yet
pub write_begin : (C : ℕ) (jobs : List Job) (shares : List Share) (lent : List ℕ) → Plannable jobs → shares ≡ map fresh_of jobs → 168 * length jobs ≤ length lent
    → write_from C 168 (as_shares shares) lent ≡ written (plan_rows C (as_jobs jobs)) (length jobs) lent
write_begin C jobs shares lent p e long =
    ap (λ (ps : List Model.Share). write_from C 168 ps lent) (start_shares jobs shares e)
    ∙ writes_the_rows C (as_jobs jobs) p.apart p.deadlines lent (omega (arith, length-map jobs as_job))
    ∙ ap (λ (n : ℕ). written (plan_rows C (as_jobs jobs)) n lent) (length-map jobs as_job)

-- one slot filled and written
pub write_step : (C t : ℕ) (ps qs : List Model.Share) (plan plan' : List ℕ) → 0 < t → qs ≡ fill C t ps → plan' ≡ column_of t 0 qs plan
    → write_from C t ps plan ≡ write_from C (t - 1) qs plan'
unfolding write_from
write_step C zero ps qs plan plan' h e f = absurd (omega arith)
write_step C (suc t) ps qs plan plan' h e f =
    let z : suc t - 1 ≡ t = omega arith in
    rw z (sym (ap₂ (write_from C t) e (f ∙ ap (λ (rs : List Model.Share). column_of (suc t) 0 rs plan) e)))

-- nothing left to fill
pub write_end : (C t : ℕ) (ps : List Model.Share) (plan : List ℕ) → t ≡ 0 → write_from C t ps plan ≡ plan
unfolding write_from
write_end C t ps plan e = rw e refl

-- what the goals of the loop over the slots want
pub ruleset slot_steps = (start_theirs, apart_still, jobs_still, count_still, slim_still, write_begin, write_step, write_end)
