-- R4: the plan in one pass is the plan cell by cell.
use Prim.Native.Nat.{ℕ, zero, suc, ◌+◌, ◌<◌}
use native.Mathlib.Nat.{add-zero}
use native.Mathlib.Omega.{arith}
use mathlib.Core.Path.{◌≡◌, refl, sym, ◌∙◌, ap, ap₂}
use mathlib.Core.List.{List, [], ◌∷◌, ◌++◌, map, zip_with, append-nil}
use Rattle.model.specs.Lists.{Distinct, span}
use Rattle.model.specs.Jobs.{Job}
use Rattle.model.specs.Rule.{Share, fresh, fill, share_of, cell, plan_from, plan, rows_from, plan_rows}
use Rattle.model.specs.Claims.{RowsAreThePlan}
use Rattle.model.proofs.Lists.{All-map, All-of, map_same, map_map}
use Rattle.model.proofs.Shares.{numbers_of, numbers_fill, numbers_fresh, share_here, share_there, at_slot, under_slot}
use Rattle.model.proofs.Start.{start_anywhere}

-- the machines given, by position and by number
given_each : (ps : List Share) → Distinct (numbers_of ps) → map (λ p. p.given) ps ≡ map (λ n. (share_of n ps).given) (numbers_of ps)
given_each [] d = refl
given_each (p ∷ ps) d =
    ap₂ ◌∷◌ (ap (λ (q : Share). q.given) (sym (share_here p.job.number p ps refl)))
    (given_each ps d.1
    ∙ map_same (λ n. (share_of n ps).given) (λ n. (share_of n (p ∷ ps)).given) (numbers_of ps)
    (All-map (λ n e. ap (λ (q : Share). q.given) (sym (share_there n p ps e))) (numbers_of ps) d.0))

-- each row with one more number in front
ahead : List ℕ → List (List ℕ) → List (List ℕ)
ahead xs rows = zip_with (λ x row. x ∷ row) xs rows

ahead_map : (ps : List Share) (rows : List (List ℕ)) → zip_with (λ p row. p.given ∷ row) ps rows ≡ ahead (map (λ p. p.given) ps) rows
unfolding ahead zip_with
ahead_map [] rows = refl
ahead_map (p ∷ ps) [] = refl
ahead_map (p ∷ ps) (r ∷ rows) = ap (λ (rs : List (List ℕ)). (p.given ∷ r) ∷ rs) (ahead_map ps rows)

ahead_rows : (f : ℕ → ℕ) (g : ℕ → List ℕ) (ns : List ℕ) → ahead (map f ns) (map g ns) ≡ map (λ n. f n ∷ g n) ns
unfolding ahead zip_with
ahead_rows f g [] = refl
ahead_rows f g (n ∷ ns) = ap (λ (rs : List (List ℕ)). (f n ∷ g n) ∷ rs) (ahead_rows f g ns)

span_same : (f g : ℕ → ℕ) (a n : ℕ) → ((s : ℕ) → s < a + n → f s ≡ g s) → span a n f ≡ span a n g
span_same f g a zero h = refl
span_same f g a (suc n) h = ap₂ ◌∷◌ (h a (omega arith)) (span_same f g (suc a) n (λ s l. h s (omega arith)))

-- the last of a span, put in front of what follows it
span_last : (f : ℕ → ℕ) (a n : ℕ) (row : List ℕ) → span a (suc n) f ++ row ≡ span a n f ++ (f (a + n) ∷ row)
span_last f a zero row = ap (λ (x : ℕ). f x ∷ row) (sym (add-zero a))
span_last f a (suc n) row =
    ap (λ (r : List ℕ). f a ∷ r) (span_last f (suc a) n row ∙ ap (λ (x : ℕ). span (suc a) n f ++ (f x ∷ row)) (omega arith))

-- slots t down to 1 are still to be filled, and `far n` is the row of job number n in the later ones
rows_of : (count : ℕ → ℕ) (t : ℕ) (ps : List Share) → Distinct (numbers_of ps) → (far : ℕ → List ℕ)
    → rows_from count t ps (map far (numbers_of ps)) ≡ map (λ n. span 1 t (cell count t ps n) ++ far n) (numbers_of ps)
rows_of count zero ps d far = refl
rows_of count (suc t) ps d far =
    ap (rows_from count t qs) front ∙ rows_of count t qs (rw same d) far' ∙ map_same near' near (numbers_of qs) (All-of one_more (numbers_of qs)) ∙ ap (map near) same
  where
    qs : List Share
    qs = fill (count (suc t)) (suc t) ps

    same : numbers_of qs ≡ numbers_of ps
    same = numbers_fill (count (suc t)) (suc t) ps

    far' : ℕ → List ℕ
    far' n = (share_of n qs).given ∷ far n

    near : ℕ → List ℕ
    near n = span 1 (suc t) (cell count (suc t) ps n) ++ far n

    near' : ℕ → List ℕ
    near' n = span 1 t (cell count t qs n) ++ far' n

    front : zip_with (λ p row. p.given ∷ row) qs (map far (numbers_of ps)) ≡ map far' (numbers_of qs)
    front =
        ahead_map qs (map far (numbers_of ps)) ∙ ap₂ ahead (given_each qs (rw same d)) (ap (map far) (sym same))
        ∙ ahead_rows (λ n. (share_of n qs).given) far (numbers_of qs)

    one_more : (n : ℕ) → near' n ≡ near n
    one_more n =
        ap₂ ◌++◌ (sym (span_same (cell count (suc t) ps n) (cell count t qs n) 1 t (λ s l. under_slot count n t ps s (omega arith))))
        (ap (λ (x : ℕ). x ∷ far n) (sym (at_slot count n t ps) ∙ ap (cell count (suc t) ps n) (omega arith)))
        ∙ sym (span_last (cell count (suc t) ps n) 1 t (far n))

pub rows_are_the_plan : RowsAreThePlan
unfolding plan_rows plan_from plan
rows_are_the_plan C jobs d h =
    ap (rows_from (λ t. C) 168 (map fresh jobs)) (empty jobs)
    ∙ rows_of (λ t. C) 168 (map fresh jobs) (rw (numbers_fresh jobs) d) (λ n. [])
    ∙ ap (map (λ n. span 1 168 (cell (λ t. C) 168 (map fresh jobs) n) ++ [])) (numbers_fresh jobs)
    ∙ map_map (λ j. j.number) (λ n. span 1 168 (cell (λ t. C) 168 (map fresh jobs) n) ++ []) jobs
    ∙ map_same (λ j. span 1 168 (cell (λ t. C) 168 (map fresh jobs) j.number) ++ []) (λ j. span 1 168 (plan C jobs j.number)) jobs (All-of row jobs)
  where
    empty : (js : List Job) → map {B = List ℕ} (λ j. []) js ≡ map {B = List ℕ} (λ n. []) (numbers_of (map fresh js))
    empty [] = refl
    empty (j ∷ js) = ap (λ (rows : List (List ℕ)). [] ∷ rows) (empty js)

    row : (j : Job) → span 1 168 (cell (λ t. C) 168 (map fresh jobs) j.number) ++ [] ≡ span 1 168 (plan C jobs j.number)
    row j =
        append-nil (span 1 168 (cell (λ t. C) 168 (map fresh jobs) j.number))
        ∙ span_same (cell (λ t. C) 168 (map fresh jobs) j.number) (plan C jobs j.number) 1 168 (λ s l. start_anywhere (λ t. C) jobs 168 h j.number s)
