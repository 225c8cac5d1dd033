-- The walk over the boundaries, step by step, against the model's list of boundaries.
use Rattle.std.proofs.Common.{ℕ, ◌≤◌, ◌<◌, ltb, min, refl, sym, ◌∙◌, ap, inl, inr, Bool, true, false, cond, arith}
use native.Mathlib.Decide.{dec_lt}
use mathlib.Core.Path.{◌≡◌}
use mathlib.Core.Logic.{◌⊎◌}
use mathlib.Core.List.{List, [], ◌∷◌, map, Memᴰ}
use mathlib.Core.Option.{some, none, or_else}
use lib.IntN.{ℤ, pos}
use lib.Signed.{lt_z}
use borrow.Author.Tests.{lt-ltb, le-ltb, ltb-true, ltb-false}
use Rattle.std.specs.declared.option.Option as code
use Rattle.std.specs.declared.option.Option.TheVariants.{None, Some}
use Rattle.std.specs.List.{reduce, fold, filter}
use Rattle.model.specs.Lists.{All, Rising}
use Rattle.model.specs.Jobs as Model
use Rattle.model.specs.Jobs.{room}
use Rattle.model.specs.Boundaries.{Boundary, boundaries, shortage, short_at, first_short, least_short}
use Rattle.model.proofs.Lists.{All-map, All-at, map_map, mem_map}
use Rattle.model.proofs.LeastShort.{boundaries_rise, listed_boundaries, zero_listed, deadline_listed}
use Rattle.figures.specs.declared.Job.{Job}
use Rattle.figures.specs.Jobs.{as_job, as_jobs}
use Rattle.walk.specs.Walk.{InRange, next_of}

-- of a list of numbers, the least that is above b
abbrev pub Nearest : ℕ → List ℕ → code.Option ℕ → Type 0
Nearest b ds None = All (λ d. d ≤ b) ds
Nearest b ds (Some c) = (b < c) × Memᴰ c ds × All (λ d. b < d → c ≤ d) ds

-- c is the least of a and of those of a list that are above b
abbrev LeastWith : ℕ → ℕ → List ℕ → ℕ → Type 0
LeastWith b a ds c = (b < c) × (c ≤ a) × ((c ≡ a) ⊎ Memᴰ c ds) × All (λ d. b < d → c ≤ d) ds

min_cases : (a d : ℕ) → (min a d ≡ a) ⊎ (min a d ≡ d)
min_cases a d = go (dec_lt d a)
  where
    go : Dec (d < a) → (min a d ≡ a) ⊎ (min a d ≡ d)
    go (yes h) = inr (omega arith)
    go (no h) = inl (omega arith)

least_with : (b a : ℕ) (ds : List ℕ) → b < a → LeastWith b a ds (fold min a (filter (ltb b) ds))
least_with b a [] h = (h, omega arith, inl refl, tt)
least_with b a (d ∷ ds) h = go (ltb b d) refl (λ x. least_with b x ds)
  where
    here : (c : ℕ) → (c ≡ min a d) ⊎ Memᴰ c ds → (min a d ≡ a) ⊎ (min a d ≡ d) → (c ≡ a) ⊎ Memᴰ c (d ∷ ds)
    here c (inl e) (inl f) = inl (e ∙ f)
    here c (inl e) (inr f) = inr (Memᴰ.head (e ∙ f))
    here c (inr m) f = inr (Memᴰ.tail m)

    passed : (c : ℕ) → (c ≡ a) ⊎ Memᴰ c ds → (c ≡ a) ⊎ Memᴰ c (d ∷ ds)
    passed c (inl e) = inl e
    passed c (inr m) = inr (Memᴰ.tail m)

    go : (t : Bool) → ltb b d ≡ t → ((x : ℕ) → b < x → LeastWith b x ds (fold min x (filter (ltb b) ds)))
        → LeastWith b a (d ∷ ds) (fold min a (cond t (d ∷ filter (ltb b) ds) (filter (ltb b) ds)))
    go true e more =
        let k = more (min a d) (omega (arith, ltb-true b d e)) in
        (k.0, omega (arith, k.1), here _ k.2 (min_cases a d), ((λ l. omega (arith, k.1)), k.3))
    go false e more =
        let k = more a h in
        let l = ltb-false b d e in
        (k.0, k.1, passed _ k.2, ((λ m. absurd (omega arith)), k.3))

nearest : (b : ℕ) (ds : List ℕ) → Nearest b ds (reduce min (filter (ltb b) ds))
nearest b [] = tt
nearest b (d ∷ ds) = go (ltb b d) refl (nearest b ds)
  where
    found : (c : ℕ) → (c ≡ d) ⊎ Memᴰ c ds → Memᴰ c (d ∷ ds)
    found c (inl e) = Memᴰ.head e
    found c (inr m) = Memᴰ.tail m

    passed : d ≤ b → (o : code.Option ℕ) → Nearest b ds o → Nearest b (d ∷ ds) o
    passed h None k = (h, k)
    passed h (Some c) k = (k.0, Memᴰ.tail k.1, ((λ l. absurd (omega arith)), k.2))

    go : (t : Bool) → ltb b d ≡ t → Nearest b ds (reduce min (filter (ltb b) ds))
        → Nearest b (d ∷ ds) (reduce min (cond t (d ∷ filter (ltb b) ds) (filter (ltb b) ds)))
    go true e rest = let k = least_with b d ds (ltb-true b d e) in (k.0, found _ k.2, ((λ l. k.1), k.3))
    go false e rest = passed (ltb-false b d e) _ rest

abbrev pub deadlines : List Model.Job → List ℕ
deadlines jobs = map (λ j. j.deadline) jobs

-- the code's next boundary
pub next_nearest : (b : ℕ) (jobs : List Job) (next : code.Option ℕ) → next ≡ next_of b jobs → Nearest b (deadlines (as_jobs jobs)) next
next_nearest b jobs next e = rw (e, map_map as_job (λ (j : Model.Job). j.deadline) jobs) (nearest b _)

job_due : (jobs : List Model.Job) (c : ℕ) → Memᴰ c (deadlines jobs) → (j : Model.Job) × Memᴰ j jobs × (j.deadline ≡ c)
job_due [] c m = elim m [ ]
job_due (j ∷ jobs) c (Memᴰ.head e) = (j, Memᴰ.head refl, sym e)
job_due (j ∷ jobs) c (Memᴰ.tail m) = let k = job_due jobs c m in (k.0, Memᴰ.tail k.1, k.2)

-- the boundaries above b
abbrev above : ℕ → List ℕ → List ℕ
above b [] = []
above b (c ∷ cs) = cond (ltb b c) (c ∷ cs) (above b cs)

above_none : (b : ℕ) (bs : List ℕ) → All (λ c. c ≤ b) bs → above b bs ≡ []
above_none b [] h = refl
above_none b (c ∷ bs) h = rw (le-ltb b c h.0) (above_none b bs h.1)

above_all : (b : ℕ) (bs : List ℕ) → All (λ c. b < c) bs → above b bs ≡ bs
above_all b [] h = refl
above_all b (c ∷ bs) h = rw (lt-ltb b c h.0) refl

-- c is the least of a rising list that is above b
above_next : (b c : ℕ) (bs : List ℕ) → Rising bs → Memᴰ c bs → b < c → All (λ d. b < d → c ≤ d) bs → above b bs ≡ c ∷ above c bs
above_next b c [] r m l h = elim m [ ]
above_next b c (d ∷ bs) r (Memᴰ.head e) l h =
    rw (lt-ltb b d (omega arith), le-ltb c d (omega arith)) (ap (λ (x : ℕ). x ∷ bs) (sym e) ∙ ap (λ (xs : List ℕ). c ∷ xs) (sym (above_all c bs (rw (← e) at r.0))))
above_next b c (d ∷ bs) r (Memᴰ.tail m) l h =
    let k = All-at (λ x. d < x) c r.0 m in
    let g : d ≤ b = go (dec_lt b d) in
    rw (le-ltb b d g, le-ltb c d (omega arith)) (above_next b c bs r.1 m l h.1)
  where
    go : Dec (b < d) → d ≤ b
    go (yes f) = absurd (omega (arith, h.0 f, All-at (λ x. d < x) c r.0 m))
    go (no f) = omega arith

-- from 0 on
above_zero : (bs : List ℕ) → Rising bs → Memᴰ 0 bs → bs ≡ 0 ∷ above 0 bs
above_zero [] r m = elim m [ ]
above_zero (d ∷ bs) r (Memᴰ.head e) =
    let z : d ≡ 0 = sym e in
    rw z (ap (λ (xs : List ℕ). 0 ∷ xs) (sym (above_all 0 bs (rw z at r.0))))
above_zero (d ∷ bs) r (Memᴰ.tail m) = absurd (omega (arith, All-at (λ x. d < x) 0 r.0 m))

module _ (jobs : List Model.Job) where
  -- the walk from b on
  abbrev pub FromHere : ℕ → ℕ → Type 0
  FromHere C b = least_short C jobs ≡ first_short C jobs (b ∷ above b (boundaries jobs))

  pub walk_start : (C : ℕ) → FromHere C 0
  unfolding least_short
  walk_start C = ap (first_short C jobs) (above_zero (boundaries jobs) (boundaries_rise jobs) (zero_listed jobs))

  module _ (C b : ℕ) (here : FromHere C b) where
    turn : (z : ℤ) → z ≡ room C jobs b → least_short C jobs ≡ or_else (cond (lt_z z (pos 0)) (some (record { place = b; amount = shortage z })) none) (first_short C jobs (above b (boundaries jobs)))
    unfolding short_at
    turn z e = here ∙ ap (λ (x : ℤ). or_else (cond (lt_z x (pos 0)) (some (record { place = b; amount = shortage x })) none) (first_short C jobs (above b (boundaries jobs)))) (sym e)

    pub walk_short : (z : ℤ) → z ≡ room C jobs b → lt_z z (pos 0) ≡ true → least_short C jobs ≡ some (record { place = b; amount = shortage z })
    unfolding or_else
    walk_short z e t = turn z e ∙ rw t refl

    walk_past : (z : ℤ) → z ≡ room C jobs b → lt_z z (pos 0) ≡ false → least_short C jobs ≡ first_short C jobs (above b (boundaries jobs))
    unfolding or_else
    walk_past z e t = turn z e ∙ rw t refl

    pub walk_end : (z : ℤ) → z ≡ room C jobs b → lt_z z (pos 0) ≡ false → Nearest b (deadlines jobs) None → least_short C jobs ≡ none
    walk_end z e t f = walk_past z e t ∙ ap (first_short C jobs) (above_none b (boundaries jobs) (All-map low (boundaries jobs) (listed_boundaries jobs)))
      where
        low : (c : ℕ) → Boundary jobs c → c ≤ b
        low c (inl z) = omega arith
        low c (inr j) = omega (arith, j.2, All-at (λ d. d ≤ b) j.0.deadline f (mem_map (λ (i : Model.Job). i.deadline) j.0 j.1))

    pub walk_on : (z : ℤ) → z ≡ room C jobs b → lt_z z (pos 0) ≡ false → (c : ℕ) → Nearest b (deadlines jobs) (Some c) → FromHere C c
    walk_on z e t c f =
        let due = job_due jobs c f.1 in
        walk_past z e t ∙ ap (first_short C jobs) (above_next b c (boundaries jobs) (boundaries_rise jobs) (rw due.2 at (deadline_listed due.0 due.1)) f.0 (All-map high (boundaries jobs) (listed_boundaries jobs)))
      where
        high : (d : ℕ) → Boundary jobs d → b < d → c ≤ d
        high d (inl z) l = absurd (omega arith)
        high d (inr j) l = omega (arith, j.2, All-at (λ d. b < d → c ≤ d) j.0.deadline f.2 (mem_map (λ (i : Model.Job). i.deadline) j.0 j.1) (omega (arith, j.2)))

  -- the next boundary is in the week
  pub next_in_week : (b c : ℕ) → Nearest b (deadlines jobs) (Some c) → All InRange jobs → c ≤ 168
  next_in_week b c f s = let due = job_due jobs c f.1 in omega (arith, due.2, (All-at InRange due.0 s due.1).1)
