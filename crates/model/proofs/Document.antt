-- M2: document 002's lambda is what is not forced, and its boundary condition says that no boundary is short.
use Prim.Native.Nat.{ℕ, zero, suc, ◌+◌, ◌*◌, ◌-◌, ◌≤◌, ◌<◌}
use native.Mathlib.Nat.{le_refl, le_trans, sub-zero, mul-sub, mul-le-mul_left, sub-le-sub_left, le_of_suc-le-suc}
use native.Mathlib.Decide.{dec_le, dec_lt}
use native.Mathlib.Omega.{arith}
use mathlib.Core.Path.{◌≡◌, refl, sym, ◌∙◌, ap}
use mathlib.Core.Bool.{Bool, true, false, cond}
use mathlib.Core.List.{List, [], ◌∷◌, Memᴰ}
use lib.Dec.{leb, eqb}
use lib.ListN.{length, get_or}
use borrow.Author.Tests.{leb-true, leb-false, le-ltb}
use Rattle.model.specs.Lists.{All, total, Rising}
use Rattle.model.specs.Jobs.{Job, run_length, whole_work, forced_of, forced}
use Rattle.model.specs.Boundaries.{RoomEverywhere, enter, boundaries}
use Rattle.model.specs.Document.{tau, last_index, Tasks, beta, lambda, lambda_c, mu, BoundaryCondition}
use Rattle.model.specs.Claims.{ForcedIsTotalLessLambda, DocumentSaysTheSame, NothingIsCutOff}
use Rattle.model.proofs.Lists.{total_add, total_le, total_same, All-map, All-of, All-mem, All-at}
use Rattle.model.proofs.Signed.{enough_room}
use Rattle.model.proofs.Choice.{run_le, le_run}
use Rattle.model.proofs.AllSlots.{enough_everywhere}
use Rattle.model.proofs.LeastShort.{boundaries_rise, boundary_listed, deadline_listed}

-- the boundaries start with 0
module _ where
  from_zero : (jobs : List Job) → (bs : List ℕ) × (boundaries jobs ≡ 0 ∷ bs)
  from_zero [] = ([], refl)
  from_zero (j ∷ jobs) = let i = from_zero jobs in go i.0 i.1 (eqb j.deadline 0) refl
    where
      go : (bs : List ℕ) → boundaries jobs ≡ 0 ∷ bs → (x : Bool) → eqb j.deadline 0 ≡ x → (cs : List ℕ) × (enter j.deadline (boundaries jobs) ≡ 0 ∷ cs)
      go bs e true f = (bs, rw (e, le-ltb j.deadline 0 (omega arith), f))
      go bs e false f = (enter j.deadline bs, rw (e, le-ltb j.deadline 0 (omega arith), f))

-- a rising list, read by index
rise : (bs : List ℕ) → Rising bs → (m n : ℕ) → m ≤ n → n < length bs → get_or bs m 0 ≤ get_or bs n 0
rise [] r m n h l = absurd (omega arith)
rise (b ∷ bs) r zero zero h l = omega arith
rise (b ∷ bs) r zero (suc n) h l = go bs r.0 n (omega arith)
  where
    go : (cs : List ℕ) → All (λ c. b < c) cs → (n : ℕ) → n < length cs → b ≤ get_or cs n 0
    go [] a n l = absurd (omega arith)
    go (c ∷ cs) a zero l = omega (arith, a.0)
    go (c ∷ cs) a (suc n) l = go cs a.1 n (le_of_suc-le-suc l)
rise (b ∷ bs) r (suc m) zero h l = absurd (omega arith)
rise (b ∷ bs) r (suc m) (suc n) h l = rise bs r.1 m n (omega arith) (le_of_suc-le-suc l)

pub index : (b : ℕ) {bs : List ℕ} → Memᴰ b bs → (m : ℕ) × (m < length bs) × (get_or bs m 0 ≡ b)
index b (Memᴰ.head e) = (0, omega arith, sym e)
index b (Memᴰ.tail m) = let i = index b m in (suc i.0, omega arith, i.2)

listed : (P : ℕ → Type 0) (bs : List ℕ) → All P bs → (m : ℕ) → m < length bs → P (get_or bs m 0)
listed P [] h m l = absurd (omega arith)
listed P (b ∷ bs) h zero l = h.0
listed P (b ∷ bs) h (suc m) l = listed P bs h.1 m (le_of_suc-le-suc l)

-- forced work by b and document 002's β at b are the two parts of a task's work
beta_rest : (b : ℕ) (j : Job) → 1 ≤ j.bound → forced_of b j + beta b j ≡ j.work
unfolding forced_of beta
beta_rest b j k = go (leb j.deadline b) refl (leb (run_length j.work j.bound) (j.deadline - b)) refl
  where
    go : (x : Bool) → leb j.deadline b ≡ x → (y : Bool) → leb (run_length j.work j.bound) (j.deadline - b) ≡ y
        → j.work - j.bound * (j.deadline - b) + cond x 0 (cond y j.work (j.bound * (j.deadline - b))) ≡ j.work
    go true e y f =
        let l = leb-true j.deadline b e in
        let z : j.deadline - b ≡ 0 = omega arith in
        rw z (omega arith)
    go false e true f =
        omega (arith, le_run j.work j.bound (j.deadline - b) k (leb-true (run_length j.work j.bound) (j.deadline - b) f))
    go false e false f = over (dec_le j.work (j.bound * (j.deadline - b)))
      where
        over : Dec (j.work ≤ j.bound * (j.deadline - b)) → j.work - j.bound * (j.deadline - b) + j.bound * (j.deadline - b) ≡ j.work
        over (yes l) =
            absurd (omega (arith, run_le j.work j.bound (j.deadline - b) k l, leb-false (run_length j.work j.bound) (j.deadline - b) f))
        over (no l) = omega arith

forced_of_mono : {b c : ℕ} → b ≤ c → (j : Job) → forced_of b j ≤ forced_of c j
unfolding forced_of
forced_of_mono {b} {c} h j = omega (arith, mul-le-mul_left j.bound (sub-le-sub_left h j.deadline))

forced_mono : (jobs : List Job) {b c : ℕ} → b ≤ c → forced jobs b ≤ forced jobs c
unfolding forced
forced_mono jobs {b} {c} h = total_le (forced_of b) (forced_of c) jobs (All-of (forced_of_mono h) jobs)

all_forced : (jobs : List Job) (b : ℕ) → All (λ j. j.deadline ≤ b) jobs → forced jobs b ≡ whole_work jobs
unfolding forced whole_work forced_of
all_forced jobs b h = total_same (forced_of b) (λ j. j.work) jobs (All-map past jobs h)
  where
    past : (j : Job) → j.deadline ≤ b → j.work - j.bound * (j.deadline - b) ≡ j.work
    past j l =
        let e : j.deadline - b ≡ 0 = omega arith in
        rw e (omega arith)

module _ (jobs : List Job) (tasks : Tasks jobs) where
  -- some room for the indices: 0 to L are those of the list
  in_list : (m : ℕ) → m ≤ last_index jobs → m < length (boundaries jobs)
  unfolding last_index
  in_list m h = let z = from_zero jobs in go (boundaries jobs) z.1 h
    where
      go : (bs : List ℕ) → bs ≡ 0 ∷ (from_zero jobs).0 → m ≤ length bs - 1 → m < length bs
      go [] e l = absurd (let w : ◌≡◌ {A = ℕ} 0 1 = cc in omega arith)
      go (b ∷ bs) e l = omega arith

  pub tau_mono : (m n : ℕ) → m ≤ n → n ≤ last_index jobs → tau jobs m ≤ tau jobs n
  unfolding tau
  tau_mono m n h l = rise (boundaries jobs) (boundaries_rise jobs) m n h (in_list n l)

  deadline_index : (j : Job) → Memᴰ j jobs → (m : ℕ) × (m ≤ last_index jobs) × (tau jobs m ≡ j.deadline)
  unfolding tau last_index
  deadline_index j m = let i = index j.deadline (deadline_listed j m) in (i.0, omega (arith, i.1), i.2)

  pub by_last : All (λ j. j.deadline ≤ tau jobs (last_index jobs)) jobs
  by_last = All-mem jobs (λ j m. let i = deadline_index j m in rw i.2 at (tau_mono i.0 (last_index jobs) i.1 (le_refl (last_index jobs))))

  tau_zero : tau jobs 0 ≡ 0
  unfolding tau
  tau_zero = rw (from_zero jobs).1

  -- what is not forced into slots 1 to τ_(L − m) is λ_m
  pub lambda_rest : (m : ℕ) → m ≤ last_index jobs → forced jobs (tau jobs (last_index jobs - m)) + lambda jobs m ≡ whole_work jobs
  unfolding forced whole_work
  lambda_rest zero h = rw (sub-zero (last_index jobs)) (omega (arith, all_forced jobs (tau jobs (last_index jobs)) by_last))
  lambda_rest (suc m) h =
      let b = tau jobs (last_index jobs - suc m) in
      omega (
        arith,
        total_add (forced_of b) (beta b) jobs,
        total_same (λ j. forced_of b j + beta b j) (λ j. j.work) jobs (All-map (λ j t. beta_rest b j t.1) jobs tasks),
      )

  no_boundary : last_index jobs ≡ 0 → whole_work jobs ≡ 0
  unfolding whole_work
  no_boundary e = omega (arith, total_le (λ j. j.work) (λ j. 0) jobs (All-mem jobs none), total_none jobs)
    where
      total_none : (js : List Job) → total (λ j. 0) js ≡ 0
      total_none [] = refl
      total_none (j ∷ js) = omega (arith, total_none js)

      none : (j : Job) → Memᴰ j jobs → j.work ≤ 0
      none j m =
          let i = deadline_index j m in
          let z : i.0 ≡ 0 = omega (arith, i.1) in
          absurd (omega (arith, sym i.2 ∙ ap (tau jobs) z ∙ tau_zero, (All-at (λ j. (1 ≤ j.deadline) × (1 ≤ j.bound)) j tasks m).0))

  pub lambda_mono : (m : ℕ) → m < last_index jobs → lambda jobs m ≤ lambda jobs (suc m)
  lambda_mono m h =
      omega (
        arith,
        lambda_rest m (omega arith),
        lambda_rest (suc m) h,
        forced_mono jobs (tau_mono (last_index jobs - suc m) (last_index jobs - m) (omega arith) (omega arith)),
      )

  module _ (C : ℕ) where
    pub lambda_c_le : (m : ℕ) → m ≤ last_index jobs → lambda_c C jobs m ≤ lambda jobs m
    lambda_c_le zero h = omega arith
    lambda_c_le (suc m) h = omega (arith, lambda_c_le m (omega arith), lambda_mono m h)

    -- at each τ the forced work is at most C × τ
    Enough : Type 0
    Enough = (m : ℕ) → m ≤ last_index jobs → forced jobs (tau jobs m) ≤ C * tau jobs m

    pub step : (m : ℕ) → m < last_index jobs → tau jobs (last_index jobs - suc m + 1) ≡ tau jobs (last_index jobs - m)
    step m h = ap (tau jobs) (omega arith)

    kept : Enough → (m : ℕ) → m ≤ last_index jobs → whole_work jobs - lambda_c C jobs m ≤ C * tau jobs (last_index jobs - m)
    unfolding Enough
    kept n zero h = rw (sub-zero (last_index jobs)) (omega (arith, all_forced jobs (tau jobs (last_index jobs)) by_last, n (last_index jobs) (le_refl (last_index jobs))))
    kept n (suc m) h =
        rw (step m h)
        (omega (
          arith,
          kept n m (omega arith),
          n (last_index jobs - suc m) (omega arith),
          lambda_rest (suc m) h,
          mul-sub C (tau jobs (last_index jobs - m)) (tau jobs (last_index jobs - suc m)),
        ))

    to_enough : BoundaryCondition C jobs → Enough
    unfolding Enough mu
    to_enough d m h = go (dec_lt m (last_index jobs)) (dec_lt 0 (last_index jobs))
      where
        go : Dec (m < last_index jobs) → Dec (0 < last_index jobs) → forced jobs (tau jobs m) ≤ C * tau jobs m
        go (yes l) z =
            let e : last_index jobs - (last_index jobs - m) ≡ m = omega arith in
            let f = rw e at (lambda_rest (last_index jobs - m) (omega arith)) in
            omega (arith, f, d m l, lambda_c_le (last_index jobs - m) (omega arith))
        go (no l) (yes z) =
            let e : m ≡ last_index jobs = omega arith in
            let f : last_index jobs - (last_index jobs - 1) ≡ 1 = omega arith in
            let s : last_index jobs - 1 + 1 ≡ last_index jobs = omega arith in
            let g = rw (f, s) at (d (last_index jobs - 1) (omega arith)) in
            rw e
            (omega (
              arith,
              g,
              all_forced jobs (tau jobs (last_index jobs)) by_last,
              mul-sub C (tau jobs (last_index jobs)) (tau jobs (last_index jobs - 1)),
              mul-le-mul_left C (tau_mono (last_index jobs - 1) (last_index jobs) (omega arith) (omega arith)),
            ))
        go (no l) (no z) =
            let e : m ≡ last_index jobs = omega arith in
            rw e (omega (arith, no_boundary (omega arith), all_forced jobs (tau jobs (last_index jobs)) by_last))

    to_condition : Enough → BoundaryCondition C jobs
    unfolding mu
    to_condition n m h =
        let e : last_index jobs - (last_index jobs - m) ≡ m = omega arith in
        rw e at (kept n (last_index jobs - m) (omega arith))

    enough_room_everywhere : Enough → RoomEverywhere C jobs
    unfolding Enough tau last_index
    enough_room_everywhere n b h =
        let i = index b (boundary_listed jobs b h) in
        enough_room C jobs b (rw i.2 at (n i.0 (omega (arith, i.1))))

    room_everywhere_enough : RoomEverywhere C jobs → Enough
    unfolding Enough
    room_everywhere_enough h m l = enough_everywhere C jobs h (tau jobs m)

pub forced_is_total_less_lambda : ForcedIsTotalLessLambda
forced_is_total_less_lambda jobs t m h =
    let e : last_index jobs - (last_index jobs - m) ≡ m = omega arith in
    rw e at (lambda_rest jobs t (last_index jobs - m) (omega arith))

pub document_says_the_same : DocumentSaysTheSame
document_says_the_same C jobs t =
    ((λ d. enough_room_everywhere jobs t C (to_enough jobs t C d)), λ h. to_condition jobs t C (room_everywhere_enough jobs t C h))

pub nothing_is_cut_off : NothingIsCutOff
nothing_is_cut_off C jobs t =
    ((λ m h. le_trans (lambda_c_le jobs t C m (omega arith)) (lambda_mono jobs t m h)), λ m h. omega (arith, lambda_c_le jobs t C m h, lambda_rest jobs t m h))
