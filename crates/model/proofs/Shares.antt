-- What filling slots does to the share of each job number: the facts from which the plan is a valid schedule.
use Prim.Native.Nat.{ℕ, zero, suc, ◌+◌, ◌≤◌, ◌<◌}
use native.Mathlib.Decide.{ℕ_discrete}
use native.Mathlib.Omega.{arith}
use mathlib.Core.Path.{◌≡◌, refl, sym, ◌∙◌, ap}
use mathlib.Core.Logic.{◌≢◌}
use mathlib.Core.Bool.{Bool, true, false, cond}
use mathlib.Core.List.{List, [], ◌∷◌, map, Memᴰ}
use mathlib.Core.Option.{Option, some, none}
use lib.Dec.{eqb}
use borrow.Author.Tests.{eq-eqb, ne_eqb, eqb-true}
use Rattle.model.specs.Lists.{All, total, Distinct, upto}
use Rattle.model.specs.Jobs.{Job, numbers}
use Rattle.model.specs.Rule.{Share, fresh, next, bump, give, give_to, hand_out, clear, fill, nobody, share_of, cell}
use Rattle.model.proofs.Lists.{All-mem, mem_map, upto_same}
use Rattle.model.proofs.Choice.{Open, Choice, choice}

-- the jobs of some shares: no step of the rule changes them
abbrev pub jobs_of : List Share → List Job
jobs_of ps = map (λ p. p.job) ps

abbrev pub numbers_of : List Share → List ℕ
numbers_of ps = map (λ p. p.job.number) ps

pub jobs_give : (n : ℕ) (ps : List Share) → jobs_of (give n ps) ≡ jobs_of ps
unfolding bump
jobs_give n [] = refl
jobs_give n (p ∷ ps) = go (eqb p.job.number n) (jobs_give n ps)
  where
    go : (t : Bool) → jobs_of (give n ps) ≡ jobs_of ps → (cond t (bump p) p).job ∷ jobs_of (give n ps) ≡ p.job ∷ jobs_of ps
    go true e = cc
    go false e = cc

pub jobs_give_to : (o : Option Share) (ps : List Share) → jobs_of (give_to o ps) ≡ jobs_of ps
jobs_give_to none ps = refl
jobs_give_to (some p) ps = jobs_give p.job.number ps

pub jobs_clear : (ps : List Share) → jobs_of (map clear ps) ≡ jobs_of ps
unfolding clear
jobs_clear [] = refl
jobs_clear (p ∷ ps) = ap (λ (js : List Job). p.job ∷ js) (jobs_clear ps)

pub jobs_hand_out : (c t : ℕ) (ps : List Share) → jobs_of (hand_out c t ps) ≡ jobs_of ps
jobs_hand_out zero t ps = refl
jobs_hand_out (suc c) t ps = jobs_hand_out c t (give_to (next t ps) ps) ∙ jobs_give_to (next t ps) ps

pub jobs_fill : (c t : ℕ) (ps : List Share) → jobs_of (fill c t ps) ≡ jobs_of ps
unfolding fill
jobs_fill c t ps = jobs_hand_out c t (map clear ps) ∙ jobs_clear ps

pub jobs_fresh : (jobs : List Job) → jobs_of (map fresh jobs) ≡ jobs
unfolding fresh
jobs_fresh [] = refl
jobs_fresh (j ∷ jobs) = ap (λ (js : List Job). j ∷ js) (jobs_fresh jobs)

pub numbers_jobs : (ps : List Share) → numbers_of ps ≡ numbers (jobs_of ps)
numbers_jobs [] = refl
numbers_jobs (p ∷ ps) = ap (λ (ns : List ℕ). p.job.number ∷ ns) (numbers_jobs ps)

-- shares of the same jobs have the same numbers
same_numbers : (ps qs : List Share) → jobs_of ps ≡ jobs_of qs → numbers_of ps ≡ numbers_of qs
same_numbers ps qs e = numbers_jobs ps ∙ ap numbers e ∙ sym (numbers_jobs qs)

pub numbers_give : (n : ℕ) (ps : List Share) → numbers_of (give n ps) ≡ numbers_of ps
numbers_give n ps = same_numbers (give n ps) ps (jobs_give n ps)

pub numbers_give_to : (o : Option Share) (ps : List Share) → numbers_of (give_to o ps) ≡ numbers_of ps
numbers_give_to o ps = same_numbers (give_to o ps) ps (jobs_give_to o ps)

pub numbers_clear : (ps : List Share) → numbers_of (map clear ps) ≡ numbers_of ps
numbers_clear ps = same_numbers (map clear ps) ps (jobs_clear ps)

pub numbers_fill : (c t : ℕ) (ps : List Share) → numbers_of (fill c t ps) ≡ numbers_of ps
numbers_fill c t ps = same_numbers (fill c t ps) ps (jobs_fill c t ps)

pub numbers_fresh : (jobs : List Job) → numbers_of (map fresh jobs) ≡ numbers jobs
numbers_fresh jobs = numbers_jobs (map fresh jobs) ∙ ap numbers (jobs_fresh jobs)

-- the share of a number
pub share_here : (n : ℕ) (p : Share) (ps : List Share) → p.job.number ≡ n → share_of n (p ∷ ps) ≡ p
share_here n p ps e = rw (eq-eqb p.job.number n e)

pub share_there : (n : ℕ) (p : Share) (ps : List Share) → p.job.number ≢ n → share_of n (p ∷ ps) ≡ share_of n ps
share_there n p ps e = rw (ne_eqb p.job.number n e)

absent : (n : ℕ) (q : Share) {ps : List Share} → All (λ m. n ≢ m) (numbers_of ps) → Memᴰ q ps → n ≢ q.job.number
absent n q h (Memᴰ.head e) = λ f. h.0 (f ∙ ap (λ (r : Share). r.job.number) e)
absent n q h (Memᴰ.tail m) = absent n q h.1 m

pub share_of_lem : (p : Share) {ps : List Share} → Distinct (numbers_of ps) → Memᴰ p ps → share_of p.job.number ps ≡ p
share_of_lem p d (Memᴰ.head {x = q} {xs = qs} e) =
    share_here p.job.number q qs (ap (λ (r : Share). r.job.number) (sym e)) ∙ sym e
share_of_lem p d (Memᴰ.tail {x = q} {xs = qs} m) =
    share_there p.job.number q qs (absent q.job.number p d.0 m) ∙ share_of_lem p d.1 m

pub share_other : (n m : ℕ) (ps : List Share) → n ≢ m → share_of n (give m ps) ≡ share_of n ps
unfolding bump
share_other n m [] h = refl
share_other n m (p ∷ ps) h = go (eqb p.job.number m) refl (share_other n m ps h)
  where
    go : (t : Bool) → eqb p.job.number m ≡ t → share_of n (give m ps) ≡ share_of n ps → share_of n (cond t (bump p) p ∷ give m ps) ≡ share_of n (p ∷ ps)
    go true e i = rw (ne_eqb p.job.number n (λ f. h (sym f ∙ eqb-true p.job.number m e))) i
    go false e i = cc

pub share_given : (p : Share) {ps : List Share} → Distinct (numbers_of ps) → Memᴰ p ps → share_of p.job.number (give p.job.number ps) ≡ bump p
unfolding bump
share_given p d (Memᴰ.head {x = q} {xs = qs} e) =
    let h = eq-eqb q.job.number p.job.number (ap (λ (r : Share). r.job.number) (sym e)) in
    rw (h, h) (ap bump (sym e))
share_given p d (Memᴰ.tail {x = q} {xs = qs} m) =
    let h = ne_eqb q.job.number p.job.number (absent q.job.number p d.0 m) in
    rw (h, h) (share_given p d.1 m)

pub share_clear : (n : ℕ) (ps : List Share) → share_of n (map clear ps) ≡ clear (share_of n ps)
unfolding clear nobody fresh
share_clear n [] = refl
share_clear n (p ∷ ps) = go (eqb p.job.number n) (share_clear n ps)
  where
    go : (t : Bool) → share_of n (map clear ps) ≡ clear (share_of n ps) → cond t (clear p) (share_of n (map clear ps)) ≡ clear (cond t p (share_of n ps))
    go true e = refl
    go false e = e

-- the share of a listed job before any slot is filled
pub fresh_distinct : (jobs : List Job) → Distinct (numbers jobs) → Distinct (numbers_of (map fresh jobs))
fresh_distinct jobs d = rw (numbers_fresh jobs) d

pub share_fresh : (jobs : List Job) → Distinct (numbers jobs) → (j : Job) → Memᴰ j jobs → share_of j.number (map fresh jobs) ≡ fresh j
unfolding fresh
share_fresh jobs d j m = share_of_lem (fresh j) (fresh_distinct jobs d) (mem_map fresh j m)

pub left_le : (n : ℕ) (ps : List Share) → (share_of n ps).left ≤ total (λ p. p.left) ps
unfolding nobody fresh
left_le n [] = omega arith
left_le n (p ∷ ps) = go (eqb p.job.number n) (left_le n ps)
  where
    go : (t : Bool) → (share_of n ps).left ≤ total (λ p. p.left) ps → (cond t p (share_of n ps)).left ≤ p.left + total (λ p. p.left) ps
    go true e = omega arith
    go false e = omega arith

-- q is p after some machines of slot t
pub record Grown (t : ℕ) (p q : Share) : Type 0 where
  pub deadline_same : q.job.deadline ≡ p.job.deadline
  pub bound_same : q.job.bound ≡ p.job.bound
  pub parts : q.left + q.given ≡ p.left
  pub below : q.given ≤ q.job.bound
  pub late : q.job.deadline < t → q.given ≡ 0

grown_bump : (t : ℕ) (p q : Share) → Grown t p q → Open t q → Grown t p (bump q)
unfolding bump
grown_bump t p q g o = record {
  deadline_same = g.deadline_same;
  bound_same = g.bound_same;
  parts = omega arith;
  below = omega arith;
  late = λ l. omega arith;
}

module _ (t n : ℕ) (p : Share) where
  grown_one : (ps : List Share) → Distinct (numbers_of ps) → Grown t p (share_of n ps) → (o : Option Share) → Choice t ps o
      → Grown t p (share_of n (give_to o ps))
  grown_one ps d g none ch = g
  grown_one ps d g (some q) ch = go (ℕ_discrete n q.job.number)
    where
      go : Dec (n ≡ q.job.number) → Grown t p (share_of n (give q.job.number ps))
      go (yes e) =
          let g' = rw (e, share_of_lem q d ch.member) at g in
          rw (e, share_given q d ch.member) (grown_bump t p q g' ch.open')
      go (no h) = rw (share_other n q.job.number ps h) g

  grown_hands : (c : ℕ) (ps : List Share) → Distinct (numbers_of ps) → Grown t p (share_of n ps) → Grown t p (share_of n (hand_out c t ps))
  grown_hands zero ps d g = g
  grown_hands (suc c) ps d g =
      grown_hands c (give_to (next t ps) ps) (rw (numbers_give_to (next t ps) ps) d) (grown_one ps d g (next t ps) (choice t ps))

-- a whole slot
pub grown_fill : (c t n : ℕ) (ps : List Share) → Distinct (numbers_of ps) → Grown t (share_of n ps) (share_of n (fill c t ps))
unfolding fill clear
grown_fill c t n ps d =
    grown_hands t n (share_of n ps) c (map clear ps) (rw (numbers_clear ps) d) (rw (share_clear n ps) (cleared (share_of n ps)))
  where
    cleared : (p : Share) → Grown t p (clear p)
    cleared p = record { deadline_same = refl; bound_same = refl; parts = omega arith; below = omega arith; late = λ _. refl }

-- so no share has more than its bound
pub fill_below : (c t : ℕ) (ps : List Share) → Distinct (numbers_of ps) → All (λ p. p.given ≤ p.job.bound) (fill c t ps)
fill_below c t ps d = All-mem (fill c t ps) below
  where
    below : (p : Share) → Memᴰ p (fill c t ps) → p.given ≤ p.job.bound
    below p m = rw (share_of_lem p (rw (numbers_fill c t ps) d) m) at (grown_fill c t p.job.number ps d).below

-- the shares when the slots from t down to 1 are filled
abbrev pub rest : (ℕ → ℕ) → ℕ → List Share → List Share
rest count zero ps = ps
rest count (suc t) ps = rest count t (fill (count (suc t)) (suc t) ps)

-- the machines of a number
module _ (count : ℕ → ℕ) (n : ℕ) where
  pub at_slot : (t : ℕ) (ps : List Share) → cell count (suc t) ps n (suc t) ≡ (share_of n (fill (count (suc t)) (suc t) ps)).given
  at_slot t ps = rw (eq-eqb (suc t) (suc t) refl)

  pub under_slot : (t : ℕ) (ps : List Share) (s : ℕ) → s ≢ suc t → cell count (suc t) ps n s ≡ cell count t (fill (count (suc t)) (suc t) ps) n s
  under_slot t ps s h = rw (ne_eqb s (suc t) h)

  pub beyond : (t : ℕ) (ps : List Share) (s : ℕ) → t < s → cell count t ps n s ≡ 0
  beyond zero ps s h = refl
  beyond (suc t) ps s h = under_slot t ps s (omega arith) ∙ beyond t (fill (count (suc t)) (suc t) ps) s (omega arith)

  pub within_bound : (t : ℕ) (ps : List Share) → Distinct (numbers_of ps) → (s : ℕ) → cell count t ps n s ≤ (share_of n ps).job.bound
  within_bound zero ps d s = omega arith
  within_bound (suc t) ps d s =
      go (ℕ_discrete s (suc t)) (within_bound t (fill (count (suc t)) (suc t) ps) (rw (numbers_fill (count (suc t)) (suc t) ps) d) s)
    where
      g : Grown (suc t) (share_of n ps) (share_of n (fill (count (suc t)) (suc t) ps))
      g = grown_fill (count (suc t)) (suc t) n ps d

      go : Dec (s ≡ suc t) → cell count t (fill (count (suc t)) (suc t) ps) n s ≤ (share_of n (fill (count (suc t)) (suc t) ps)).job.bound
          → cell count (suc t) ps n s ≤ (share_of n ps).job.bound
      go (yes e) i = rw (e, at_slot t ps) (omega (arith, g.below, g.bound_same))
      go (no h) i = rw (under_slot t ps s h) (omega (arith, g.bound_same))

  pub none_late : (t : ℕ) (ps : List Share) → Distinct (numbers_of ps) → (s : ℕ) → (share_of n ps).job.deadline < s → cell count t ps n s ≡ 0
  none_late zero ps d s l = refl
  none_late (suc t) ps d s l =
      go (ℕ_discrete s (suc t))
      (none_late t (fill (count (suc t)) (suc t) ps) (rw (numbers_fill (count (suc t)) (suc t) ps) d) s (omega (arith, (grown_fill (count (suc t)) (suc t) n ps d).deadline_same)))
    where
      g : Grown (suc t) (share_of n ps) (share_of n (fill (count (suc t)) (suc t) ps))
      g = grown_fill (count (suc t)) (suc t) n ps d

      go : Dec (s ≡ suc t) → cell count t (fill (count (suc t)) (suc t) ps) n s ≡ 0 → cell count (suc t) ps n s ≡ 0
      go (yes e) i = rw (e, at_slot t ps) (g.late (omega (arith, g.deadline_same)))
      go (no h) i = rw (under_slot t ps s h) i

  pub all_parts : (t : ℕ) (ps : List Share) → Distinct (numbers_of ps) → upto (cell count t ps n) t + (share_of n (rest count t ps)).left ≡ (share_of n ps).left
  all_parts zero ps d = omega arith
  all_parts (suc t) ps d =
      omega (
        arith,
        at_slot t ps,
        (grown_fill (count (suc t)) (suc t) n ps d).parts,
        all_parts t (fill (count (suc t)) (suc t) ps) (rw (numbers_fill (count (suc t)) (suc t) ps) d),
        upto_same (cell count (suc t) ps n) (cell count t (fill (count (suc t)) (suc t) ps) n) t (λ s _ l. under_slot t ps s (omega arith)),
      )
