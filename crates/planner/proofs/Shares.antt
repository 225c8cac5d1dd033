-- The shares while the plan is written.
use Prim.Native.Nat.{ℕ, zero, suc, ◌+◌, ◌*◌, ◌-◌, ◌≤◌, ◌<◌}
use native.Mathlib.Omega.{arith}
use native.Mathlib.Numerals.{add-one}
use mathlib.Core.Path.{◌≡◌, refl, sym, ◌∙◌, ap, ap₂}
use mathlib.Core.List.{List, [], ◌∷◌, ◌++◌, map}
use lib.ListN.{length, get_or, take, drop, set, length-map}
use lib.Seq.{drop-cons}
use Rattle.std.proofs.lemmas.List.{take_more, map-append}
use Rattle.model.specs.Rule as Model
use Rattle.model.specs.Rule.{fresh, fill}
use Rattle.model.proofs.Lists.{All-both, All-over}
use Rattle.model.proofs.Shares.{jobs_of, numbers_jobs, jobs_fill, jobs_fresh, fill_below}
use Rattle.figures.specs.declared.Job.{Job}
use Rattle.figures.specs.Jobs.{as_job, as_jobs}
use Rattle.rule.specs.declared.Share.{Share}
use Rattle.rule.specs.Shares.{as_share, as_shares, fresh_of, Apart}
use Rattle.planner.specs.Writing.{column_of, Slim, Plannable}

-- one turn of making the shares
pub fresh_more : (jobs : List Job) (shares : List Share) (i : ℕ) (d : Job) (p : Share) → i < length jobs → shares ≡ map fresh_of (take i jobs)
    → p ≡ fresh_of (get_or jobs i d) → shares ++ (p ∷ []) ≡ map fresh_of (take (i + 1) jobs)
fresh_more jobs shares i d p h e f =
    ap₂ (λ (l : List Share) (q : Share). l ++ (q ∷ [])) e f
    ∙ sym (ap (λ (l : List Job). map fresh_of l) (take_more jobs i d h) ∙ map-append fresh_of (take i jobs) (get_or jobs i d ∷ []))

-- the shares at the start are the jobs, fresh
pub start_shares : (jobs : List Job) (shares : List Share) → shares ≡ map fresh_of jobs → as_shares shares ≡ map fresh (as_jobs jobs)
unfolding fresh
start_shares jobs shares e = ap (λ (l : List Share). as_shares l) e ∙ go jobs
  where
    go : (jobs : List Job) → as_shares (map fresh_of jobs) ≡ map fresh (as_jobs jobs)
    go [] = refl
    go (j ∷ jobs) = ap (λ (ps : List Model.Share). as_share (fresh_of j) ∷ ps) (go jobs)

pub start_theirs : (jobs : List Job) (shares : List Share) → shares ≡ map fresh_of jobs → jobs_of (as_shares shares) ≡ as_jobs jobs
start_theirs jobs shares e = ap jobs_of (start_shares jobs shares e) ∙ jobs_fresh (as_jobs jobs)

-- one turn of a slot's column
pub column_step : (t i : ℕ) (shares : List Share) (d : Share) → i < length shares → (plan : List ℕ)
    → column_of t i (as_shares (drop i shares)) plan ≡ column_of t (i + 1) (as_shares (drop (i + 1) shares)) (set plan (168 * i + t - 1) (get_or shares i d).given)
column_step t i shares d h plan = rw (drop-cons shares i d, add-one i) refl

pub slim_at : (shares : List Share) (i : ℕ) (d : Share) → Slim shares → i < length shares → (get_or shares i d).given ≤ 65535
slim_at [] i d s h = absurd (omega arith)
slim_at (p ∷ shares) zero d s h = s.0
slim_at (p ∷ shares) (suc i) d s h = slim_at shares i d s.1 (omega arith)

-- what stays true from slot to slot: the shares are of the jobs
module _ (jobs : List Job) (p : Plannable jobs) (shares : List Share) (same : jobs_of (as_shares shares) ≡ as_jobs jobs) where
  pub apart_still : Apart shares
  apart_still = rw (numbers_jobs (as_shares shares), same) p.apart

  module _ (C t : ℕ) (next : List Share) (e : as_shares next ≡ fill C t (as_shares shares)) where
    pub jobs_still : jobs_of (as_shares next) ≡ as_jobs jobs
    jobs_still = ap jobs_of e ∙ jobs_fill C t (as_shares shares) ∙ same

    pub count_still : length next ≡ length jobs
    count_still = sym (length-map next as_share) ∙ sym (length-map (as_shares next) (λ p. p.job)) ∙ ap length jobs_still ∙ length-map jobs as_job

    pub slim_still : Slim next
    slim_still =
        All-both (λ (q : Model.Share) (a : q.given ≤ q.job.bound) (b : q.job.bound ≤ 64). omega arith) (as_shares next)
        (rw e (fill_below C t (as_shares shares) apart_still)) (All-over (λ q. q.job) (λ j. j.bound ≤ 64) (as_shares next) (rw jobs_still p.bounds))
