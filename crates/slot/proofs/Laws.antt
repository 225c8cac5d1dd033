-- Laws of the slots filled down to 1, of the pairs, and of the jobs that a slot leaves in their seats.
use Prim.Native.Nat.{ℕ, zero, suc, ◌+◌, ◌-◌, ◌≤◌, ◌<◌}
use native.Mathlib.Omega.{arith}
use mathlib.Core.Path.{◌≡◌, refl, sym, ◌∙◌, ap, ap₂}
use mathlib.Core.Bool.{Bool, true, false, cond}
use mathlib.Core.List.{List, [], ◌∷◌, ◌++◌, map, append-nil}
use lib.Dec.{leb}
use lib.ListN.{length, get_or, take, set, replicate, length-append, length-map}
use lib.Seq.{set_at, append_snoc, length-take-le, take-length}
use Rattle.std.proofs.lemmas.List.{take_more, drop-replicate, map-append}
use borrow.Author.Tests.{le-leb, lt-leb}
use borrow.Rule.Slice.PartMut.{put_mid}
use Rattle.model.specs.Rule as Model
use Rattle.model.specs.Rule.{fresh, fill}
use Rattle.figures.specs.declared.Job.{Job}
use Rattle.figures.specs.Jobs.{as_jobs}
use Rattle.rule.specs.declared.Share.{Share}
use Rattle.rule.specs.Shares.{as_share, as_shares, fresh_of}
use Rattle.promise.specs.declared.Held.{Held}
use Rattle.promise.specs.declared.Given.{Given}
use Rattle.promise.specs.Desk.{unused, table}
use Rattle.promise.specs.DeskCalls.{pairs, lowered}
use Rattle.planner.proofs.Shares.{start_shares, start_theirs, apart_still, jobs_still}
use Rattle.slot.specs.Slot.{fill_down, given_to, after_shares}

-- ---- slots filled downwards

pub down_begin : (C : ℕ) (jobs : List Job) (shares : List Share) → shares ≡ map fresh_of jobs
    → fill_down C 168 (as_shares shares) ≡ fill_down C 168 (map fresh (as_jobs jobs))
down_begin C jobs shares e = ap (fill_down C 168) (start_shares jobs shares e)

pub down_step : (C t : ℕ) (ps qs : List Model.Share) → 0 < t → qs ≡ fill C t ps → fill_down C t ps ≡ fill_down C (t - 1) qs
down_step C zero ps qs h e = absurd (omega arith)
down_step C (suc t) ps qs h e =
    let z : suc t - 1 ≡ t = omega arith in
    rw z (sym (ap (fill_down C t) e))

pub down_end : (C t : ℕ) (ps : List Model.Share) → t ≡ 0 → fill_down C t ps ≡ ps
down_end C t ps e = rw e refl

pub ruleset down_steps = (start_theirs, apart_still, jobs_still, down_begin, down_step, down_end)

-- ---- a table of 32 places, filled place by place

module _ {A : Type 0} (free : A) where
  place_next : (done : List A) (k : ℕ) (a : A) → length done ≡ k → k < 32
      → set (done ++ replicate (32 - length done) free) k a ≡ (done ++ (a ∷ [])) ++ replicate (32 - length (done ++ (a ∷ []))) free
  place_next done k a e h =
      let m : 32 - length done ≡ suc (31 - k) = omega arith in
      let r : 31 - k ≡ 32 - length (done ++ (a ∷ [])) = omega (arith, length-append done (a ∷ [])) in
      ap (λ (j : ℕ). set (done ++ replicate j free) k a) m
      ∙ set_at done free (replicate (31 - k) free) a k e
      ∙ sym (append_snoc done a (replicate (31 - k) free))
      ∙ ap (λ (j : ℕ). (done ++ (a ∷ [])) ++ replicate j free) r

-- ---- the pairs

-- those of the first shares
abbrev pub pairs_so_far : ℕ → List Share → List Given
pairs_so_far i shares = map given_to (as_shares (take i shares))

-- no share yet: 32 pairs of zeros
pub pairs_none : pairs [] ≡ replicate 32 (record { number = 0; machines = 0 })
unfolding pairs
pairs_none = refl

pub pairs_more : (shares : List Share) (given : List Given) (i : ℕ) (d : Share) → i < length shares → i < 32 → given ≡ pairs (pairs_so_far i shares)
    → set given i (record { number = (get_or shares i d).job.number; machines = (get_or shares i d).given }) ≡ pairs (pairs_so_far (i + 1) shares)
unfolding pairs given_to
pairs_more shares given i d h k e =
    let nothing : Given = record { number = 0; machines = 0 } in
    let p = get_or shares i d in
    let pair : Given = record { number = p.job.number; machines = p.given } in
    ap (λ (l : List Given). set l i pair) e
    ∙ place_next nothing (pairs_so_far i shares) i pair (length-map (as_shares (take i shares)) given_to ∙ length-map (take i shares) as_share ∙ length-take-le i shares (omega arith)) k
    ∙ ap (λ (l : List Given). l ++ replicate (32 - length l) nothing) (sym one)
  where
    one : pairs_so_far (i + 1) shares ≡ pairs_so_far i shares ++ (given_to (as_share (get_or shares i d)) ∷ [])
    one =
        ap (λ (l : List Share). map given_to (as_shares l)) (take_more shares i d h)
        ∙ ap (λ (l : List Model.Share). map given_to l) (map-append as_share (take i shares) (get_or shares i d ∷ []))
        ∙ map-append given_to (as_shares (take i shares)) (as_share (get_or shares i d) ∷ [])

-- ---- the seats after the slot

-- those of the first k jobs
unfoldable pub seats_so_far : ℕ → List Share → List Held → List Held
seats_so_far k shares seats = after_shares (as_shares (take k shares)) (take k seats)

after_more : (ps : List Model.Share) (hs : List Held) (p : Model.Share) (h : Held) → length ps ≡ length hs
    → after_shares (ps ++ (p ∷ [])) (hs ++ (h ∷ [])) ≡ after_shares ps hs ++ cond (leb h.left p.given) [] (lowered p.given h ∷ [])
after_more [] [] p h e = refl
after_more [] (g ∷ hs) p h e = absurd (omega arith)
after_more (q ∷ ps) [] p h e = absurd (omega arith)
after_more (q ∷ ps) (g ∷ hs) p h e =
    ap (λ (l : List Held). cond (leb g.left q.given) l (lowered q.given g ∷ l)) (after_more ps hs p h (omega arith)) ∙ over (leb g.left q.given)
  where
    later : List Held
    later = cond (leb h.left p.given) [] (lowered p.given h ∷ [])

    over : (t : Bool) → cond t (after_shares ps hs ++ later) (lowered q.given g ∷ (after_shares ps hs ++ later))
        ≡ cond t (after_shares ps hs) (lowered q.given g ∷ after_shares ps hs) ++ later
    over true = refl
    over false = refl

pub so_far_none : (shares : List Share) (seats : List Held) → seats_so_far 0 shares seats ≡ []
unfolding seats_so_far
so_far_none shares seats = refl

pub so_far_all : (shares : List Share) (seats : List Held) (k : ℕ) → k ≡ length shares → seats_so_far k shares seats ≡ after_shares (as_shares shares) (take (length shares) seats)
unfolding seats_so_far
so_far_all shares seats k e = rw e (ap (λ (l : List Share). after_shares (as_shares l) (take (length shares) seats)) (take-length shares))

module _ (shares : List Share) (seats : List Held) (k : ℕ) (p : Share) (h : Held) (i : k < length shares) (j : k < length seats) (ep : p ≡ get_or shares k p) (eh : h ≡ get_or seats k h) where
  one_more : seats_so_far (k + 1) shares seats ≡ seats_so_far k shares seats ++ cond (leb h.left p.given) [] (lowered p.given h ∷ [])
  unfolding seats_so_far
  one_more =
      ap₂ (λ (a : List Share) (b : List Held). after_shares (as_shares a) b)
      (take_more shares k p i ∙ ap (λ (q : Share). take k shares ++ (q ∷ [])) (sym ep))
      (take_more seats k h j ∙ ap (λ (g : Held). take k seats ++ (g ∷ [])) (sym eh))
      ∙ ap (λ (a : List Model.Share). after_shares a (take k seats ++ (h ∷ []))) (map-append as_share (take k shares) (p ∷ []))
      ∙ after_more (as_shares (take k shares)) (take k seats) (as_share p) h
      (omega (arith, length-map (take k shares) as_share, length-take-le k shares (omega arith), length-take-le k seats (omega arith)))

  -- a job with nothing left goes, another keeps its place
  pub one_out : h.left ≤ p.given → seats_so_far (k + 1) shares seats ≡ seats_so_far k shares seats
  one_out l = one_more ∙ rw (le-leb h.left p.given l) (append-nil (seats_so_far k shares seats))

  pub one_kept : p.given < h.left → seats_so_far (k + 1) shares seats ≡ seats_so_far k shares seats ++ (lowered p.given h ∷ [])
  one_kept l = one_more ∙ rw (lt-leb h.left p.given l) refl

-- ---- the table with them

-- 32 unused seats, with some jobs copied to the front
pub table_filled : (held : List Held) → put_mid 0 (length held) (replicate 32 unused) held ≡ table held
unfolding table
table_filled held = ap (λ (l : List Held). held ++ l) (drop-replicate (length held) 32 unused)

pub ruleset kept_steps = (so_far_none, so_far_all, one_out)
