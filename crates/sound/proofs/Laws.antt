-- The seats of a desk one after the other, the jobs held on it, and what a record must be to be sound.
use Rattle.std.proofs.Common.{◌≡◌, is_ok, ◌++◌, Result, Ok, Err, IsTrue, ap₂, ◌+◌, Bool, true, false, not, cond, ◌&&◌, ℕ, ◌-◌, ◌<◌, ◌≤◌, Some, None, get_or, ltb, List, [], ◌∷◌, length, take, refl, sym, ◌∙◌, ap, eqb, unwrap_or, arith}
use Rattle.std.specs.List.{list_all, before_first, position, position_or_len}
use Rattle.std.proofs.lemmas.List.Sums.{take_while-cons, prefix_len-le-length}
use Rattle.std.proofs.lemmas.List.Recursion.{same_from_clauses}
use Rattle.std.proofs.lemmas.Bool.Decides.{nat_tests}
use Rattle.std.proofs.lemmas.List.{take_more, map-append}
use Rattle.model.specs.Lists.{All}
use Rattle.model.proofs.Exactly.{width_le}
use Rattle.model.proofs.Lists.{and_true}
use Rattle.model.specs.Jobs.{width, counted}
use Rattle.promise.specs.declared.Held.{Held}
use Rattle.promise.specs.declared.Desk.{Desk}
use Rattle.promise.specs.Desk.{unused, in_use, held_of, as_planned, to_plan, jobs_for}
use Rattle.promise.specs.DeskCalls.{is_unused, all_unused, seat_ok, seat_fits, seats_ok, none_short}
use Rattle.figures.specs.declared.Job.{Job}
use Rattle.figures.specs.Jobs.{as_job, as_jobs}
use Rattle.walk.specs.Walk.{InRange, Small, as_short}
use Rattle.walk.specs.declared.Shortage.{Shortage}

pub unused_each : (seats : List Held) → all_unused seats ≡ list_all is_unused seats
unused_each = same_from_clauses all_unused (list_all is_unused) (λ h all. is_unused h && all) refl (λ _ _. refl) (λ _ _. refl)

-- the seats in use are those before the first with number 0
in_use_first : (seats : List Held) → in_use seats ≡ before_first (λ h. eqb h.number 0) seats
in_use_first = same_from_clauses in_use (before_first (λ h. eqb h.number 0)) (λ h hs. cond (eqb h.number 0) [] (h ∷ hs)) refl (λ _ _. refl) step
  where
    step : (h : Held) (hs : List Held) → before_first (λ g. eqb g.number 0) (h ∷ hs) ≡ cond (eqb h.number 0) [] (h ∷ before_first (λ g. eqb g.number 0) hs)
    step h hs = take_while-cons (λ g. not (eqb g.number 0)) h hs ∙ grind arith

-- so many as the search for a free seat says
pub held_first : (desk : Desk) (n : ℕ) → length desk.seats ≡ 32 → n ≡ unwrap_or (position (λ h. eqb h.number 0) desk.seats) 32
    → take n desk.seats ≡ held_of desk
unfolding held_of
held_first desk n len e =
    let free = λ (h : Held). eqb h.number 0 in
    let k = position_or_len (λ h. eqb h.number 0) desk.seats in
    ap (λ (m : ℕ). take m desk.seats)
    (e ∙ ap (unwrap_or (position free desk.seats)) (sym len) ∙ or_all k (length desk.seats) (prefix_len-le-length (λ h. not (free h)) desk.seats))
    ∙ sym (in_use_first desk.seats)
  where
    or_all : (p n : ℕ) → p ≤ n → unwrap_or (cond (ltb p n) (Some p) None) n ≡ p
    or_all p n h = grind (arith, nat_tests)

-- the held jobs one after the other, as they count for planning
module _ (machines clock : ℕ) where
  loaded_both : (held others : List Held) → to_plan machines clock (held ++ others) ≡ to_plan machines clock held ++ to_plan machines clock others
  unfolding to_plan counted
  loaded_both held others = simp map-append

  pub loaded_more : (held : List Held) (jobs : List Job) (i : ℕ) (j : Job) → i < length held
      → to_plan machines clock (get_or held i unused ∷ []) ≡ as_job j ∷ []
      → as_jobs jobs ≡ to_plan machines clock (take i held)
      → as_jobs (jobs ++ j ∷ []) ≡ to_plan machines clock (take (i + 1) held)
  loaded_more held jobs i j h e f =
      map-append as_job jobs (j ∷ [])
      ∙ ap₂ ◌++◌ f (sym e)
      ∙ sym (loaded_both (take i held) (get_or held i unused ∷ []))
      ∙ ap (to_plan machines clock) (sym (take_more held i unused h))

-- what was loaded is what the desk has to plan
pub held_jobs : (desk : Desk) (held : List Held) (jobs : List Job) → held ≡ held_of desk → as_jobs jobs ≡ to_plan desk.machines desk.clock held
    → as_jobs jobs ≡ jobs_for desk
unfolding jobs_for
held_jobs desk held jobs e f = f ∙ ap (to_plan desk.machines desk.clock) e

-- a seat that is as it must be is in range for planning
seat_small : (machines clock : ℕ) (h : Held) → seat_ok clock h ≡ true → (h.left ≤ 60000) × (h.deadline - clock ≤ 168) × (width machines h.bound ≤ 64)
unfolding seat_ok seat_fits
seat_small machines clock h e = let w = width_le machines h.bound in (grind (arith, nat_tests), grind (arith, nat_tests), grind (arith, nat_tests))

module _ (machines clock : ℕ) where
  used_small : (before : ℕ) (seats : List Held) → IsTrue (seats_ok clock before seats) → All InRange (to_plan machines clock (in_use seats))
  unfolding to_plan counted as_planned
  used_small before [] e = tt
  used_small before (h ∷ hs) e = go (eqb h.number 0) e (used_small h.number hs)
    where
      go : (t : Bool) → IsTrue (cond t (all_unused (h ∷ hs)) (ltb before h.number && seat_ok clock h && seats_ok clock h.number hs))
          → (IsTrue (seats_ok clock h.number hs) → All InRange (to_plan machines clock (in_use hs)))
          → All InRange (to_plan machines clock (cond t [] (h ∷ in_use hs)))
      go true e i = tt
      go false e i =
          let p = and_true (ltb before h.number && seat_ok clock h) (seats_ok clock h.number hs) e in
          (seat_small machines clock h (and_true (ltb before h.number) (seat_ok clock h) p.0).1, i p.1)

-- so are the held jobs of a desk whose seats are as they must be
pub held_small : (desk : Desk) (held : List Held) (jobs : List Job) → held ≡ held_of desk → as_jobs jobs ≡ to_plan desk.machines desk.clock held
    → IsTrue (seats_ok desk.clock 0 desk.seats) → Small jobs
unfolding jobs_for held_of
held_small desk held jobs e f ok = rw (held_jobs desk held jobs e f) (used_small desk.machines desk.clock 0 desk.seats ok)

-- the walk comes to an end if it names no short boundary
pub short_or_ok : (r : Result Unit Shortage) → none_short (as_short r) ≡ is_ok r
short_or_ok (Ok u) = refl
short_or_ok (Err s) = refl
