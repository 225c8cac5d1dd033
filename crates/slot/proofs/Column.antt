-- The shares with slots 168 to 1 filled are slot 1 of the plan: what Run answers, and what it leaves, read off them.
use Prim.Native.Nat.{ℕ, zero, suc, ◌≤◌}
use native.Mathlib.Omega.{arith}
use mathlib.Core.Path.{◌≡◌, refl, sym, ◌∙◌, ap, ap₂}
use mathlib.Core.Bool.{cond}
use mathlib.Core.List.{List, [], ◌∷◌, map, Memᴰ}
use lib.Dec.{leb}
use Rattle.model.specs.Lists.{All, Distinct}
use Rattle.model.specs.Jobs.{numbers}
use Rattle.model.specs.Rule.{Share, fresh, fill, share_of, cell, plan_from}
use Rattle.model.proofs.Lists.{All-mem}
use Rattle.model.proofs.Shares.{numbers_of, numbers_fill, numbers_fresh, fresh_distinct, share_of_lem, at_slot, under_slot}
use Rattle.model.proofs.Start.{start_plays_no_part}
use Rattle.promise.specs.declared.Held.{Held}
use Rattle.promise.specs.declared.Desk.{Desk}
use Rattle.promise.specs.declared.Given.{Given}
use Rattle.promise.specs.Desk.{held_of, jobs_for, column}
use Rattle.promise.specs.DeskCalls.{given_of, lowered, after_run}
use Rattle.promise.proofs.DeskSeats.{numbered, to_plan_numbers}
use Rattle.slot.specs.Slot.{fill_down, given_to, after_shares}

-- filling keeps the numbers, and the last slot filled is slot 1
down_numbers : (C t : ℕ) (ps : List Share) → numbers_of (fill_down C t ps) ≡ numbers_of ps
down_numbers C zero ps = refl
down_numbers C (suc t) ps = down_numbers C t (fill C (suc t) ps) ∙ numbers_fill C (suc t) ps

down_given : (C n t : ℕ) (ps : List Share) → (share_of n (fill_down C (suc t) ps)).given ≡ cell (λ r. C) (suc t) ps n 1
down_given C n zero ps = sym (at_slot (λ r. C) n 0 ps)
down_given C n (suc t) ps = down_given C n t (fill C (suc (suc t)) ps) ∙ sym (under_slot (λ r. C) n (suc t) ps 1 (omega arith))

-- a share has the machines that f gives its number
abbrev Has : (ℕ → ℕ) → List Share → Type 0
Has f ps = All (λ p. p.given ≡ f p.job.number) ps

each_has : (f : ℕ → ℕ) (ps : List Share) → Distinct (numbers_of ps) → ((n : ℕ) → (share_of n ps).given ≡ f n) → Has f ps
each_has f ps d h = All-mem ps each
  where
    each : (p : Share) → Memᴰ p ps → p.given ≡ f p.job.number
    each p m = sym (ap (λ (q : Share). q.given) (share_of_lem p d m)) ∙ h p.job.number

-- seat by seat
module _ (f : ℕ → ℕ) where
  same_pairs : (ps : List Share) (held : List Held) → Has f ps → numbers_of ps ≡ numbered held → map given_to ps ≡ given_of f held
  unfolding given_to given_of
  same_pairs [] [] a e = refl
  same_pairs [] (h ∷ hs) a e = absurd (let z : ◌≡◌ {A = ℕ} 0 1 = cc in omega arith)
  same_pairs (p ∷ ps) [] a e = absurd (let z : ◌≡◌ {A = ℕ} 0 1 = cc in omega arith)
  same_pairs (p ∷ ps) (h ∷ hs) a e =
      let n : p.job.number ≡ h.number = cc in
      let m : p.given ≡ f h.number = a.0 ∙ ap f n in
      let r : numbers_of ps ≡ numbered hs = cc in
      ap₂ (λ (g : Given) (gs : List Given). g ∷ gs) (λ i. record { number = n i; machines = m i }) (same_pairs ps hs a.1 r)

  same_after : (ps : List Share) (held : List Held) → Has f ps → numbers_of ps ≡ numbered held → after_shares ps held ≡ after_run f held
  same_after [] [] a e = refl
  same_after [] (h ∷ hs) a e = absurd (let z : ◌≡◌ {A = ℕ} 0 1 = cc in omega arith)
  same_after (p ∷ ps) [] a e = absurd (let z : ◌≡◌ {A = ℕ} 0 1 = cc in omega arith)
  same_after (p ∷ ps) (h ∷ hs) a e =
      let n : p.job.number ≡ h.number = cc in
      let r : numbers_of ps ≡ numbered hs = cc in
      ap₂ (λ (m : ℕ) (l : List Held). cond (leb h.left m) l (lowered m h ∷ l)) (a.0 ∙ ap f n) (same_after ps hs a.1 r)

module _ (desk : Desk) (apart : Distinct (numbers (jobs_for desk))) (deadlines : All (λ j. j.deadline ≤ 168) (jobs_for desk)) where
  filled : List Share
  filled = fill_down desk.machines 168 (map fresh (jobs_for desk))

  has : Has (column desk) filled
  unfolding filled column plan_from
  has =
      let jobs = jobs_for desk in
      each_has (column desk) filled (rw (down_numbers desk.machines 168 (map fresh jobs)) (fresh_distinct jobs apart))
      (λ n. down_given desk.machines n 167 (map fresh jobs) ∙ start_plays_no_part desk.machines 168 jobs deadlines n 1)

  theirs : numbers_of filled ≡ numbered (held_of desk)
  unfolding filled jobs_for
  theirs =
      down_numbers desk.machines 168 (map fresh (jobs_for desk))
      ∙ numbers_fresh (jobs_for desk)
      ∙ to_plan_numbers desk.machines desk.clock (held_of desk)

  pub slot_pairs : map given_to (fill_down desk.machines 168 (map fresh (jobs_for desk))) ≡ given_of (column desk) (held_of desk)
  unfolding filled
  slot_pairs = same_pairs (column desk) filled (held_of desk) has theirs

  pub slot_after : after_shares (fill_down desk.machines 168 (map fresh (jobs_for desk))) (held_of desk) ≡ after_run (column desk) (held_of desk)
  unfolding filled
  slot_after = same_after (column desk) filled (held_of desk) has theirs
