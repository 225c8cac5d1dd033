-- Laws of the desk's table: the held jobs of a desk that a call makes, and the seats after Admit, Withdraw and Run.
use Prim.Native.Nat.{ℕ, zero, suc, ◌+◌, ◌-◌, ◌≤◌, ◌<◌}
use native.Mathlib.Omega.{arith}
use mathlib.Core.Path.{◌≡◌, refl, ◌∙◌, ap, ap₂}
use mathlib.Core.Logic.{◌≢◌}
use mathlib.Core.Bool.{Bool, true, false, cond}
use mathlib.Core.List.{List, [], ◌∷◌, ◌++◌, map}
use lib.Dec.{leb, ltb, eqb}
use lib.ListN.{length, take, replicate, length-append, length-replicate, length-take}
use borrow.Author.Tests.{ltb-true, ltb-false, leb-false, ne_eqb}
use Rattle.model.specs.Lists.{All, Distinct, Rising, Perm, done, keep, swap, then}
use Rattle.model.specs.Jobs.{Job, numbers, width, counted}
use Rattle.model.specs.Boundaries.{RoomEverywhere}
use Rattle.model.specs.Schedules.{less_first, after_first, NoHarder, Eases, neither, without, with}
use Rattle.model.proofs.Lists.{All-map, All-under, All-over, perm_all}
use Rattle.promise.specs.declared.Held.{Held}
use Rattle.promise.specs.declared.Desk.{Desk}
use Rattle.promise.specs.Desk.{unused, in_use, held_of, table, desk_of, as_planned, to_plan, jobs_for, SoundSeat, Sound}
use Rattle.promise.specs.DeskCalls.{without as leaves, seated, lowered, after_run}
use Rattle.promise.specs.DeskClaims.{Has32Seats}

-- the numbers of the seats
abbrev pub numbered : List Held → List ℕ
numbered hs = map (λ h. h.number) hs

-- the held jobs stand in the first seats
used_first : (l : List Held) → take (length (in_use l)) l ≡ in_use l
used_first [] = refl
used_first (h ∷ hs) = go (eqb h.number 0) (used_first hs)
  where
    go : (t : Bool) → take (length (in_use hs)) hs ≡ in_use hs → take (length (cond t [] (h ∷ in_use hs))) (h ∷ hs) ≡ cond t [] (h ∷ in_use hs)
    go true e = refl
    go false e = ap (λ (m : List Held). h ∷ m) e

module _ (desk : Desk) where
  pub held_first : (n : ℕ) → n ≡ length (held_of desk) → take n desk.seats ≡ held_of desk
  unfolding held_of
  held_first n e = ap (λ (k : ℕ). take k desk.seats) e ∙ used_first desk.seats

  pub held_few : length desk.seats ≡ 32 → length (held_of desk) ≤ 32
  held_few l = omega (arith, length-take (length (held_of desk)) desk.seats, ap (λ (m : List Held). length m) (held_first (length (held_of desk)) refl))

-- a table has 32 seats, and its held jobs are those it was made of
length_table : (held : List Held) → length held ≤ 32 → length (table held) ≡ 32
unfolding table
length_table held l = length-append held (replicate (32 - length held) unused) ∙ omega (arith, length-replicate (32 - length held) unused)

zeros_not_used : (n : ℕ) → in_use (replicate n unused) ≡ []
zeros_not_used zero = refl
zeros_not_used (suc n) = refl

used_again : (n : ℕ) (held : List Held) → All (λ h. 1 ≤ h.number) held → in_use (held ++ replicate n unused) ≡ held
used_again n [] p = zeros_not_used n
used_again n (h ∷ hs) p =
    let q : h.number ≢ 0 = omega (arith, p.0) in
    rw (ne_eqb h.number 0 q) (ap (λ (gs : List Held). h ∷ gs) (used_again n hs p.1))

pub held_again : (machines clock : ℕ) (held : List Held) → All (λ h. 1 ≤ h.number) held → held_of (desk_of machines clock held) ≡ held
unfolding held_of desk_of table
held_again machines clock held p = used_again (32 - length held) held p

pub sound_seated : (desk : Desk) → Sound desk → Has32Seats desk
sound_seated desk s = ap (λ (hs : List Held). length hs) s.zeros ∙ length_table (held_of desk) s.few

-- a desk made of good parts is sound
module _ (machines clock : ℕ) (held : List Held) (m : (1 ≤ machines) × (machines ≤ 64)) (c : clock ≤ 100000) (few : length held ≤ 32)
    (r : Rising (numbered held)) (seats : All (SoundSeat clock) held) (room : RoomEverywhere machines (to_plan machines clock held)) where
  same_held : held_of (desk_of machines clock held) ≡ held
  same_held = held_again machines clock held (All-map (λ h (q : SoundSeat clock h). q.number.0) held seats)

  pub made_sound : Sound (desk_of machines clock held)
  unfolding desk_of jobs_for
  made_sound = record {
    machines = m;
    clock = c;
    rising = rw same_held r;
    zeros = rw same_held refl;
    few = rw same_held few;
    seats = rw same_held seats;
    room = rw same_held room;
  }

pub perm_same : {A : Type 0} (xs : List A) → Perm xs xs
perm_same [] = done
perm_same (x ∷ xs) = keep x (perm_same xs)

-- the seats with a new one: the same seats in another order, still by rising number
pub seated_perm : (h : Held) (gs : List Held) → Perm (h ∷ gs) (seated h gs)
seated_perm h [] = keep h done
seated_perm h (g ∷ gs) = go (ltb h.number g.number) (seated_perm h gs)
  where
    go : (t : Bool) → Perm (h ∷ gs) (seated h gs) → Perm (h ∷ g ∷ gs) (cond t (h ∷ g ∷ gs) (g ∷ seated h gs))
    go true p = keep h (keep g (perm_same gs))
    go false p = then (swap h g gs) (keep g p)

pub length_seated : (h : Held) (gs : List Held) → length (seated h gs) ≡ suc (length gs)
length_seated h [] = refl
length_seated h (g ∷ gs) = go (ltb h.number g.number) (length_seated h gs)
  where
    go : (t : Bool) → length (seated h gs) ≡ suc (length gs) → length (cond t (h ∷ g ∷ gs) (g ∷ seated h gs)) ≡ suc (suc (length gs))
    go true e = refl
    go false e = ap suc e

numbered_seated : (P : ℕ → Type 0) (h : Held) (gs : List Held) → P h.number → All P (numbered gs) → All P (numbered (seated h gs))
numbered_seated P h gs p q =
    All-under (λ h. h.number) P (seated h gs) (perm_all (λ g. P g.number) (seated_perm h gs) (p, All-over (λ h. h.number) P gs q))

pub rising_seated : (h : Held) (gs : List Held) → Rising (numbered gs) → All (λ n. h.number ≢ n) (numbered gs) → Rising (numbered (seated h gs))
rising_seated h [] r n = (tt, tt)
rising_seated h (g ∷ gs) r n = go (ltb h.number g.number) refl (rising_seated h gs r.1 n.1)
  where
    go : (t : Bool) → ltb h.number g.number ≡ t → Rising (numbered (seated h gs)) → Rising (numbered (cond t (h ∷ g ∷ gs) (g ∷ seated h gs)))
    go true e i =
        let l = ltb-true h.number g.number e in
        ((l, All-map (λ m (k : g.number < m). omega arith) (numbered gs) r.0), r)
    go false e i =
        let l = ltb-false h.number g.number e in
        (numbered_seated (λ m. g.number < m) h gs (omega (arith, n.0)) r.0, i)

-- the seats without one number
module _ (P : Held → Type 0) where
  pub All-leaves : (n : ℕ) (hs : List Held) → All P hs → All P (leaves n hs)
  All-leaves n [] p = tt
  All-leaves n (h ∷ hs) p = go (eqb h.number n) (All-leaves n hs p.1)
    where
      go : (t : Bool) → All P (leaves n hs) → All P (cond t hs (h ∷ leaves n hs))
      go true q = p.1
      go false q = (p.0, q)

pub length_leaves : (n : ℕ) (hs : List Held) → length (leaves n hs) ≤ length hs
length_leaves n [] = omega arith
length_leaves n (h ∷ hs) = go (eqb h.number n) (length_leaves n hs)
  where
    go : (t : Bool) → length (leaves n hs) ≤ length hs → length (cond t hs (h ∷ leaves n hs)) ≤ suc (length hs)
    go true l = omega arith
    go false l = omega arith

pub rising_leaves : (n : ℕ) (hs : List Held) → Rising (numbered hs) → Rising (numbered (leaves n hs))
rising_leaves n [] r = tt
rising_leaves n (h ∷ hs) r = go (eqb h.number n) (rising_leaves n hs r.1)
  where
    above : All (λ m. h.number < m) (numbered (leaves n hs))
    above =
        All-under (λ g. g.number) (λ m. h.number < m) (leaves n hs)
        (All-leaves (λ g. h.number < g.number) n hs (All-over (λ g. g.number) (λ m. h.number < m) hs r.0))

    go : (t : Bool) → Rising (numbered (leaves n hs)) → Rising (numbered (cond t hs (h ∷ leaves n hs)))
    go true i = r.1
    go false i = (above, i)

-- the seats after a Run: those with more work than machines, lowered
module _ (given : ℕ → ℕ) where
  module _ (P Q : Held → Type 0) (f : (h : Held) → given h.number < h.left → P h → Q (lowered (given h.number) h)) where
    pub All-after : (hs : List Held) → All P hs → All Q (after_run given hs)
    All-after [] p = tt
    All-after (h ∷ hs) p = go (leb h.left (given h.number)) refl (All-after hs p.1)
      where
        go : (t : Bool) → leb h.left (given h.number) ≡ t → All Q (after_run given hs)
            → All Q (cond t (after_run given hs) (lowered (given h.number) h ∷ after_run given hs))
        go true e q = q
        go false e q = (f h (leb-false h.left (given h.number) e) p.0, q)

  pub length_after : (hs : List Held) → length (after_run given hs) ≤ length hs
  length_after [] = omega arith
  length_after (h ∷ hs) = go (leb h.left (given h.number)) (length_after hs)
    where
      go : (t : Bool) → length (after_run given hs) ≤ length hs
          → length (cond t (after_run given hs) (lowered (given h.number) h ∷ after_run given hs)) ≤ suc (length hs)
      go true l = omega arith
      go false l = omega arith

  pub rising_after : (hs : List Held) → Rising (numbered hs) → Rising (numbered (after_run given hs))
  unfolding lowered
  rising_after [] r = tt
  rising_after (h ∷ hs) r = go (leb h.left (given h.number)) (rising_after hs r.1)
    where
      above : All (λ m. h.number < m) (numbered (after_run given hs))
      above =
          All-under (λ g. g.number) (λ m. h.number < m) (after_run given hs)
          (All-after (λ g. h.number < g.number) (λ g. h.number < g.number) (λ g l p. p) hs
          (All-over (λ g. g.number) (λ m. h.number < m) hs r.0))

      go : (t : Bool) → Rising (numbered (after_run given hs))
          → Rising (numbered (cond t (after_run given hs) (lowered (given h.number) h ∷ after_run given hs)))
      go true i = i
      go false i = (above, i)

-- the jobs to plan: the numbers of the seats, which differ
pub to_plan_numbers : (machines clock : ℕ) (held : List Held) → numbers (to_plan machines clock held) ≡ numbered held
unfolding to_plan counted as_planned
to_plan_numbers machines clock [] = refl
to_plan_numbers machines clock (h ∷ hs) = ap (λ (ns : List ℕ). h.number ∷ ns) (to_plan_numbers machines clock hs)

pub rising_distinct : (ns : List ℕ) → Rising ns → Distinct ns
rising_distinct [] r = tt
rising_distinct (n ∷ ns) r = (All-map (λ m (l : n < m). omega arith) ns r.0, rising_distinct ns r.1)

pub to_plan_distinct : (machines clock : ℕ) (held : List Held) → Rising (numbered held) → Distinct (numbers (to_plan machines clock held))
to_plan_distinct machines clock held r = rw (to_plan_numbers machines clock held) (rising_distinct (numbered held) r)

-- one job fewer asks for no more
no_harder : (j : Job) → NoHarder j j
no_harder j = record { number = refl; work = omega arith; deadline = omega arith; bound = omega arith }

eases_same : (jobs : List Job) → Eases jobs jobs
eases_same [] = neither
eases_same (j ∷ jobs) = with (no_harder j) (eases_same jobs)

pub leaves_eases : (machines clock n : ℕ) (hs : List Held) → Eases (to_plan machines clock (leaves n hs)) (to_plan machines clock hs)
unfolding to_plan counted
leaves_eases machines clock n [] = neither
leaves_eases machines clock n (h ∷ hs) = go (eqb h.number n) (leaves_eases machines clock n hs)
  where
    go : (t : Bool) → Eases (to_plan machines clock (leaves n hs)) (to_plan machines clock hs)
        → Eases (to_plan machines clock (cond t hs (h ∷ leaves n hs))) (to_plan machines clock (h ∷ hs))
    go true e = without _ (eases_same (to_plan machines clock hs))
    go false e = with (no_harder _) e

-- with slot 1 done, what is left of the jobs to plan is the jobs to plan after the Run
pub after_to_plan : (machines clock : ℕ) (given : ℕ → ℕ) (hs : List Held)
    → after_first given (to_plan machines clock hs) ≡ to_plan machines (clock + 1) (after_run given hs)
unfolding to_plan counted as_planned lowered less_first
after_to_plan machines clock given [] = refl
after_to_plan machines clock given (h ∷ hs) = go (leb h.left (given h.number)) (after_to_plan machines clock given hs)
  where
    later : (d : ℕ) → d - clock - 1 ≡ d - (clock + 1)
    later d = omega arith

    go : (t : Bool) → after_first given (to_plan machines clock hs) ≡ to_plan machines (clock + 1) (after_run given hs)
        → cond t (after_first given (to_plan machines clock hs))
        (record { number = h.number; work = h.left - given h.number; deadline = h.deadline - clock - 1; bound = width machines h.bound }
        ∷ after_first given (to_plan machines clock hs))
        ≡ to_plan machines (clock + 1) (cond t (after_run given hs) (lowered (given h.number) h ∷ after_run given hs))
    go true e = e
    go false e = rw (later h.deadline) (ap₂ ◌∷◌ refl e)

-- what the first-column law says of the deadlines, read back on the seats
pub to_plan_due : (machines clock : ℕ) (hs : List Held) → All (λ j. 1 ≤ j.deadline) (to_plan machines clock hs) → All (λ h. 1 ≤ h.deadline - clock) hs
unfolding to_plan counted as_planned
to_plan_due machines clock [] d = tt
to_plan_due machines clock (h ∷ hs) d = (d.0, to_plan_due machines clock hs d.1)
