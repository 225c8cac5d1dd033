-- M4: no b is short if 0 and the deadlines are not. M3: what a short boundary 0 means.
use Prim.Native.Nat.{ℕ, zero, suc, ◌+◌, ◌*◌, ◌-◌, ◌≤◌, ◌<◌}
use native.Mathlib.Nat.{add-zero, add-suc, sub-zero}
use native.Mathlib.Decide.{dec_le, dec_lt, ℕ_discrete}
use native.Mathlib.Omega.{arith}
use mathlib.Core.Path.{◌≡◌, refl, ap}
use mathlib.Core.Logic.{◌≢◌, ◌⊎◌, inl, inr}
use mathlib.Core.List.{List, [], ◌∷◌, Memᴰ}
use lib.IntN.{pos}
use lib.Signed.{◌<ℤ◌}
use Rattle.model.specs.Lists.{All, total}
use Rattle.model.specs.Jobs.{Job, forced_of, forced, room}
use Rattle.model.specs.Boundaries.{RoomEverywhere}
use Rattle.model.specs.Claims.{ZeroIsShort, BoundariesSuffice}
use Rattle.model.proofs.Lists.{total_le, All-map, All-mem, le_sum}
use Rattle.model.proofs.Signed.{enough_room, room_forced, short_room, room_over}

-- D less k for each slot from a on to d, as a moves, bends upwards only, but at d itself
bends : (D k d a : ℕ) → d ≢ suc a → 2 * (D - k * (d - suc a)) ≤ (D - k * (d - a)) + (D - k * (d - suc (suc a)))
bends D k d a h = go (dec_le d a)
  where
    go : Dec (d ≤ a) → 2 * (D - k * (d - suc a)) ≤ (D - k * (d - a)) + (D - k * (d - suc (suc a)))
    go (yes l) =
        let e₀ : d - a ≡ 0 = omega arith in
        let e₁ : d - suc a ≡ 0 = omega arith in
        let e₂ : d - suc (suc a) ≡ 0 = omega arith in
        rw (e₀, e₁, e₂) (omega arith)
    go (no l) =
        let e₁ : d - suc a ≡ suc (d - suc (suc a)) = omega arith in
        let e₀ : d - a ≡ suc (suc (d - suc (suc a))) = omega arith in
        rw (e₀, e₁) (omega arith)

-- between deadlines the forced work of a job bends upwards only
convex : (a : ℕ) (j : Job) → j.deadline ≢ suc a → 2 * forced_of (suc a) j ≤ forced_of a j + forced_of (suc (suc a)) j
unfolding forced_of
convex a j h = bends _ _ _ a h

-- from a deadline on the forced work of a job stands still
still : (b : ℕ) (j : Job) → j.deadline ≤ b → forced_of (suc b) j ≤ forced_of b j
unfolding forced_of
still b j h =
    let e : j.deadline - b ≡ 0 = omega arith in
    rw e (omega arith)

-- a deadline at suc a, or the sum bends upwards there
bend : (P : ℕ → Type 0) (a : ℕ) (jobs : List Job) → All (λ j. P j.deadline) jobs
    → P (suc a) ⊎ (2 * total (forced_of (suc a)) jobs ≤ total (forced_of a) jobs + total (forced_of (suc (suc a))) jobs)
bend P a [] h = inr (omega arith)
bend P a (j ∷ jobs) h = go (ℕ_discrete j.deadline (suc a)) (bend P a jobs h.1)
  where
    go : Dec (j.deadline ≡ suc a)
        → P (suc a) ⊎ (2 * total (forced_of (suc a)) jobs ≤ total (forced_of a) jobs + total (forced_of (suc (suc a))) jobs)
        → P (suc a) ⊎ (2 * (forced_of (suc a) j + total (forced_of (suc a)) jobs) ≤ (forced_of a j + total (forced_of a) jobs) + (forced_of (suc (suc a)) j + total (forced_of (suc (suc a))) jobs))
    go (yes e) i = inl (rw e at h.0)
    go (no n) (inl p) = inl p
    go (no n) (inr i) = inr (omega (arith, convex a j n))

-- the forced work against a line that starts at b with X and rises by C: it is above the line nowhere from b on
-- if it is not above it at b and at the deadlines from b on
module _ (C : ℕ) (jobs : List Job) (b X : ℕ) (here-enough : forced jobs b ≤ X) (deadlines-enough : All (λ j. b ≤ j.deadline → forced jobs j.deadline ≤ X + C * (j.deadline - b)) jobs) where
  -- where the forced work rises by C at most, it is not above the line: go down to the boundary below, or to b
  down : (c : ℕ) → b ≤ c → forced jobs (suc c) ≤ forced jobs c + C → forced jobs c ≤ X + C * (c - b)
  unfolding forced
  down c l h = at_b c l (ℕ_discrete b c) (above c h)
    where
      at_b : (c : ℕ) → b ≤ c → Dec (b ≡ c) → (b < c → forced jobs c ≤ X + C * (c - b)) → forced jobs c ≤ X + C * (c - b)
      at_b c l (yes e) i = omega (arith, ap (forced jobs) e, here-enough)
      at_b c l (no n) i = i (omega arith)

      above : (c : ℕ) → forced jobs (suc c) ≤ forced jobs c + C → b < c → forced jobs c ≤ X + C * (c - b)
      above zero h l = absurd (omega arith)
      above (suc a) h l = go (bend (λ d. b ≤ d → forced jobs d ≤ X + C * (d - b)) a jobs deadlines-enough) (λ r. at_b a (omega arith) (ℕ_discrete b a) (above a r))
        where
          go : (b ≤ suc a → forced jobs (suc a) ≤ X + C * (suc a - b))
              ⊎ (2 * total (forced_of (suc a)) jobs ≤ total (forced_of a) jobs + total (forced_of (suc (suc a))) jobs)
              → (forced jobs (suc a) ≤ forced jobs a + C → forced jobs a ≤ X + C * (a - b)) → forced jobs (suc a) ≤ X + C * (suc a - b)
          go (inl e) i = e (omega arith)
          go (inr c) i =
              let m : suc a - b ≡ suc (a - b) = omega arith in
              rw m (omega (arith, i (omega arith)))

  -- from a place that is not above the line to the one before it
  below : (c : ℕ) → b ≤ c → forced jobs (suc c) ≤ X + C * (suc c - b) → forced jobs c ≤ X + C * (c - b)
  below c l h = go (dec_le (forced jobs (suc c)) (forced jobs c + C))
    where
      go : Dec (forced jobs (suc c) ≤ forced jobs c + C) → forced jobs c ≤ X + C * (c - b)
      go (yes e) = down c l e
      go (no n) =
          let m : suc c - b ≡ suc (c - b) = omega arith in
          omega (arith, (rw m at h))

  far_below : (c m : ℕ) → b ≤ c → forced jobs (c + m) ≤ X + C * (c + m - b) → forced jobs c ≤ X + C * (c - b)
  far_below c zero l h = rw (add-zero c) at h
  far_below c (suc m) l h = far_below c m l (below (c + m) (omega arith) (rw add-suc at h))

  pub under_the_line : (c : ℕ) → b ≤ c → forced jobs c ≤ X + C * (c - b)
  unfolding forced
  under_the_line c l =
      let last = total (λ j. j.deadline) jobs in
      far_below c last l
      (down (c + last) (omega arith)
      (omega (
        arith,
        total_le (forced_of (suc (c + last))) (forced_of (c + last)) jobs
            (All-map (λ j e. still (c + last) j e) jobs (le_sum (λ j. j.deadline) c jobs)),
      )))

-- M4, on the two numbers
pub enough_everywhere : (C : ℕ) (jobs : List Job) → RoomEverywhere C jobs → (b : ℕ) → forced jobs b ≤ C * b
enough_everywhere C jobs h b =
    omega (
      arith,
      (rw (sub-zero b) at (under_the_line C jobs 0 0 (omega (arith, room_forced C jobs 0 (h 0 (inl refl)))) (All-mem jobs at_deadline) b (omega arith))),
    )
  where
    at_deadline : (j : Job) → Memᴰ j jobs → 0 ≤ j.deadline → forced jobs j.deadline ≤ 0 + C * (j.deadline - 0)
    at_deadline j m _ = rw (sub-zero j.deadline) (omega (arith, room_forced C jobs j.deadline (h j.deadline (inr (j, m, refl)))))

pub boundaries_suffice : BoundariesSuffice
boundaries_suffice C jobs h b = enough_room C jobs b (enough_everywhere C jobs h b)

-- a sum above 0 has a part above 0
some_part : (f : Job → ℕ) (jobs : List Job) → 0 < total f jobs → (j : Job) × Memᴰ j jobs × (0 < f j)
some_part f [] h = absurd (omega arith)
some_part f (j ∷ jobs) h = go (dec_lt 0 (f j)) (some_part f jobs)
  where
    go : Dec (0 < f j) → (0 < total f jobs → (i : Job) × Memᴰ i jobs × (0 < f i)) → (i : Job) × Memᴰ i (j ∷ jobs) × (0 < f i)
    go (yes l) r = (j, Memᴰ.head refl, l)
    go (no l) r = let i = r (omega arith) in (i.0, Memᴰ.tail i.1, i.2)

part_some : (f : Job → ℕ) (j : Job) {jobs : List Job} → Memᴰ j jobs → f j ≤ total f jobs
part_some f j (Memᴰ.head e) = rw e (omega arith)
part_some f j (Memᴰ.tail m) = omega (arith, part_some f j m)

forced_zero : (j : Job) → forced_of 0 j ≡ j.work - j.bound * j.deadline
unfolding forced_of
forced_zero j = rw (sub-zero j.deadline)

pub zero_is_short : ZeroIsShort
unfolding forced
zero_is_short C jobs = (to, from)
  where
    to : room C jobs 0 <ℤ pos 0 → (j : Job) × Memᴰ j jobs × (j.bound * j.deadline < j.work)
    to h =
        let i = some_part (forced_of 0) jobs (omega (arith, room_over C jobs 0 h)) in
        (i.0, i.1, omega (arith, i.2, forced_zero i.0))

    from : (j : Job) × Memᴰ j jobs × (j.bound * j.deadline < j.work) → room C jobs 0 <ℤ pos 0
    from h = short_room C jobs 0 (omega (arith, part_some (forced_of 0) h.0 h.1, forced_zero h.0, h.2))
