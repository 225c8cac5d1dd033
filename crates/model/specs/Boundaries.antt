-- 01, "Forced work and boundaries": the boundaries of a list, and the least short one.
use Rattle.std.specs.Prelude.{ℕ, suc, ◌<◌, ◌≡◌, ◌⊎◌, cond, ltb, eqb, ℤ, pos, negsuc, neg_ℤ, ◌<ℤ◌, ◌≤ℤ◌}
use mathlib.Core.List.{List, [], ◌∷◌, Memᴰ}
use Rattle.std.proofs.Math.Option.{Option, some, none, or_else}
use Rattle.std.specs.Int.Signed.{lt_z}
use Rattle.model.specs.Jobs.{Job, room}

-- "The boundaries of a list are 0 and each deadline in it."
abbrev pub Boundary : List Job → ℕ → Type 0
Boundary jobs b = (b ≡ 0) ⊎ ((j : Job) × Memᴰ j jobs × (j.deadline ≡ b))

-- no boundary has negative room
abbrev pub RoomEverywhere : ℕ → List Job → Type 0
RoomEverywhere C jobs = (b : ℕ) → Boundary jobs b → pos 0 ≤ℤ room C jobs b

-- d put into a rising list where it belongs, once
abbrev pub enter : ℕ → List ℕ → List ℕ
enter d [] = d ∷ []
enter d (b ∷ bs) = cond (ltb d b) (d ∷ b ∷ bs) (cond (eqb d b) (b ∷ bs) (b ∷ enter d bs))

-- the boundaries as one rising list, each once
abbrev pub boundaries : List Job → List ℕ
boundaries [] = 0 ∷ []
boundaries (j ∷ jobs) = enter j.deadline (boundaries jobs)

-- "below zero it is the shortage"
abbrev pub shortage : ℤ → ℕ
shortage (pos n) = 0
shortage (negsuc n) = suc n

-- a short boundary, as an answer names it
pub record Short : Type 0 where
  pub place : ℕ
  pub amount : ℕ

-- b, if it is short
unfoldable pub short_at : ℕ → List Job → ℕ → Option Short
short_at C jobs b = cond (lt_z (room C jobs b) (pos 0)) (some (record { place = b; amount = shortage (room C jobs b) })) none

-- the first short one of some boundaries
abbrev pub first_short : ℕ → List Job → List ℕ → Option Short
first_short C jobs [] = none
first_short C jobs (b ∷ bs) = or_else (short_at C jobs b) (first_short C jobs bs)

-- the least short boundary, if any
unfoldable pub least_short : ℕ → List Job → Option Short
least_short C jobs = first_short C jobs (boundaries jobs)

-- what "least short boundary, shortage" means
pub record LeastShort (C : ℕ) (jobs : List Job) (s : Short) : Type 0 where
  pub boundary : Boundary jobs s.place
  pub short : room C jobs s.place <ℤ pos 0
  pub amount : pos s.amount ≡ neg_ℤ (room C jobs s.place)
  pub least : (b : ℕ) → Boundary jobs b → b < s.place → pos 0 ≤ℤ room C jobs b
