-- The machines that a Run's pairs answer for a number.
use Prim.Native.Nat.{ℕ, ◌+◌}
use native.Mathlib.Omega.{arith}
use mathlib.Core.Path.{◌≡◌, refl}
use mathlib.Core.Logic.{◌≢◌}
use mathlib.Core.Bool.{Bool, true, false, cond}
use mathlib.Core.List.{List, [], ◌∷◌, ◌++◌, map}
use lib.Dec.{eqb}
use lib.ListN.{replicate}
use borrow.Author.Tests.{eq-eqb, ne_eqb}
use Rattle.model.specs.Lists.{All, Distinct}
use Rattle.model.proofs.Lists.{All-map, All-both, All-over}
use Rattle.promise.specs.declared.Held.{Held}
use Rattle.promise.specs.declared.Given.{Given}
use Rattle.promise.specs.History.{answered_for}
use Rattle.promise.proofs.DeskSeats.{numbered}
use Rattle.promise.proofs.DeskRun.{total_replicate}

-- zeros answer nothing, not even for number 0
abbrev pub zeros : ℕ → List Given
zeros k = replicate k (record { number = 0; machines = 0 })

pub zeros_answer : (n k : ℕ) → answered_for n (zeros k) ≡ 0
unfolding answered_for
zeros_answer n k = total_replicate (λ g. cond (eqb g.number n) g.machines 0) k (record { number = 0; machines = 0 }) (go (eqb 0 n))
  where
    go : (t : Bool) → ◌≡◌ {A = ℕ} (cond t 0 0) 0
    go true = refl
    go false = refl

-- a pair for each held job, with zeros after the last
module _ (c : ℕ → ℕ) (k : ℕ) where
  abbrev pub pairs_of : List Held → List Given
  pairs_of hs = map (λ h. record { number = h.number; machines = c h.number }) hs ++ zeros k

  answered_more : (n : ℕ) (h : Held) (hs : List Held) → answered_for n (pairs_of (h ∷ hs)) ≡ cond (eqb h.number n) (c h.number) 0 + answered_for n (pairs_of hs)
  unfolding answered_for
  answered_more n h hs = refl

  pub none_answered : (n : ℕ) (hs : List Held) → All (λ h. h.number ≢ n) hs → answered_for n (pairs_of hs) ≡ 0
  none_answered n [] a = zeros_answer n k
  none_answered n (h ∷ hs) a = rw (answered_more n h hs, ne_eqb h.number n a.0) (omega (arith, none_answered n hs a.1))

  pub each_answered : (hs : List Held) → Distinct (numbered hs) → All (λ h. answered_for h.number (pairs_of hs) ≡ c h.number) hs
  each_answered [] d = tt
  each_answered (h ∷ hs) d = (head, All-both tail hs apart (each_answered hs d.1))
    where
      apart : All (λ g. h.number ≢ g.number) hs
      apart = All-over (λ (g : Held). g.number) (λ m. h.number ≢ m) hs d.0

      turned : All (λ g. g.number ≢ h.number) hs
      turned = All-map (λ g (m : h.number ≢ g.number). omega arith) hs apart

      head : answered_for h.number (pairs_of (h ∷ hs)) ≡ c h.number
      head = rw (answered_more h.number h hs, eq-eqb h.number h.number refl) (omega (arith, none_answered h.number hs turned))

      tail : (g : Held) → h.number ≢ g.number → answered_for g.number (pairs_of hs) ≡ c g.number
          → answered_for g.number (pairs_of (h ∷ hs)) ≡ c g.number
      tail g m i = rw (answered_more g.number h hs, ne_eqb h.number g.number m) (omega arith)
