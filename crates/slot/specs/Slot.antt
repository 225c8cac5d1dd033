-- Slot 1 of the plan from the shares as the core leaves them, and what a slot does to the held jobs.
use Rattle.std.specs.Prelude.{ℕ, zero, suc, cond, List, [], ◌∷◌, leb}
use Rattle.model.specs.Rule.{Share, fill}
use Rattle.promise.specs.declared.Held.{Held}
use Rattle.promise.specs.declared.Given.{Given}
use Rattle.promise.specs.DeskCalls.{lowered}

-- slots t to 1 filled: what is given then is slot 1's
abbrev pub fill_down : ℕ → ℕ → List Share → List Share
fill_down C zero ps = ps
fill_down C (suc t) ps = fill_down C t (fill C (suc t) ps)

-- a share's pair of job number and machines
unfoldable pub given_to : Share → Given
given_to p = record { number = p.job.number; machines = p.given }

-- the held jobs after the slot, each with its own share
abbrev pub after_shares : List Share → List Held → List Held
after_shares [] hs = []
after_shares (p ∷ ps) [] = []
after_shares (p ∷ ps) (h ∷ hs) = cond (leb h.left p.given) (after_shares ps hs) (lowered p.given h ∷ after_shares ps hs)
