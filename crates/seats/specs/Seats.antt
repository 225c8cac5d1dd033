-- The search over the seats, as the code makes it.
use Rattle.std.specs.Prelude.{ℕ, suc, cond, List, [], ◌∷◌, ltb, eqb}
use Rattle.std.specs.declared.option.Option.{Option}
use Rattle.std.specs.declared.option.Option.TheVariants.{None, Some}
use Rattle.promise.specs.declared.Held.{Held}

-- where a number is held, among seats of which the first stands at index i
abbrev pub find_in : ℕ → ℕ → List Held → Option ℕ
find_in n i [] = None
find_in n i (h ∷ hs) = cond (eqb h.number n) (Some i) (find_in n (suc i) hs)

abbrev pub found : ℕ → Option ℕ
found at = Some at

-- how many seats stand before the first with a greater number
abbrev pub rank_in : ℕ → List Held → ℕ
rank_in n [] = 0
rank_in n (h ∷ hs) = cond (ltb n h.number) 0 (suc (rank_in n hs))
