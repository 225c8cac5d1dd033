-- Look's figures as the numbers that are sent.
use Rattle.std.specs.Prelude.{ℕ, List, [], ◌∷◌}
use Rattle.promise.specs.declared.Figures.{Figures}

abbrev pub figure_numbers : Figures → List ℕ
figure_numbers told = told.left ∷ told.deadline ∷ told.bound ∷ told.leeway ∷ []
