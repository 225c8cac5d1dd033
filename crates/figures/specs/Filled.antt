-- What a contract sees of an array that is filled from the front.
use Rattle.std.specs.Prelude.{List}

-- the items, and those behind them, of which no clause says anything
pub record Filled (T : Type 0) : Type 0 where
  pub items : List T
  pub spare : List T
