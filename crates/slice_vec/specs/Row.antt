-- The bits of a result, one after another.
use Rattle.std.specs.Prelude.{ℕ, List}

-- the nodes so far, and how many more there is room for
pub record Reserved : Type 0 where
  pub nodes : List ℕ
  pub room : ℕ
