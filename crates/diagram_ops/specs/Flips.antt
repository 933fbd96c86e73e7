-- Connectives of three functions, a variable flipped in the second one.
use Rattle.std.specs.Prelude.{◌≡◌, ◌⊎◌, ℕ, ◌<◌, ◌/◌, ◌%◌, Bool, cond, not, ◌==◌}
use Rattle.diagram_model.specs.Functions.{Function, put, IsPrefixOf}
use Rattle.diagram_model.specs.Stores.{Diagram, function_of}
use Rattle.diagram_ops.specs.Connectives.{connective, connected}
use Rattle.diagram_ops.specs.Made.{Property}
use Rattle.diagram_ops.specs.Short.{IsValuation}
use Rattle.diagram_ops.specs.declared.split.Split.{Split}

-- f with v flipped
unfoldable pub flip : ℕ → Function → Function
flip v f = λ x. f (put x v (not (x v)))

-- f with v flipped where c holds
unfoldable pub exchanged : ℕ → Function → Function → Function
exchanged v c f = λ x. f (put x v (cond (c x) (not (x v)) (x v)))

-- the connective of f, of g with v flipped, and of h
unfoldable pub flipping : ℕ → ℕ → Function → Function → Function → Function
flipping t v f g h = connected t f (flip v g) h

-- the same of three nodes
abbrev pub flipping_of : ℕ → ℕ → Diagram → ℕ → ℕ → ℕ → Function
flipping_of t v d f g h = connected t (function_of d f) (flip v (function_of d g)) (function_of d h)

-- a function that arises from such a connective by fixing a prefix of the order
abbrev pub InFlipping : ℕ → ℕ → Diagram → ℕ → ℕ → ℕ → Property
InFlipping t v d f g h = IsPrefixOf d.order (flipping_of t v d f g h)

-- a function that arises from an exchange
abbrev pub InExchange : ℕ → Diagram → ℕ → ℕ → Property
InExchange v d c f = IsPrefixOf d.order (exchanged v (function_of d c) (function_of d f))

-- at v the two sides of the second node change their places
abbrev pub turned_at : ℕ → Split → Split
turned_at v s = cond (s.var == v) (record {
  var = s.var;
  low = record { f = s.low.f; g = s.high.g; h = s.low.h };
  high = record { f = s.high.f; g = s.low.g; h = s.high.h };
}) s

-- the four bits of a table that FALSE or TRUE in the first place leaves
abbrev pub half_of : ℕ → ℕ → ℕ
half_of t f = cond (f == 0) (t % 16) (t / 16)

-- n is FALSE or h, and has the connective's value whatever the value of the second function is
pub record IsKept (t f h n : ℕ) : Type 0 where
  pub one : (n < 2) ⊎ (n ≡ h)
  pub right : (e : ℕ → Bool) (b : Bool) → IsValuation e → e n ≡ connective t (e f) b (e h)
