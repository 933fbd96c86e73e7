-- How many steps a call takes at most.
use Rattle.std.specs.Prelude.{ℕ, ◌+◌, ◌≤◌, List, [], ◌∷◌, length}
use Rattle.diagram_model.specs.Functions.{Function}
use Rattle.diagram_model.specs.Joint.{joint_size}
use Rattle.diagram_model.specs.Size.{size}
use Rattle.diagram_model.specs.Stores.{Diagram, function_of}

-- how many different triples arise from three functions by fixing a prefix of the order in all three, and
-- have one that depends on the next variable
abbrev pub joint_size_in : Diagram → Function → Function → Function → ℕ
joint_size_in d f g h = joint_size (length d.order) d.order (record { f = f; g = g; h = h } ∷ [])

-- the same of the functions of three nodes
abbrev pub joint_size_of : Diagram → ℕ → ℕ → ℕ → ℕ
joint_size_of d f g h = joint_size_in d (function_of d f) (function_of d g) (function_of d h)

-- the size of a list of functions in the order
abbrev pub size_in : Diagram → List Function → ℕ
size_in d fs = size (length d.order) d.order fs

-- A call that found d and left e took at most n steps: by the counter that it was handed, and by the
-- store's own count of requests.
pub record TakesAtMost (n : ℕ) (d e : Diagram) (old new : ℕ) : Type 0 where
  pub steps : new ≤ old + n
  pub made : e.made ≤ d.made + n
