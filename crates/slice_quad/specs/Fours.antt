-- Four integers, one a coordinate.
use Rattle.std.specs.Prelude.{◌≡◌, ℕ, ◌+◌, Bool, cond, not, List, [], ◌∷◌, length}
use Rattle.diagram_model.specs.Stores.{Diagram}
use Rattle.slice_vec.specs.Growing.{Denotes}
use Rattle.slice_vec.specs.Slices.{StandsIn, digits_of}
use Rattle.slice_quad.specs.declared.coord.Coord.{Coord}
use Rattle.slice_quad.specs.declared.coord.Coord.TheVariants.{A, B, C, D}
use Rattle.slice_quad.specs.declared.four.Four.{Four}
use Rattle.slice_quad.specs.declared.gate.Target.{Target}
use Rattle.slice_quad.specs.declared.gate.Gate.{Gate}
use Rattle.slice_quad.specs.Mix.{Mix, Coordinates, all_true}

-- the nodes of a coordinate
abbrev pub nodes_of : Four → Coord → List ℕ
nodes_of f A = f.a
nodes_of f B = f.b
nodes_of f C = f.c
nodes_of f D = f.d

-- the bits of the coordinates
unfoldable pub digits_in : Diagram → Four → Coordinates
digits_in d f z = digits_of d (nodes_of f z)

-- four integers of w bits
pub record AreIntegers (d : Diagram) (w : ℕ) (f : Four) : Type 0 where
  pub stands : (z : Coord) → StandsIn d (nodes_of f z)
  pub width : (z : Coord) → length (nodes_of f z) ≡ w

-- the places of the true bits from a place on, in rising order
abbrev pub true_places : ℕ → List Bool → List ℕ
true_places n [] = []
true_places n (b ∷ x) = cond b (n ∷ true_places (1 + n) x) (true_places (1 + n) x)

-- a gate with one target as a matrix and controls
abbrev pub mix_of : Target → Mix
mix_of t = record { controls = true_places 0 t.controls; target = t.target; rows = λ r s. cond r (cond s t.high_high t.high_low) (cond s t.low_high t.low_low); rooted = t.rooted }

-- the nodes are those of the target's variable, of its negation, and of "all controls are true"
pub record AreItsNodes (d : Diagram) (g : Gate) : Type 0 where
  pub target : Denotes d g.is_set.0 (λ x. x g.target.target)
  pub other : Denotes d g.is_clear.0 (λ x. not (x g.target.target))
  pub all : Denotes d g.all.0 (all_true (true_places 0 g.target.controls))
