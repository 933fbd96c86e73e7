-- What a coordinate of raw is made from.
use Rattle.std.specs.Prelude.{◌≡◌, ℕ, ◌+◌, ◌<◌, ◌≤◌, Bool, true, false, List, length}
use Rattle.diagram_model.specs.Stores.{Diagram, IsSound}
use Rattle.diagram_ops.specs.Made.{Property, IsPrefixOfSome}
use Rattle.gate_set.specs.declared.entry.Entry.TheVariants.{Zero, Omega}
use Rattle.gate_set.specs.Matrix.{IsPower}
use Rattle.slice_vec.specs.Growing.{Denotes}
use Rattle.slice_quad.specs.Column.{where_negated}
use Rattle.slice_vec.specs.Digits.{Digits, fixed}
use Rattle.slice_vec.specs.Slices.{StandsIn, digits_of}
use Rattle.slice_quad.specs.declared.coord.Coord.{Coord}
use Rattle.slice_quad.specs.declared.four.Four.{Four}
use Rattle.slice_quad.specs.declared.gate.Target.{Target}
use Rattle.slice_quad.specs.declared.gate.Gate.{Gate}
use Rattle.slice_quad.specs.declared.raw.Halves.{Halves}
use Rattle.slice_quad.specs.Fourfold.{Functions, Gives}
use Rattle.slice_quad.specs.Mix.{Coordinates, zero_digits, term, signed_term, raw}
use Rattle.slice_quad.specs.Fours.{nodes_of, digits_in, mix_of, AreIntegers, AreItsNodes}
use Rattle.slice_quad.specs.Terms.{IsOf}
use Rattle.slice_quad.specs.Work.{mix_functions}

-- f is q with the variable v fixed to b
pub record IsHalf (d : Diagram) (v : ℕ) (b : Bool) (q f : Four) : Type 0 where
  pub integers : AreIntegers d (length q.a) f
  pub digits : (z : Coord) → digits_of d (nodes_of f z) ≡ fixed v b (digits_of d (nodes_of q z))

-- each entry is zero or a power of ω, at most the seventh
pub record AreReduced (t : Target) : Type 0 where
  pub low_low : IsPower t.low_low
  pub low_high : IsPower t.low_high
  pub high_low : IsPower t.high_low
  pub high_high : IsPower t.high_high

-- zero with as many bits as q
pub record IsZeroFor (d : Diagram) (q : Four) (zs : List ℕ) : Type 0 where
  pub stands : StandsIn d zs
  pub digits : digits_of d zs ≡ zero_digits
  pub width : length zs ≡ length q.a

-- the same in each sound diagram
abbrev pub AreZeros : Four → List ℕ → Type 0
AreZeros q zs = (d : Diagram) → IsSound d → IsZeroFor d q zs

-- a gate with its nodes, and a vector that it may be applied to
pub record IsMixable (d : Diagram) (g : Gate) (q : Four) : Type 0 where
  pub nodes : AreItsNodes d g
  pub reduced : AreReduced g.target
  pub whole : AreIntegers d (length q.a) q
  pub some : 1 ≤ length q.a
  pub few : length q.a ≤ 128
  pub within : g.target.target < length d.order

-- what the general way takes: the nodes of the gate, and the coordinates with the target fixed each way
pub record IsReady (d : Diagram) (g : Gate) (q : Four) (h : Halves) (zs : List ℕ) : Type 0 where
  pub nodes : AreItsNodes d g
  pub reduced : AreReduced g.target
  pub whole : AreIntegers d (length q.a) q
  pub few : length q.a ≤ 128
  pub low : IsHalf d g.target.target false q h.low
  pub high : IsHalf d g.target.target true q h.high
  pub zero : IsZeroFor d q zs

-- a function that arises from a work function of the gate, by fixing a prefix of the order
abbrev pub IsMix : Diagram → Target → Four → Property
IsMix d t q = IsPrefixOfSome d.order (mix_functions (length q.a) (mix_of t) (digits_in d q))

-- the functions for which a gate makes nodes
abbrev pub mix_made : Target → Four → Functions
mix_made t q d = mix_functions (length q.a) (mix_of t) (digits_in d q)

-- the nodes stand for s, and there are at most two more than w
pub record IsRaw (d : Diagram) (w : ℕ) (s : Digits) (ns : List ℕ) : Type 0 where
  pub stands : StandsIn d ns
  pub width : length ns ≤ w + 2
  pub digits : digits_of d ns ≡ s

-- all four
abbrev pub AreRaw : Diagram → ℕ → Coordinates → Four → Type 0
AreRaw d w r f = (z : Coord) → IsRaw d w (r z) (nodes_of f z)

-- the matrix is 1 and the j-th power of ω on the diagonal, with no factor 1/√2, and the node h is true where the power is taken
pub record IsDiagonal (d : Diagram) (t : Target) (j h : ℕ) (q : Four) (zs : List ℕ) : Type 0 where
  pub rooted : t.rooted ≡ false
  pub low_low : t.low_low ≡ Omega 0
  pub low_high : t.low_high ≡ Zero
  pub high_low : t.high_low ≡ Zero
  pub high_high : t.high_high ≡ Omega j
  pub small : j ≤ 7
  pub here : Denotes d h (where_negated (mix_of t) false true)
  pub whole : AreIntegers d (length q.a) q
  pub some : 1 ≤ length q.a
  pub few : length q.a ≤ 128
  pub zero : IsZeroFor d q zs

-- the matrix of X
pub record IsFlip (t : Target) : Type 0 where
  pub rooted : t.rooted ≡ false
  pub low_low : t.low_low ≡ Zero
  pub low_high : t.low_high ≡ Omega 0
  pub high_low : t.high_low ≡ Omega 0
  pub high_high : t.high_high ≡ Zero

-- the unit matrix
pub record IsUnit (t : Target) : Type 0 where
  pub rooted : t.rooted ≡ false
  pub low_low : t.low_low ≡ Omega 0
  pub low_high : t.low_high ≡ Zero
  pub high_low : t.high_low ≡ Zero
  pub high_high : t.high_high ≡ Omega 0

-- what a flip of the target takes
pub record IsFlippable (d : Diagram) (g : Gate) (q : Four) : Type 0 where
  pub nodes : AreItsNodes d g
  pub whole : AreIntegers d (length q.a) q
  pub some : 1 ≤ length q.a
  pub within : g.target.target < length d.order
  pub flip : IsFlip g.target

-- what it takes to fix the target
pub record IsFixable (d : Diagram) (t : Target) (q : Four) : Type 0 where
  pub whole : AreIntegers d (length q.a) q
  pub within : t.target < length d.order

-- a coordinate is raw's
abbrev pub GivesRaw : Target → Four → Gives
GivesRaw t q u z w ns = IsRaw w (length q.a) (raw (mix_of t) (digits_in u q) z) ns

-- a coordinate is its first or second term, without the sign
abbrev pub GivesUnsigned : Target → Four → Bool → Gives
GivesUnsigned t q s u z w ns = IsOf w (length q.a) (term (mix_of t) (digits_in u q) z s) ns

-- a coordinate is its first or second term, with the sign
abbrev pub GivesTerm : Target → Four → Bool → Gives
GivesTerm t q s u z w ns = IsOf w (length q.a + 1) (signed_term (mix_of t) (digits_in u q) z s) ns

-- a coordinate has the variable v fixed to b
abbrev pub GivesFixed : ℕ → Bool → Four → Gives
GivesFixed v b q u z w ns = IsOf w (length q.a) (fixed v b (digits_in u q z)) ns
