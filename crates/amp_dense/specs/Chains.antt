-- How a product goes on, gate by gate: of gates on a basis state, or of gates from both sides on a matrix.
use Rattle.std.specs.Prelude.{◌≡◌, ℕ, ◌+◌, List, [], ◌∷◌, ◌++◌, length, Result, Ok, Err}
use Rattle.phases.specs.Phases.{Phase}
use Rattle.amp_dense.specs.Rules.{Settings}
use Rattle.amp_dense.specs.declared.stop.Stop.{Stop}
use Rattle.amp_dense.specs.declared.stop.Stop.TheVariants.{Width, Nodes, OutOfMemory}

-- what a product stands by: its input (a basis state, or of how many qubits a matrix is), the rules, the gates accepted so far (those of a matrix with
-- their sides), and the order of variables in force
pub record StandingOf (X G : Type 0) : Type 0 where
  pub input : X
  pub rules : Settings
  pub gates : List G
  pub order : List ℕ

abbrev pub in_order : {X G : Type 0} → StandingOf X G → List ℕ → StandingOf X G
in_order s order = record { input = s.input; rules = s.rules; gates = s.gates; order = order }

abbrev pub with_gate : {X G : Type 0} → StandingOf X G → G → StandingOf X G
with_gate s g = record { input = s.input; rules = s.rules; gates = s.gates ++ g ∷ []; order = s.order }

-- what a way of keeping products allows where a gate comes: which order may be in force at it; and then, in that order, that the gate is refused for
-- want of nodes, or that it is accepted
pub record PolicyOf (X G : Type 0) : Type 1 where
  pub next_order : StandingOf X G → List ℕ → Type 0
  pub may_refuse : StandingOf X G → G → Type 0
  pub may_accept : StandingOf X G → G → Type 0

-- the order after an answer: the one in force at the gate, and where memory ran out one that may then be left
abbrev pub Reorders : {X G : Type 0} → PolicyOf X G → (StandingOf X G → List ℕ → Type 0) → StandingOf X G → Result (Unit {0}) Stop → List ℕ → Type 0
Reorders policy may_leave s (Err OutOfMemory) order = may_leave s order
Reorders policy may_leave s _ order = policy.next_order s order

-- the gate is accepted, and then the product stands by t; whether the product fits the width before any halving is said by Fits, of the width, the input, the gates before and the gate
pub record AcceptsWhere {X G : Type 0} (Fits : ℕ → X → List G → G → Type 0) (policy : PolicyOf X G) (s : StandingOf X G) (g : G) (t : StandingOf X G) : Type 0 where
  pub fits : Fits s.rules.width s.input s.gates g
  pub order : policy.next_order s t.order
  pub allowed : policy.may_accept (in_order s t.order) g
  pub same : t ≡ with_gate (in_order s t.order) g

-- there are too few nodes for the gate, in this order
pub record LacksNodes {X G : Type 0} (policy : PolicyOf X G) (s : StandingOf X G) (g : G) (order : List ℕ) (held : ℕ) : Type 0 where
  pub reordered : policy.next_order s order
  pub allowed : policy.may_refuse (in_order s order) g
  pub full : held ≡ s.rules.nodes

-- a gate comes; a stop has its number, counted from 1
abbrev pub AppliesWhere : {X G : Type 0} → (ℕ → X → List G → G → Type 0) → PolicyOf X G → StandingOf X G → G → Phase (StandingOf X G) Stop
AppliesWhere Fits policy s g (Ok t) = AcceptsWhere Fits policy s g t
AppliesWhere Fits policy s g (Err (Width number)) = (number ≡ length s.gates + 1) × ¬ Fits s.rules.width s.input s.gates g
AppliesWhere Fits policy s g (Err (Nodes number order held)) = (number ≡ length s.gates + 1) × LacksNodes policy s g order held
AppliesWhere Fits policy s g (Err OutOfMemory) = ⊥

-- the stop is one of the phase, or memory was wanted
abbrev pub MayStop : {X : Type 0} → Phase X Stop → Stop → Type 0
MayStop phase OutOfMemory = Unit {0}
MayStop phase stop = phase (Err stop)

-- the order that is named, if one is, is this one
abbrev pub NamesOrder : List ℕ → Stop → Type 0
NamesOrder order (Nodes number named held) = named ≡ order
NamesOrder order _ = Unit {0}
