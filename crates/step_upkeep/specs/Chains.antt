-- Products that are kept as integers over decision diagrams: the functions that a gate works with, and when it may be accepted or refused.
use Rattle.std.specs.Prelude.{◌≡◌, ◌≤◌, ℕ, true, false, List, ◌∷◌, length, Result, IfErr, OnOk, OnErr}
use Rattle.amp_dense.specs.Chains.{StandingOf, PolicyOf, in_order, with_gate, AcceptsWhere, AppliesWhere, MayStop, NamesOrder, Reorders}
use Rattle.amp_dense.specs.declared.stop.Stop.{Stop}
use Rattle.diagram_model.specs.Functions.{Function}
use Rattle.diagram_model.specs.Size.{size}
use Rattle.diagram_model.specs.Stores.{Diagram}
use Rattle.diagram_ops.specs.Made.{Property, IsPrefixOfSome}
use Rattle.node_reclaim.specs.Reclaims.{HoldsOnly}
use Rattle.slice_quad.specs.Bits.{bits_of}
use Rattle.slice_quad.specs.Mix.{Vector, Coordinates}
use Rattle.step_upkeep.specs.Due.{is_due, IsInForce, IsLeft}
use Rattle.step_upkeep.specs.Stored.{stored_functions}

-- a kind of products, by its input: the function that is kept beside a product, its entries after these gates by the values of the variables, and the
-- functions that a gate works with on coordinates of so many bits
pub record Chain (X G : Type 0) : Type 0 where
  pub kept : X → Function
  pub entries : X → List G → Vector
  pub functions : X → G → ℕ → Coordinates → List Function

-- the work functions of a gate, with coefficients as wide as the rules let them be: where they are narrower, the bits more are the sign again, which
-- adds no function
abbrev pub work_of : {X G : Type 0} → Chain X G → StandingOf X G → G → List Function
work_of c s g = c.kept s.input ∷ c.functions s.input g s.rules.width (bits_of (c.entries s.input s.gates))

-- a function that arises from one of those, by fixing a prefix of the order in force
abbrev pub InWork : {X G : Type 0} → Chain X G → StandingOf X G → G → Property
InWork c s g = IsPrefixOfSome s.order (work_of c s g)

-- the functions that the product is stored by
abbrev pub stored_of : {X G : Type 0} → Chain X G → StandingOf X G → List Function
stored_of c s = stored_functions s.rules.width (c.kept s.input) (c.entries s.input s.gates)

-- how many nodes functions need in the order in force
abbrev pub needed : {X G : Type 0} → StandingOf X G → List Function → ℕ
needed s fs = size (length s.order) s.order fs

-- the order in force at the next gate: where a sift is due, the one that sifting all variables leads to, for the functions that the product is stored by
abbrev pub IsNextOrder : {X G : Type 0} → Chain X G → StandingOf X G → List ℕ → Type 0
IsNextOrder c s order = IsInForce s.rules.sift (length s.gates) (stored_of c s) s.rules.nodes s.order order

-- the order where memory ran out: it may be any order of the variables where a sift was due
abbrev pub MayLeave : {X G : Type 0} → StandingOf X G → List ℕ → Type 0
MayLeave s order = IsLeft s.rules.sift (length s.gates) s.order order

-- Integers over diagrams change the order by sifting alone. A gate may be refused for want of nodes where its work functions alone need as many as
-- the rules let the diagrams hold, and accepted where they may hold as many as the product is stored by afterwards.
abbrev pub policy_of : {X G : Type 0} → Chain X G → PolicyOf X G
policy_of c = record {
  next_order = IsNextOrder c;
  may_refuse = λ s g. s.rules.nodes ≤ needed s (work_of c s g);
  may_accept = λ s g. needed s (stored_of c (with_gate s g)) ≤ s.rules.nodes;
}

-- What a gate does to a product, of which its diagrams hold d afterwards: it is accepted, or the product stands as before, but for the order. Where a reclaim
-- was due and no sift, no other nodes are held after a gate that is accepted than those of its work functions.
pub record Proceeds {X G : Type 0} (c : Chain X G) (Fits : ℕ → X → List G → G → Type 0) (s : StandingOf X G) (g : G) (answer : Result (Unit {0}) Stop) (t : StandingOf X G) (d : Diagram) : Type 0 where
  pub accepts : OnOk answer (AcceptsWhere Fits (policy_of c) s g t)
  pub stops : IfErr answer (MayStop (AppliesWhere Fits (policy_of c) s g))
  pub in_force : IfErr answer (NamesOrder t.order)
  pub refused : OnErr answer (t ≡ in_order s t.order)
  pub order : Reorders (policy_of c) MayLeave s answer t.order
  pub after_reclaim : is_due s.rules.reclaim (length s.gates) ≡ true → is_due s.rules.sift (length s.gates) ≡ false → OnOk answer (HoldsOnly d (InWork c s g))
