-- What contracts see of a state that is kept as integers over decision diagrams, and how they keep it.
use Rattle.std.specs.Prelude.{◌≡◌, ◌≤◌, Bool, false, List, length, All}
use Rattle.gate_set.specs.declared.gate.Gate.{Gate}
use Rattle.gate_set.specs.Shape.{IsOn}
use Rattle.circuit_model.specs.Working.{work}
use Rattle.amp_dense.specs.Rules.{Settings}
use Rattle.amp_dense.specs.Standing.{Standing, Policy}
use Rattle.diagram_ops.specs.Diagrams.{StoreAndCache, IsConsistent}
use Rattle.slice_quad.specs.declared.quad.SliceQuad.{SliceQuad}
use Rattle.slice_quad.specs.Vectors.{Stands}
use Rattle.slice_gates.specs.declared.side.Side.TheVariants.{State as OnState}
use Rattle.slice_gates.specs.GateWork.{functions_on}
use Rattle.slice_gates.specs.Shown.{Shows, by_values}
use Rattle.step_upkeep.specs.Chains.{Chain, policy_of}

-- the input, the rules, the gates accepted so far, and the diagrams with the integers
pub record State : Type 0 where
  pub input : List Bool
  pub rules : Settings
  pub gates : List Gate
  pub diagrams : StoreAndCache
  pub quad : SliceQuad

-- what the state stands by
abbrev pub standing_of : State → Standing
standing_of s = record { input = s.input; rules = s.rules; gates = s.gates; order = s.diagrams.store.order }

-- the integers are the working vector of the accepted gates, over a variable for each qubit
pub record IsKept (s : State) : Type 0 where
  pub few_qubits : length s.input ≤ 64
  pub few_gates : length s.gates ≤ 2000000
  pub within : All (IsOn (length s.input)) s.gates
  pub sound : IsConsistent s.diagrams
  pub variables : length s.diagrams.store.order ≡ length s.input
  pub limit : s.diagrams.store.limit ≡ s.rules.nodes
  pub capacity : s.diagrams.cache.capacity ≡ s.rules.cache
  pub stands : Stands s.diagrams.store s.quad
  pub shows : Shows s.diagrams.store s.quad (work s.gates s.input)
  pub small : s.quad.exponent ≤ length s.gates
  pub narrow : length s.quad.four.a ≤ s.rules.width
  pub kept : s.quad.kept.0 ≡ 0

-- ---- gates
-- the working vector over the variables, beside which no function is kept
abbrev pub vector_chain : Chain (List Bool) Gate
vector_chain = record { kept = λ input x. false; entries = λ input gates. by_values (length input) (work gates input).entries; functions = λ input. functions_on (length input) OnState }

-- integers over diagrams
abbrev pub sliced_policy : Policy
sliced_policy = policy_of vector_chain
