-- Words of the laws.
use Rattle.std.specs.Prelude.{◌≡◌, ◌↔◌, ◌<◌, ◌≤◌, ℕ, ◌+◌, ◌*◌, ◌^◌, Bool, List, [], ◌∷◌, map, length, get_or, Option, Some, None, Result, Ok, Err}
use Rattle.std.specs.List.{AllByRecursion}
use Rattle.ring_omega.specs.Lowest.{lowest_form}
use Rattle.gate_set.specs.declared.gate.Gate.{Gate}
use Rattle.gate_set.specs.Circuits.{Circuit}
use Rattle.circuit_model.specs.Product.{exponent}
use Rattle.amp_printer.specs.declared.verdict.Verdict.TheVariants as verdicts
use Rattle.amp_printer.specs.Verdicts.{verdict_text}
use Rattle.comparison.specs.Scalars.{comparison, compared, corner, IsFirstDiffering}
use Rattle.comparison.specs.Products.{Step}
use Rattle.outside.specs.Memory.{Shelved, text_of}
use Rattle.phases.specs.Phases.{Phase}
use Rattle.amp_dense.specs.Rules.{Settings}
use Rattle.amp_dense.specs.Chains.{StandingOf, in_order}
use Rattle.amp_dense.specs.Standing.{begun, Applies}
use Rattle.step_upkeep.specs.Chains.{Chain, IsNextOrder, needed, work_of}
use Rattle.state_update.specs.Kept.{sliced_policy, vector_chain}
use Rattle.unitary_update.specs.Kept as matrix
use Rattle.qasm_reader.specs.Reading.{ReadsAs, circuit}
use Rattle.sliq_words.specs.declared.reading.Task.{Task}
use Rattle.sliq_words.specs.declared.reading.Task.TheVariants as task
use Rattle.sliq_words.specs.Asked.{Request, InRange}
use Rattle.causes.specs.declared.cause.Cause.{Cause}
use Rattle.causes.specs.declared.cause.Cause.TheVariants.{ReadFault, Nodes}
use Rattle.sliq_engine.specs.Steps.{Output}

-- the stops that come of words and texts; a fault of the shelf is none of them
abbrev pub IsNoFault : Cause → Type 0
IsNoFault ReadFault = ⊥
IsNoFault _ = Unit {0}

-- the stops that words and texts decide, of a task; a want of nodes at a gate or a step, which may come or not, is none of them. That of the identity at the start of a comparison has the number 0
abbrev pub IsSure : Task → Cause → Type 0
IsSure it (Nodes step order held) = step ≡ 0
IsSure it cause = IsNoFault cause

-- those of the task that words ask for
abbrev pub IsSureOf : Option Request → Cause → Type 0
IsSureOf (Some asked) = IsSure asked.task
IsSureOf None = IsNoFault

-- no end of this is a want of nodes
abbrev pub NeverLacksNodes : Phase Output Cause → Type 0
NeverLacksNodes phase = (step : ℕ) (order : List ℕ) (held : ℕ) → ¬ phase (Err (Nodes step order held))

-- as many nodes are allowed as n variables need at most
abbrev pub AreEnough : Settings → ℕ → Type 0
AreEnough rules n = (64 * (rules.width + 2) + 130) * 2 ^ n ≤ rules.nodes

-- as many as a task on these texts needs at most: `eq` and `fidelity` have two variables for each qubit of their first text
abbrev pub HasEnough : Task → Settings → List (List ℕ) → Type 0
HasEnough (task.Demo qubits gates seed) rules texts = InRange (task.Demo qubits gates seed) × AreEnough rules qubits
HasEnough task.Eq rules texts = (u : Circuit) → ReadsAs (get_or texts 0 []) 64 (circuit u) → AreEnough rules (2 * u.qubits)
HasEnough task.Fidelity rules texts = (u : Circuit) → ReadsAs (get_or texts 0 []) 64 (circuit u) → AreEnough rules (2 * u.qubits)
HasEnough _ rules texts = (c : Circuit) → ReadsAs (get_or texts 0 []) 64 (circuit c) → AreEnough rules c.qubits

-- each item has what it needs, on what the items before it hand on
abbrev pub EachHas : {X G C : Type 0} → (X → G → Type 0) → (X → G → Phase X C) → X → List G → Type 0
EachHas Needs phase x [] = Unit {0}
EachHas {X = X} Needs phase x (g ∷ gs) = Needs x g × ((y : X) → phase x g (Ok y) → EachHas Needs phase y gs)

-- the work functions of a gate, or of a step of a comparison, need fewer nodes than the rules allow, in the order in force at it
abbrev pub HasNodes : {X G : Type 0} → Chain X G → StandingOf X G → G → Type 0
HasNodes c s g = (order : List ℕ) → IsNextOrder c s order → needed (in_order s order) (work_of c s g) < s.rules.nodes

-- so it is with each of these gates, one after the other, on a basis state
abbrev pub GatesHaveNodes : Settings → List Bool → List Gate → Type 0
GatesHaveNodes rules input = EachHas (HasNodes vector_chain) (Applies sliced_policy) (begun input rules)

-- and with each of these steps on the identity
abbrev pub StepsHaveNodes : Settings → ℕ → List Step → Type 0
StepsHaveNodes rules n = EachHas (HasNodes matrix.matrix_chain) matrix.Applies (matrix.begun n rules)

-- it comes to this output, and to nothing else
abbrev pub ComesTo : Phase Output Cause → Output → Type 0
ComesTo phase output = (end : Result Output Cause) → phase end ↔ (end ≡ Ok output)

-- a shelf in memory has these texts under these names, none longer than a text may be
pub record HasTexts (shelf : Shelved) (names texts : List (List ℕ)) : Type 0 where
  pub told : map (text_of shelf) names ≡ map (λ t. Some t) texts
  pub short : AllByRecursion (λ t. length t ≤ 16777216) texts

-- the output tells the first position at which U·V† isn't its corner times the identity, the entry there and the corner in lowest terms
pub record TellsFirst (u v : Circuit) (output : Output) : Type 0 where
  pub row : List Bool
  pub col : List Bool
  pub first : IsFirstDiffering u.qubits (compared u.gates v.gates) row col
  pub bytes : output.bytes ≡ verdict_text (verdicts.Differs row col
      (lowest_form (compared u.gates v.gates row col) (exponent (comparison u.gates v.gates)))
      (lowest_form (corner u.qubits (compared u.gates v.gates)) (exponent (comparison u.gates v.gates))))
