-- What contracts see of a matrix that is kept as integers over decision diagrams, how it goes on, step by step, and how they keep it.
use Rattle.std.specs.Prelude.{◌≡◌, ◌≤◌, ◌<◌, ℕ, ◌*◌, List, [], length, Result}
use Rattle.std.specs.List.{range_with_len}
use Rattle.circuit_model.specs.Working.{Scaled}
use Rattle.comparison.specs.Scalars.{Matrix}
use Rattle.comparison.specs.Products.{Step, by_position, work_matrix, RawStepFits}
use Rattle.comparison.specs.Products.Step.{left, right}
use Rattle.amp_dense.specs.Chains.{StandingOf, AcceptsWhere, AppliesWhere}
use Rattle.amp_dense.specs.declared.stop.Stop.{Stop}
use Rattle.amp_dense.specs.declared.stop.Stop.TheVariants.{Nodes}
use Rattle.amp_dense.specs.Rules.{Settings}
use Rattle.diagram_model.specs.Functions.{Function}
use Rattle.diagram_model.specs.Stores.{Diagram}
use Rattle.diagram_ops.specs.Diagrams.{StoreAndCache, IsConsistent}
use Rattle.slice_quad.specs.declared.kind.Step.{Step as SlicedStep}
use Rattle.slice_quad.specs.declared.quad.SliceQuad.{SliceQuad}
use Rattle.slice_quad.specs.Mix.{Vector, Coordinates}
use Rattle.slice_quad.specs.RowsColumns.{row_equals_column, KeepsRowEqualsColumn}
use Rattle.slice_quad.specs.Vectors.{Stands}
use Rattle.slice_gates.specs.declared.side.Side.TheVariants.{Rows, Columns}
use Rattle.slice_gates.specs.GateWork.{functions_on}
use Rattle.slice_gates.specs.Shown.{first_values, IsMatrixShown}
use Rattle.slice_gates.specs.Sides.{place_on}
use Rattle.slice_gates.specs.Stepped.{step_for}
use Rattle.phases.specs.Phases.{Phase, ◌>>◌, StopsWhere, Through}
use Rattle.step_upkeep.specs.Chains.{Chain, Proceeds, policy_of}
use Rattle.unitary_update.specs.declared.accepted.MatrixStep.{MatrixStep}
use Rattle.unitary_update.specs.declared.accepted.MatrixStep.TheVariants.{Left, Right}

-- the step that is meant
abbrev pub step_in : MatrixStep → Step
step_in (Left g) = left g
step_in (Right g) = right g

-- the functions that it works with: a step from the left acts on the variables of the rows, and one from the right, transposed, on those of the columns
abbrev pub functions_by : ℕ → Step → ℕ → Coordinates → List Function
functions_by n (left g) = functions_on (2 * n) Rows g
functions_by n (right g) = functions_on (2 * n) Columns g

-- the step on variables that it is
abbrev pub sliced_step : ℕ → Step → SlicedStep
sliced_step n (left g) = step_for (2 * n) Rows g
sliced_step n (right g) = step_for (2 * n) Columns g

-- the integers are the working matrix w on n qubits
abbrev pub ShowsMatrix : ℕ → Diagram → SliceQuad → Scaled → Type 0
ShowsMatrix n d q w = IsMatrixShown n d q.four q.exponent w

-- ---- steps
-- a matrix on n qubits, by the values of 2n variables: bit q of the row is variable 2q, and bit q of the column is variable 2q + 1
unfoldable pub by_variables : ℕ → Matrix → Vector
by_variables n m x = m (first_values n (λ q. x (place_on Rows q))) (first_values n (λ q. x (place_on Columns q)))

-- the working matrix over the variables, beside "row equals column"
abbrev pub matrix_chain : Chain ℕ Step
matrix_chain = record { kept = row_equals_column; entries = λ n steps. by_variables n (by_position (work_matrix n steps).entries); functions = functions_by }

-- what a matrix stands by: the number of qubits, the rules, the steps accepted so far, and the order of variables in force
abbrev pub Standing : Type 0
Standing = StandingOf ℕ Step

-- no step was accepted yet, and the order is the natural one
abbrev pub begun : ℕ → Settings → Standing
begun n rules = record { input = n; rules = rules; gates = []; order = range_with_len 0 (2 * n) }

-- a step is accepted, or comes
abbrev pub Accepts : Standing → Step → Standing → Type 0
Accepts s t r = AcceptsWhere RawStepFits (policy_of matrix_chain) s t r

abbrev pub Applies : Standing → Step → Phase Standing Stop
Applies = AppliesWhere RawStepFits (policy_of matrix_chain)

-- the identity takes three nodes a qubit, and stops exactly where these are more than the rules allow
abbrev pub Starts : Settings → ℕ → Phase (Unit {0}) Stop
Starts rules n = StopsWhere (rules.nodes < 3 * n) (Nodes 0 (range_with_len 0 (2 * n)) rules.nodes)

-- the identity is multiplied by one step after the other
abbrev pub Multiplies : Settings → ℕ → List Step → Phase Standing Stop
Multiplies rules n steps = do
  Starts rules n
  Through Applies (begun n rules) steps

-- ---- a kept matrix
-- the number of qubits, the rules, the steps accepted so far, and the diagrams with the integers
pub record State : Type 0 where
  pub qubits : ℕ
  pub rules : Settings
  pub steps : List Step
  pub diagrams : StoreAndCache
  pub quad : SliceQuad

-- what the matrix stands by
abbrev pub standing_of : State → Standing
standing_of m = record { input = m.qubits; rules = m.rules; gates = m.steps; order = m.diagrams.store.order }

-- a step's answer
abbrev pub Steps : State → Step → Result (Unit {0}) Stop → State → Type 0
Steps old t answer new = Proceeds matrix_chain RawStepFits (standing_of old) t answer (standing_of new) new.diagrams.store

-- the integers are the working matrix of the accepted steps, over two variables for each qubit, beside "row equals column"
pub record IsKept (m : State) : Type 0 where
  pub few_qubits : m.qubits ≤ 64
  pub few_steps : length m.steps ≤ 2000000
  pub sound : IsConsistent m.diagrams
  pub variables : length m.diagrams.store.order ≡ 2 * m.qubits
  pub limit : m.diagrams.store.limit ≡ m.rules.nodes
  pub capacity : m.diagrams.cache.capacity ≡ m.rules.cache
  pub stands : Stands m.diagrams.store m.quad
  pub shows : ShowsMatrix m.qubits m.diagrams.store m.quad (work_matrix m.qubits m.steps)
  pub small : m.quad.exponent ≤ length m.steps
  pub narrow : length m.quad.four.a ≤ m.rules.width
  pub kept : KeepsRowEqualsColumn m.qubits m.diagrams.store m.quad
