-- Where each gate, or each step, has nodes, none stops for want of them; and each has where as many are allowed as are always enough.
use Rattle.std.proofs.Common.{◌≡◌, inl, inr, ℕ, ◌+◌, ◌*◌, ◌<◌, ◌≤◌, Bool, List, [], ◌∷◌, length, Err, All, refl, sym, ◌∙◌, subst, arith}
use Rattle.std.specs.List.{range_with_len}
use Rattle.std.proofs.lemmas.Bool.{cases_lt}
use Rattle.std.proofs.lemmas.List.Elements.{All-nil, All-head, All-tail}
use Rattle.std.proofs.lemmas.List.FromFn.{length-range_with_len}
use Rattle.bit_lists.specs.Orders.{IsOrder}
use Rattle.bit_lists.proofs.Variables.{natural_is_order}
use Rattle.gate_set.specs.declared.gate.Gate.{Gate}
use Rattle.gate_set.specs.Shape.{IsOn}
use Rattle.comparison.specs.Products.{Step, RawStepFits, gate_of}
use Rattle.comparison.proofs.Undo.{heads}
use Rattle.phases.specs.Phases.{Through}
use Rattle.amp_dense.specs.Rules.{Settings}
use Rattle.amp_dense.specs.Standing.{Standing, FitsAfter, begun, in_order, with_gate, Accepts, Applies, Walks}
use Rattle.amp_dense.specs.Chains.{StandingOf, AppliesWhere}
use Rattle.amp_dense.specs.declared.stop.Stop.{Stop}
use Rattle.amp_dense.specs.declared.stop.Stop.TheVariants as stops
use Rattle.step_upkeep.specs.Chains.{Chain, needed, policy_of, work_of}
use Rattle.step_upkeep.proofs.Orders.{is_next_order}
use Rattle.state_update.specs.Kept.{sliced_policy, vector_chain}
use Rattle.state_update.proofs.Enough.{enough}
use Rattle.unitary_update.specs.Kept as matrix
use Rattle.unitary_update.proofs.Enough as matrix_nodes
use Rattle.unitary_update.proofs.Chains.{only_width}
use Rattle.causes.specs.Stops.{cause_of}
use Rattle.run_laws.specs.Laws.{AreEnough, EachHas, HasNodes, GatesHaveNodes, StepsHaveNodes}
use Rattle.run_laws.proofs.Lawful.{StopsBy, IsOther, by_both, each_stops}

not_both : (m n : ℕ) → m < n → n ≤ m → ⊥
not_both m n less more = omega (arith, less, more)

fewer : (m n : ℕ) → ¬ (n ≤ m) → m < n
fewer m n none = elim (cases_lt m n) [ inl less ↦ less | inr more ↦ absurd (none more) ]

-- ---- gates
-- a stop that is no want of nodes, nor of memory
abbrev pub IsOtherStop : Stop → Type 0
IsOtherStop stop = IsOther (cause_of stop)

gate_stops : {X G : Type 0} (c : Chain X G) (Fits : ℕ → X → List G → G → Type 0) (s : StandingOf X G) (g : G) → HasNodes c s g → StopsBy IsOtherStop (AppliesWhere Fits (policy_of c) s g)
gate_stops c Fits s g has (stops.Width number) h = tt
gate_stops c Fits s g has (stops.Nodes number order held) h = not_both (needed (in_order s order) (work_of c s g)) s.rules.nodes (has order h.1.reordered) h.1.allowed
gate_stops c Fits s g has stops.OutOfMemory h = h

pub walk_stops : (rules : Settings) (input : List Bool) (gates : List Gate) → GatesHaveNodes rules input gates → StopsBy IsOtherStop (Walks sliced_policy (begun input rules) gates)
walk_stops rules input gates = each_stops IsOtherStop (HasNodes vector_chain) (Applies sliced_policy) (gate_stops vector_chain FitsAfter) (begun input rules) gates

-- ---- steps
pub multiplies_stops : (rules : Settings) (n : ℕ) (steps : List Step) → 3 * n ≤ rules.nodes → StepsHaveNodes rules n steps → StopsBy IsOtherStop (matrix.Multiplies rules n steps)
multiplies_stops rules n steps room has =
    by_both IsOtherStop (matrix.Starts rules n) (λ _. Through matrix.Applies (matrix.begun n rules) steps) (λ cause lacks. absurd (not_both rules.nodes (3 * n) lacks.0 room))
    (λ _ _. each_stops IsOtherStop (HasNodes matrix.matrix_chain) matrix.Applies (gate_stops matrix.matrix_chain RawStepFits) (matrix.begun n rules) steps has)

-- ---- enough nodes
-- what each gate finds: rules with enough nodes, and an order of as many variables as qubits
record IsRoomy (s : Standing) : Type 0 where
  nodes : AreEnough s.rules (length s.input)
  order : IsOrder s.order
  variables : length s.order ≡ length s.input

roomy_begun : (input : List Bool) (rules : Settings) → AreEnough rules (length input) → IsRoomy (begun input rules)
roomy_begun input rules limit = record { nodes = limit; order = natural_is_order (length input); variables = length-range_with_len 0 (length input) }

roomy_next : (s : Standing) (g : Gate) (t : Standing) → IsRoomy s → Accepts sliced_policy s g t → IsRoomy t
roomy_next s g t room a = subst IsRoomy (sym a.same) next
  where
    is : IsOrder t.order × (length t.order ≡ length s.order)
    is = is_next_order vector_chain s t.order room.order a.order

    next : IsRoomy (with_gate (in_order s t.order) g)
    next = record { nodes = room.nodes; order = is.0; variables = is.1 ∙ room.variables }

gate_finds : (s : Standing) (g : Gate) → IsRoomy s → IsOn (length s.input) g → HasNodes vector_chain s g
gate_finds s g room on order is =
    fewer (needed (in_order s order) (work_of vector_chain s g)) s.rules.nodes (enough (in_order s order) g on ((is_next_order vector_chain s order room.order is).1 ∙ room.variables) room.nodes)

-- gates in a row
gates_from : (s : Standing) (gates : List Gate) → IsRoomy s → All (IsOn (length s.input)) gates → EachHas (HasNodes vector_chain) (Applies sliced_policy) s gates
gates_from s [] room on = tt
gates_from s (g ∷ gates) room on =
    let both = heads (length s.input) g gates on in
    (gate_finds s g room both.0, λ t a. gates_from t gates (roomy_next s g t room a) (subst (λ (u : Standing). All (IsOn (length u.input)) gates) (sym a.same) both.1))

pub gates_find : (rules : Settings) (input : List Bool) (gates : List Gate) → All (IsOn (length input)) gates → AreEnough rules (length input) → GatesHaveNodes rules input gates
gates_find rules input gates on limit = gates_from (begun input rules) gates (roomy_begun input rules limit) on

-- the same of a step
record HasRoom (s : matrix.Standing) : Type 0 where
  order : IsOrder s.order
  variables : length s.order ≡ 2 * s.input
  nodes : AreEnough s.rules (2 * s.input)

room_next : (s : matrix.Standing) (t : Step) (r : matrix.Standing) → HasRoom s → matrix.Accepts s t r → HasRoom r
room_next s t r room a =
    let is = is_next_order matrix.matrix_chain s r.order room.order a.order in
    subst HasRoom (sym a.same) (record { order = is.0; variables = is.1 ∙ room.variables; nodes = room.nodes })

step_finds : (s : matrix.Standing) (t : Step) → HasRoom s → IsOn s.input (gate_of t) → HasNodes matrix.matrix_chain s t
step_finds s t room on order is =
    fewer (needed (in_order s order) (work_of matrix.matrix_chain s t)) s.rules.nodes
    (λ more. matrix_nodes.enough s t on room.order room.variables room.nodes (length s.gates + 1) order s.rules.nodes (refl, record { reordered = is; allowed = more; full = refl }))

steps_from : (s : matrix.Standing) (steps : List Step) → HasRoom s → All (λ t. IsOn s.input (gate_of t)) steps → EachHas (HasNodes matrix.matrix_chain) matrix.Applies s steps
steps_from s [] room on = tt
steps_from s (t ∷ steps) room on =
    let here = All-head (λ u. IsOn s.input (gate_of u)) t steps on in
    let rest = All-tail (λ u. IsOn s.input (gate_of u)) t steps on in
    (step_finds s t room here, λ r a. steps_from r steps (room_next s t r room a) (subst (λ (v : matrix.Standing). All (λ u. IsOn v.input (gate_of u)) steps) (sym a.same) rest))

-- the identity has its nodes too
module _ (rules : Settings) (n : ℕ) (limit : AreEnough rules (2 * n)) where
  identity_finds : 3 * n ≤ rules.nodes
  identity_finds = elim (cases_lt rules.nodes (3 * n)) [ inl few ↦ absurd (lacking few) | inr room ↦ room ]
    where
      lacking : rules.nodes < 3 * n → ⊥
      lacking few =
          let stop : Stop = stops.Nodes 0 (range_with_len 0 (2 * n)) rules.nodes in
          only_width rules n [] (All-nil (λ t. IsOn n (gate_of t))) limit stop (Err stop, (few, refl), refl)

  begins : HasRoom (matrix.begun n rules)
  begins = record { order = natural_is_order (2 * n); variables = length-range_with_len 0 (2 * n); nodes = limit }

  all_find : (steps : List Step) → All (λ t. IsOn n (gate_of t)) steps → (3 * n ≤ rules.nodes) × StepsHaveNodes rules n steps
  all_find steps on = (identity_finds, steps_from (matrix.begun n rules) steps begins on)

pub steps_find : (rules : Settings) (n : ℕ) (steps : List Step) → All (λ t. IsOn n (gate_of t)) steps → AreEnough rules (2 * n)
    → (3 * n ≤ rules.nodes) × StepsHaveNodes rules n steps
steps_find rules n steps on limit = all_find rules n limit steps on
