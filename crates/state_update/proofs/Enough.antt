-- How many nodes are always enough for a gate.
use Rattle.std.proofs.Common.{◌≡◌, ℕ, ◌+◌, ◌*◌, ◌^◌, ◌≤◌, false, length}
use Rattle.gate_set.specs.declared.gate.Gate.{Gate}
use Rattle.gate_set.specs.Shape.{IsOn}
use Rattle.amp_dense.specs.Standing.{Standing, vector}
use Rattle.slice_gates.specs.declared.side.Side.TheVariants.{State}
use Rattle.slice_gates.specs.Shown.{by_values}
use Rattle.step_upkeep.specs.Chains.{work_of}
use Rattle.step_upkeep.proofs.Enough.{work_few, enough_nodes}
use Rattle.state_update.specs.Kept.{sliced_policy, vector_chain}

-- under such a limit no gate is refused for want of nodes, since it has few work functions
pub enough : (s : Standing) (g : Gate) → IsOn (length s.input) g → length s.order ≡ length s.input → (64 * (s.rules.width + 2) + 130) * 2 ^ length s.input ≤ s.rules.nodes → ¬ sliced_policy.may_refuse s g
enough s g on long limit =
    let few = work_few (length s.input) s.rules.width State (λ x. false) g (by_values (length s.input) (vector s).entries) on.placed in
    enough_nodes s.rules.width (length s.input) s.rules.nodes s.order (work_of vector_chain s g) few long limit
