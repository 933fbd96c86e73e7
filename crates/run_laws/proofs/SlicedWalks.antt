-- Gates in a row on integers over diagrams come to one end, and to some end.
use Rattle.std.proofs.Common.{◌≡◌, ◌≤◌, ◌+◌, ◌-◌, ℕ, List, Bool, All, length, sym, subst, arith}
use Rattle.bit_lists.specs.Orders.{IsOrder}
use Rattle.bit_lists.proofs.Variables.{natural_is_order}
use Rattle.gate_set.specs.declared.gate.Gate.{Gate}
use Rattle.gate_set.specs.Shape.{IsOn}
use Rattle.circuit_model.specs.Working.{FitsWidth, raw}
use Rattle.circuit_model.proofs.FitLemmas.{fits_or_not}
use Rattle.phases.specs.Phases.{HasOneEnd, HasSomeEnd}
use Rattle.phases.proofs.Ends.{one_told, some_told}
use Rattle.amp_dense.specs.Rules.{Settings}
use Rattle.amp_dense.specs.declared.stop.Stop.{Stop}
use Rattle.amp_dense.specs.declared.stop.Stop.TheVariants.{Width, Nodes, OutOfMemory}
use Rattle.amp_dense.specs.Standing.{Standing, FitsAfter, Accepts, Applies, vector, begun, in_order, Walks}
use Rattle.amp_dense.proofs.Chains.{some_chain}
use Rattle.amp_dense.proofs.Walking.{one_walks}
use Rattle.step_upkeep.proofs.Orders.{one_next_order, is_next_order}
use Rattle.step_upkeep.proofs.Products.{some_end}
use Rattle.state_update.specs.Kept.{sliced_policy, vector_chain}
use Rattle.state_update.proofs.Ends.{accepted_or_refused, fits_begun, fits_next}
use Rattle.causes.specs.declared.cause.Cause.{Cause}
use Rattle.causes.specs.declared.cause.Cause.TheVariants as causes
use Rattle.causes.specs.Stops.{cause_of}
use Rattle.sliq_engine.specs.Steps.{Simulates}
use Rattle.run_laws.specs.Laws.{IsNoFault}

-- gates come to one end, where no want of nodes at a gate is sure
pub one_simulates : (Sure : Cause → Type 0) → ((k : ℕ) (order : List ℕ) (held : ℕ) → Sure (causes.Nodes (k + 1) order held) → ⊥) → (rules : Settings) (input : List Bool) (gates : List Gate) → HasOneEnd Sure (Simulates sliced_policy rules input gates)
one_simulates Sure late rules input gates =
    one_told Sure cause_of (Walks sliced_policy (begun input rules) gates)
    (one_walks sliced_policy (λ stop. Sure (cause_of stop)) (one_next_order vector_chain) (λ s g number order held is lacks sure. late (length s.gates) order held (subst (λ n. Sure (causes.Nodes n order held)) is sure)) (begun input rules) gates)

-- the stops of gates are no faults
stop_told : (stop : Stop) → IsNoFault (cause_of stop)
stop_told (Width number) = tt
stop_told (Nodes number order held) = tt
stop_told OutOfMemory = tt

-- what each gate finds: rules that let coefficients have two bits, an order of variables, and a vector that fits the width
record IsReady (s : Standing) : Type 0 where
  wide : 2 ≤ s.rules.width
  order : IsOrder s.order
  fits : FitsWidth (length s.input) s.rules.width (vector s).entries

-- the first one
ready_begun : (input : List Bool) (rules : Settings) → 2 ≤ rules.width → IsReady (begun input rules)
ready_begun input rules wide = record { wide = wide; order = natural_is_order (length input); fits = fits_begun input rules wide }

-- and the one after a gate that is accepted
ready_next : (s : Standing) (g : Gate) (t : Standing) → IsReady s → Accepts sliced_policy s g t → IsReady t
ready_next s g t ready a = subst IsReady (sym a.same) (record { wide = ready.wide; order = (is_next_order vector_chain s t.order ready.order a.order).0; fits = fits_next s g a.fits })

-- one gate
some_applies : (s : Standing) (g : Gate) → IsReady s → IsOn (length s.input) g → HasSomeEnd (λ stop. IsNoFault (cause_of stop)) (Applies sliced_policy s g)
some_applies s g ready on =
    some_end (λ stop. IsNoFault (cause_of stop)) vector_chain FitsAfter s g stop_told ready.order (fits_or_not (length s.input) s.rules.width (raw g (vector s)).entries)
    (λ order is. let wide : 2 ≤ s.rules.width = ready.wide in accepted_or_refused (in_order s order) g (s.rules.width - 1) (omega (arith, wide)) is.once on ready.fits)

-- gates on the qubits of an input come to some end, under rules that let coefficients have two bits
pub some_simulates : (rules : Settings) (input : List Bool) (gates : List Gate) → 2 ≤ rules.width → All (IsOn (length input)) gates
    → HasSomeEnd IsNoFault (Simulates sliced_policy rules input gates)
some_simulates rules input gates wide within =
    some_told IsNoFault cause_of (Walks sliced_policy (begun input rules) gates)
    (some_chain FitsAfter sliced_policy (λ stop. IsNoFault (cause_of stop)) IsReady (λ x g. IsOn (length x) g) some_applies ready_next (begun input rules) gates (ready_begun input rules wide) within)
