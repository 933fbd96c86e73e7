use Rattle.std.proofs.Common.{ℕ, ◌<◌, get_or}
use Rattle.diagram_model.specs.Stores.{IsLive}
use Rattle.vector_calls.proofs.integers.stands.Given as goal

abbrev pub invariant-loop-i : goal.invariant-loop-i
invariant-loop-i l = (j : ℕ) → j < l.i → IsLive l.d.store (get_or l.x j 0)
