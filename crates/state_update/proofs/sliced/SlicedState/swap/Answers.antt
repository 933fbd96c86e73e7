use Rattle.state_update.specs.Kept.{State}
use Rattle.state_update.proofs.NodesKept.{kept_upkept}
use Rattle.state_update.proofs.StateLemmas.{state_with}
use Rattle.state_update.proofs.sliced.SlicedState.swap.Goals as goal

pub invariant_of-self : goal.invariant_of-self
invariant_of-self c =
    let s = c.self.inside in
    let shown : State = state_with s.input s.rules s.gates.items s.diagrams s.quad in
    kept_upkept shown c.swap_places-answer.new.d c.self.invariant c.swap_places-answer.ensures.keeps
