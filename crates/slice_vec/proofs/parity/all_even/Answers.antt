use Rattle.std.proofs.Common.{◌∙◌, sym, eq-eqb, eqb-true}
use Rattle.slice_vec.proofs.Parities.{even_node, node_even}
use Rattle.slice_vec.proofs.parity.all_even.Goals as goal

pub returns : goal.returns
returns c = λ d s h. (
  (λ is. node_even d c.args.x.now s h.some (sym c.bit.ensures ∙ eqb-true c.bit.result.0 0 (sym c.eq.ensures ∙ is))),
  (λ even. c.eq.ensures ∙ eq-eqb c.bit.result.0 0 (c.bit.ensures ∙ even_node d c.args.x.now s h even)),
)
