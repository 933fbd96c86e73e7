use Rattle.std.proofs.Common.{◌≡◌, ◌∙◌, subst, refl}
use Rattle.diagram_model.specs.Stores.{Diagram}
use Rattle.slice_quad.specs.Started.{IsBuilt}
use Rattle.slice_quad.proofs.Starts.{start_of}
use Rattle.slice_quad.proofs.basis.start_counted.Goals as goal

pub returns-clause-start : goal.returns-clause-start
returns-clause-start g c =
    let d = c.args.d.now.store in
    let same : c.lend.result.now ≡ d = c.lend.ensures.value ∙ c.forget.ensures.store in
    let built : IsBuilt d c.basis_node.new.store c.args.x.now 0 c.in_ok-node.node.0 = subst (λ (s : Diagram). IsBuilt s c.basis_node.new.store c.args.x.now 0 c.in_ok-node.node.0) same c.in_ok-node.ensures.built in
    start_of d c.basis_node.new.store c.args.x.now c.in_ok-node.node.0 _ built c.requires.len
    c.in_ok-four.ensures.a c.in_ok-four.ensures.b c.in_ok-four.ensures.c c.in_ok-four.ensures.d refl refl
