use Rattle.std.proofs.Common.{refl}
use Rattle.slice_quad.proofs.IdentityParts.{identity_of}
use Rattle.slice_quad.proofs.unit_matrix.identity_counted.Goals as goal

pub returns-clause-identity : goal.returns-clause-identity
returns-clause-identity g c =
    identity_of c.diagonal_node.new.store c.args.qubits c.in_ok-node.node.0 _ c.in_ok-node.ensures.built
    c.in_ok-four.ensures.a c.in_ok-four.ensures.b c.in_ok-four.ensures.c c.in_ok-four.ensures.d refl refl
