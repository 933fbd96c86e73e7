use Rattle.diagram_model.specs.Stores.{function_of}
use Rattle.diagram_ops.specs.Bounds.{joint_size_in}
use Rattle.diagram_ops.specs.Flips.{flip}
use Rattle.slice_vec.proofs.Bounds.{steps_none}
use Rattle.slice_vec.proofs.exchange.flip_bit.Goals as goal

pub returns-then-eq-clause-steps : goal.returns-then-eq-clause-steps
returns-then-eq-clause-steps g c =
    let d = c.args.d.now.store in
    steps_none d (joint_size_in d (function_of d c.args.n.0) (flip c.args.var (function_of d c.args.a.0)) (function_of d c.args.a.0)) c.args.steps.now
