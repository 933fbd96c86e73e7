use Rattle.std.proofs.Common.{sym}
use Rattle.diagram_model.specs.Stores.{function_of}
use Rattle.diagram_ops.proofs.Flipping.{both_exchanged}
use Rattle.diagram_ops.proofs.diagrams.Diagrams.exchange.Goals as goal

pub returns-clause-denotes : goal.returns-clause-denotes
returns-clause-denotes g c =
    let d = c.args.self.now.store in
    rw (sym (both_exchanged c.args.var (function_of d c.args.c.0) (function_of d c.args.f.0))) c.apply3_flipped.ensures.denotes

pub returns-clause-made : goal.returns-clause-made
returns-clause-made g c =
    let d = c.args.self.now.store in
    rw (sym (both_exchanged c.args.var (function_of d c.args.c.0) (function_of d c.args.f.0))) c.apply3_flipped.ensures.made

pub returns-clause-stop : goal.returns-clause-stop
returns-clause-stop g c =
    let d = c.args.self.now.store in
    rw (sym (both_exchanged c.args.var (function_of d c.args.c.0) (function_of d c.args.f.0))) c.apply3_flipped.ensures.stop
