use Rattle.std.proofs.Common.{rules}
use Rattle.diagram_model.specs.Functions.{IsPrefixOf}
use Rattle.diagram_ops.specs.Diagrams.{variable_of}
use Rattle.diagram_ops.specs.Made.{StopIs}
use Rattle.slice_vec.proofs.Places.{keeping_grows}
use Rattle.slice_quad.proofs.Variables.{variable_made, none_made, variable_stop}
use Rattle.slice_quad.proofs.nodes.variable_node.Goals as goal

pub returns-in_err-node-clause-grows : goal.returns-in_err-node-clause-grows
returns-in_err-node-clause-grows c =
    let u = c.args.d.now in let w = c.variable.new.self in let f = variable_of c.args.var in let e = c.variable.ensures in
    keeping_grows u w (IsPrefixOf u.store.order f) e.sound e.extends e.functions e.cache (none_made u.store w.store (IsPrefixOf u.store.order f) c.in_err-node.ensures.refused)

pub returns-in_err-node-clause-stop : goal.returns-in_err-node-clause-stop
returns-in_err-node-clause-stop c =
    let u = c.args.d.now in let w = c.variable.new.self in let f = variable_of c.args.var in let e = c.variable.ensures in
    let stop : StopIs w.store (IsPrefixOf u.store.order f) c.in_err-node.field-0.0 = variable_stop u.store w.store c.args.var c.requires.sound.store c.requires.within c.in_err-node.ensures.refused c.in_err-node.field-0.0 c.in_err-node.ensures.stop in
    search rules

pub returns-clause-grows : goal.returns-clause-grows
returns-clause-grows c =
    let u = c.args.d.now in let w = c.variable.new.self in let f = variable_of c.args.var in let e = c.variable.ensures in
    keeping_grows u w (IsPrefixOf u.store.order f) e.sound e.extends e.functions e.cache (variable_made u.store w.store c.in_ok-node.node.0 f c.in_ok-node.ensures.only c.in_ok-node.ensures.denotes)

pub returns-clause-node : goal.returns-clause-node
returns-clause-node c = record { live = c.in_ok-node.ensures.live; is = c.in_ok-node.ensures.denotes }
