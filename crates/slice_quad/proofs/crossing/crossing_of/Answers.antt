use Rattle.diagram_model.specs.Functions.{IsPrefixOf}
use Rattle.diagram_ops.specs.Diagrams.{variable_of}
use Rattle.diagram_ops.specs.Made.{IsPrefixOfSome}
use Rattle.slice_vec.proofs.Growing.{denotes_on}
use Rattle.slice_quad.specs.Crossings.{IsCrossing}
use Rattle.slice_quad.specs.Stepping.{exchange_with}
use Rattle.slice_quad.specs.Variables.{control_functions}
use Rattle.slice_quad.proofs.Serving.{Serves, grows_by, stops_by}
use Rattle.slice_quad.proofs.CrossingCalls.{first_serves, second_serves, controls_serve}
use Rattle.slice_quad.proofs.crossing.crossing_of.Given.{Over}
use Rattle.slice_quad.proofs.crossing.crossing_of.Goals.{Start, After-variable_node, After-variable_node-2}
use Rattle.slice_quad.proofs.crossing.crossing_of.Goals as goal

first : (g : Over) (c : Start g) → Serves c.args.d.now c.args.d.now (IsCrossing c.args.d.now.store (exchange_with c.args.controls.now c.args.first c.args.second)) (IsPrefixOf c.args.d.now.store.order (variable_of c.args.first))
first g c = first_serves c.args.d.now (exchange_with c.args.controls.now c.args.first c.args.second) c.requires.sound

second : (g : Over) (c : After-variable_node g) → Serves c.args.d.now c.variable_node.new.d (IsCrossing c.args.d.now.store (exchange_with c.args.controls.now c.args.first c.args.second)) (IsPrefixOf c.variable_node.new.d.store.order (variable_of c.args.second))
second g c =
    let e = exchange_with c.args.controls.now c.args.first c.args.second in
    second_serves c.args.d.now c.variable_node.new.d e (grows_by (first_serves c.args.d.now e c.requires.sound) c.variable_node.ensures.grows)

third : (g : Over) (c : After-variable_node-2 g) → Serves c.args.d.now c.variable_node-2.new.d (IsCrossing c.args.d.now.store (exchange_with c.args.controls.now c.args.first c.args.second)) (IsPrefixOfSome c.variable_node-2.new.d.store.order (control_functions (exchange_with c.args.controls.now c.args.first c.args.second).controls))
third g c =
    let e = exchange_with c.args.controls.now c.args.first c.args.second in
    let k = second_serves c.args.d.now c.variable_node.new.d e (grows_by (first_serves c.args.d.now e c.requires.sound) c.variable_node.ensures.grows) in
    controls_serve c.args.d.now c.variable_node-2.new.d e (grows_by k c.variable_node-2.ensures.grows)

pub returns-in_err-is_first-clause-grows : goal.returns-in_err-is_first-clause-grows
returns-in_err-is_first-clause-grows g c = grows_by (first g (goal.at.returns-in_err-is_first-clause-grows g c).Start) c.variable_node.ensures.grows

pub returns-in_err-is_first-clause-stop : goal.returns-in_err-is_first-clause-stop
returns-in_err-is_first-clause-stop g c = stops_by _ _ _ (first g (goal.at.returns-in_err-is_first-clause-stop g c).Start) c.from_residual.ensures.1 c.in_err-is_first.ensures.stop

pub returns-in_err-is_second-clause-grows : goal.returns-in_err-is_second-clause-grows
returns-in_err-is_second-clause-grows g c = grows_by (second g (goal.at.returns-in_err-is_second-clause-grows g c).After-variable_node) c.variable_node-2.ensures.grows

pub returns-in_err-is_second-clause-stop : goal.returns-in_err-is_second-clause-stop
returns-in_err-is_second-clause-stop g c = stops_by _ _ _ (second g (goal.at.returns-in_err-is_second-clause-stop g c).After-variable_node) c.from_residual-in_err-is_second.ensures.1 c.in_err-is_second.ensures.stop

pub returns-in_err-all-clause-grows : goal.returns-in_err-all-clause-grows
returns-in_err-all-clause-grows g c = grows_by (third g (goal.at.returns-in_err-all-clause-grows g c).After-variable_node-2) c.controls_node.ensures.grows

pub returns-in_err-all-clause-stop : goal.returns-in_err-all-clause-stop
returns-in_err-all-clause-stop g c = stops_by _ _ _ (third g (goal.at.returns-in_err-all-clause-stop g c).After-variable_node-2) c.from_residual-in_err-all.ensures.1 c.in_err-all.ensures.stop

pub returns-clause-grows : goal.returns-clause-grows
returns-clause-grows g c = grows_by (third g (goal.at.returns-clause-grows g c).After-variable_node-2) c.controls_node.ensures.grows

pub returns-clause-nodes : goal.returns-clause-nodes
returns-clause-nodes g c =
    let at = goal.at.returns-clause-nodes g c in
    let k1 = (second g at.After-variable_node).grows in let k2 = (third g at.After-variable_node-2).grows in
    let first2 = denotes_on _ _ _ _ _ k1.sound c.variable_node-2.ensures.grows c.in_ok-is_first.ensures.node in
    record {
      first = denotes_on _ _ _ _ _ k2.sound c.controls_node.ensures.grows first2;
      second = denotes_on _ _ _ _ _ k2.sound c.controls_node.ensures.grows c.in_ok-is_second.ensures.node;
      all = c.in_ok-all.ensures.node;
    }
