use Rattle.node_store.proofs.Requests.{extends_before, functions_before, stop_before}
use Rattle.node_store.proofs.store.Store.make.Goals as goal

pub returns-clause-functions : goal.returns-clause-functions
returns-clause-functions g c = functions_before c.args.self.now c.count_request.new.self c.node_of.new.self c.count_request.ensures.requested c.node_of.ensures.functions

pub returns-clause-extends : goal.returns-clause-extends
returns-clause-extends g c = extends_before c.args.self.now c.count_request.new.self c.node_of.new.self c.count_request.ensures.requested c.node_of.ensures.extends

pub returns-clause-stop : goal.returns-clause-stop
returns-clause-stop g c = stop_before c.args.self.now c.count_request.new.self c.args.var c.args.low.0 c.args.high.0 c.node_of.result c.count_request.ensures.requested c.node_of.ensures.stop
