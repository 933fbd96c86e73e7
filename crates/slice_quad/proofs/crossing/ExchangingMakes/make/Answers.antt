use Rattle.slice_quad.specs.Crossings.{exchange_of, InExchange, IsExchange}
use Rattle.slice_quad.proofs.Serving.{Serves, grows_by, stops_by}
use Rattle.slice_quad.proofs.CrossingCalls.{own_stands, one_serves, one_is}
use Rattle.slice_quad.proofs.crossing.ExchangingMakes.make.Given.{Over}
use Rattle.slice_quad.proofs.crossing.ExchangingMakes.make.Goals.{After-get}
use Rattle.slice_quad.proofs.crossing.ExchangingMakes.make.Goals as goal

one : (g : Over) (c : After-get g) → Serves c.args.d.now c.args.d.now (IsExchange c.args.d.now.store (exchange_of c.args.self.now.crossing.now) c.args.self.now.q.now) (InExchange c.args.d.now.store (exchange_of c.args.self.now.crossing.now) c.get.result.now)
one g c = one_serves c.args.d.now c.args.self.now.crossing.now c.args.self.now.q.now c.args.z c.requires.sound c.requires.takes c.get.result.now c.get.ensures

pub crossed-requires-clause-x : goal.crossed-requires-clause-x
crossed-requires-clause-x g c = own_stands c.args.d.now c.args.self.now.crossing.now c.args.self.now.q.now c.args.z c.requires.sound c.requires.takes c.get.result.now c.get.ensures

pub returns-in_err-bits-clause-grows : goal.returns-in_err-bits-clause-grows
returns-in_err-bits-clause-grows g c = grows_by (one g (goal.at.returns-in_err-bits-clause-grows g c).After-get) c.crossed.ensures.grows

pub returns-in_err-bits-clause-stop : goal.returns-in_err-bits-clause-stop
returns-in_err-bits-clause-stop g c = stops_by _ _ _ (one g (goal.at.returns-in_err-bits-clause-stop g c).After-get) c.from_residual.ensures.1 c.in_err-bits.ensures.stop

pub returns-clause-gives : goal.returns-clause-gives
returns-clause-gives g c = one_is c.args.d.now c.args.self.now.crossing.now c.args.self.now.q.now c.args.z c.requires.sound c.requires.takes c.get.result.now c.get.ensures c.crossed.new.d.store c.in_ok-bits.bits c.in_ok-bits.ensures.exchanged

pub returns-clause-grows : goal.returns-clause-grows
returns-clause-grows g c = grows_by (one g (goal.at.returns-clause-grows g c).After-get) c.crossed.ensures.grows
