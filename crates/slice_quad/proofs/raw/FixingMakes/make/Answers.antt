use Rattle.slice_vec.specs.Slices.{InFixed}
use Rattle.slice_quad.specs.Raws.{IsMix}
use Rattle.slice_quad.proofs.Raws.{own_stands, fixed_serves, fixed_is}
use Rattle.slice_quad.proofs.Serving.{Serves, grows_by, stops_by}
use Rattle.slice_quad.proofs.raw.FixingMakes.make.Given.{Over}
use Rattle.slice_quad.proofs.raw.FixingMakes.make.Goals.{After-get}
use Rattle.slice_quad.proofs.raw.FixingMakes.make.Goals as goal

one : (g : Over) (c : After-get g) → Serves c.args.d.now c.args.d.now (IsMix c.args.d.now.store c.args.self.now.target.now c.args.self.now.q.now) (InFixed c.args.d.now.store c.args.self.now.target.now.target c.args.self.now.bit c.get.result.now)
one g c = fixed_serves c.args.d.now c.args.self.now.target.now c.args.self.now.q.now c.args.z c.args.self.now.bit c.get.result.now c.get.ensures c.requires.sound c.requires.takes.whole

pub fix-requires-clause-x : goal.fix-requires-clause-x
fix-requires-clause-x g c = own_stands c.args.d.now c.args.self.now.target.now c.args.self.now.q.now c.args.z c.args.self.now.bit c.get.result.now c.get.ensures c.requires.sound c.requires.takes.whole

pub returns-in_err-bits-clause-grows : goal.returns-in_err-bits-clause-grows
returns-in_err-bits-clause-grows g c = grows_by (one g (goal.at.returns-in_err-bits-clause-grows g c).After-get) c.fix.ensures.grows

pub returns-in_err-bits-clause-stop : goal.returns-in_err-bits-clause-stop
returns-in_err-bits-clause-stop g c = stops_by _ _ _ (one g (goal.at.returns-in_err-bits-clause-stop g c).After-get) c.from_residual.ensures.1 c.in_err-bits.ensures.stop

pub returns-clause-gives : goal.returns-clause-gives
returns-clause-gives g c = fixed_is c.args.d.now c.args.self.now.target.now c.args.self.now.q.now c.args.z c.args.self.now.bit c.get.result.now c.get.ensures c.requires.sound c.requires.takes.whole c.fix.new.d c.in_ok-bits.bits c.in_ok-bits.ensures.fixed

pub returns-clause-grows : goal.returns-clause-grows
returns-clause-grows g c = grows_by (one g (goal.at.returns-clause-grows g c).After-get) c.fix.ensures.grows
