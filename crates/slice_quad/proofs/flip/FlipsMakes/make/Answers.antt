use Rattle.slice_vec.specs.Slices.{InTurned}
use Rattle.slice_quad.specs.Raws.{IsMix}
use Rattle.slice_quad.proofs.Flips.{flip_serves, flip_is}
use Rattle.slice_quad.proofs.Serving.{Serves, grows_by, stops_by}
use Rattle.slice_quad.proofs.flip.FlipsMakes.make.Given.{Over}
use Rattle.slice_quad.proofs.flip.FlipsMakes.make.Goals.{After-get}
use Rattle.slice_quad.proofs.flip.FlipsMakes.make.Goals as goal

one : (g : Over) (c : After-get g) → Serves c.args.d.now c.args.d.now (IsMix c.args.d.now.store c.args.self.now.gate.now.target c.args.self.now.q.now) (InTurned c.args.d.now.store c.args.self.now.gate.now.target.target c.args.self.now.gate.now.all.0 c.get.result.now)
one g c = flip_serves c.args.d.now c.args.self.now.gate.now c.args.self.now.q.now c.args.z c.requires.sound c.requires.takes c.get.result.now c.get.ensures

pub returns-in_err-bits-clause-grows : goal.returns-in_err-bits-clause-grows
returns-in_err-bits-clause-grows g c = grows_by (one g (goal.at.returns-in_err-bits-clause-grows g c).After-get) c.flip_where.ensures.grows

pub returns-in_err-bits-clause-stop : goal.returns-in_err-bits-clause-stop
returns-in_err-bits-clause-stop g c = stops_by _ _ _ (one g (goal.at.returns-in_err-bits-clause-stop g c).After-get) c.from_residual.ensures.1 c.in_err-bits.ensures.stop

pub returns-clause-gives : goal.returns-clause-gives
returns-clause-gives g c = flip_is c.args.d.now c.args.self.now.gate.now c.args.self.now.q.now c.args.z c.requires.sound c.requires.takes c.get.result.now c.get.ensures c.flip_where.new.d c.in_ok-bits.bits c.in_ok-bits.ensures.turned

pub returns-clause-grows : goal.returns-clause-grows
returns-clause-grows g c = grows_by (one g (goal.at.returns-clause-grows g c).After-get) c.flip_where.ensures.grows
