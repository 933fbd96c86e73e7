use Rattle.std.proofs.Common.{true, false}
use Rattle.slice_vec.specs.Slices.{InSum}
use Rattle.slice_quad.specs.Raws.{GivesTerm, IsMix}
use Rattle.slice_quad.proofs.Raws.{mix_serves, of_on, ready_on, sum_serves, sum_is, term_as}
use Rattle.slice_quad.proofs.Serving.{Serves, grows_by, stops_by}
use Rattle.slice_quad.proofs.raw.MixingMakes.make.Given.{Over}
use Rattle.slice_quad.proofs.raw.MixingMakes.make.Goals.{After-part, After-part-2, In_ok-high}
use Rattle.slice_quad.proofs.raw.MixingMakes.make.Goals as goal

second : (g : Over) (c : After-part g) → Serves c.args.d.now c.part.new.d (IsMix c.args.d.now.store c.args.self.now.gate.now.target c.args.self.now.q.now) (IsMix c.part.new.d.store c.args.self.now.gate.now.target c.args.self.now.q.now)
second g c = mix_serves c.args.d.now c.part.new.d c.args.self.now.gate.now.target c.args.self.now.q.now c.requires.sound c.part.ensures.grows c.requires.takes.whole

-- the terms after the second call
low : (g : Over) (c : In_ok-high g) → GivesTerm c.args.self.now.gate.now.target c.args.self.now.q.now false c.args.d.now.store c.args.z c.part-2.new.d.store c.in_ok-low.low
low g c = of_on c.part.new.d c.part-2.new.d _ _ _ c.in_ok-low.low c.part.ensures.grows.sound c.part-2.ensures.grows c.in_ok-low.ensures.term

high : (g : Over) (c : In_ok-high g) → GivesTerm c.args.self.now.gate.now.target c.args.self.now.q.now true c.args.d.now.store c.args.z c.part-2.new.d.store c.in_ok-high.high
high g c = term_as c.args.d.now c.part.new.d c.part-2.new.d c.args.self.now.gate.now.target c.args.self.now.q.now true c.args.z c.in_ok-high.high c.requires.sound c.part.ensures.grows c.requires.takes.whole c.in_ok-high.ensures.term

third : (g : Over) (c : In_ok-high g) → Serves c.args.d.now c.part-2.new.d (IsMix c.args.d.now.store c.args.self.now.gate.now.target c.args.self.now.q.now) (InSum c.part-2.new.d.store c.in_ok-low.low c.in_ok-high.high)
third g c =
    let t = c.args.self.now.gate.now.target in let q = c.args.self.now.q.now in
    let k = grows_by (mix_serves c.args.d.now c.part.new.d t q c.requires.sound c.part.ensures.grows c.requires.takes.whole) c.part-2.ensures.grows in
    sum_serves c.args.d.now c.part-2.new.d t q c.args.z c.in_ok-low.low c.in_ok-high.high k (low g c) (high g c)

pub part-requires-2-clause-ready : goal.part-requires-2-clause-ready
part-requires-2-clause-ready g c =
    let m = c.args.self.now in
    ready_on c.args.d.now c.part.new.d (IsMix c.args.d.now.store m.gate.now.target m.q.now) m.gate.now m.q.now m.halves.now m.zero.now c.requires.sound c.part.ensures.grows c.requires.takes

pub returns-in_err-high-clause-grows : goal.returns-in_err-high-clause-grows
returns-in_err-high-clause-grows g c = grows_by (second g (goal.at.returns-in_err-high-clause-grows g c).After-part) c.part-2.ensures.grows

pub returns-in_err-high-clause-stop : goal.returns-in_err-high-clause-stop
returns-in_err-high-clause-stop g c = stops_by _ _ _ (second g (goal.at.returns-in_err-high-clause-stop g c).After-part) c.from_residual-in_err-high.ensures.1 c.in_err-high.ensures.stop

pub returns-in_err-sum-clause-grows : goal.returns-in_err-sum-clause-grows
returns-in_err-sum-clause-grows g c = grows_by (third g (goal.at.returns-in_err-sum-clause-grows g c).In_ok-high) c.add.ensures.grows

pub returns-in_err-sum-clause-stop : goal.returns-in_err-sum-clause-stop
returns-in_err-sum-clause-stop g c = stops_by _ _ _ (third g (goal.at.returns-in_err-sum-clause-stop g c).In_ok-high) c.from_residual-in_err-sum.ensures.1 c.in_err-sum.ensures.stop

pub returns-clause-gives : goal.returns-clause-gives
returns-clause-gives g c =
    let at = (goal.at.returns-clause-gives g c).In_ok-high in
    sum_is c.args.d.now c.part-2.new.d c.args.self.now.gate.now.target c.args.self.now.q.now c.args.z c.in_ok-low.low c.in_ok-high.high (third g at).grows (low g at) (high g at) c.add.new.d c.in_ok-sum.sum c.in_ok-sum.ensures.sum

pub returns-clause-grows : goal.returns-clause-grows
returns-clause-grows g c = grows_by (third g (goal.at.returns-clause-grows g c).In_ok-high) c.add.ensures.grows
