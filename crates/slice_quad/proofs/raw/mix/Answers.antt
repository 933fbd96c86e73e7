use Rattle.slice_quad.specs.Fours.{nodes_of}
use Rattle.slice_quad.specs.Raws.{IsMix}
use Rattle.slice_quad.proofs.Raws.{integers_on, mix_serves, mixing_ready, mixing_repeatable, raw_as}
use Rattle.slice_quad.proofs.Serving.{Serves, grows_by, stops_by}
use Rattle.slice_quad.proofs.raw.mix.Given.{Over}
use Rattle.slice_quad.proofs.raw.mix.Goals.{After-half, After-half-2}
use Rattle.slice_quad.proofs.raw.mix.Goals as goal

second : (g : Over) (c : After-half g) → Serves c.args.d.now c.half.new.d (IsMix c.args.d.now.store c.args.gate.now.target c.args.q.now) (IsMix c.half.new.d.store c.args.gate.now.target c.args.q.now)
second g c = mix_serves c.args.d.now c.half.new.d c.args.gate.now.target c.args.q.now c.requires.sound c.half.ensures.grows c.requires.mixable.whole

third : (g : Over) (c : After-half-2 g) → Serves c.args.d.now c.half-2.new.d (IsMix c.args.d.now.store c.args.gate.now.target c.args.q.now) (IsMix c.half-2.new.d.store c.args.gate.now.target c.args.q.now)
third g c =
    let u = c.args.d.now in let t = c.args.gate.now.target in let q = c.args.q.now in let h = c.requires.mixable.whole in
    mix_serves u c.half-2.new.d t q c.requires.sound (grows_by (mix_serves u c.half.new.d t q c.requires.sound c.half.ensures.grows h) c.half-2.ensures.grows) h

pub half-requires-2-clause-whole : goal.half-requires-2-clause-whole
half-requires-2-clause-whole g c = integers_on c.args.d.now c.half.new.d _ _ c.args.q.now c.half.ensures.grows c.requires.mixable.whole

pub returns-in_err-high-clause-grows : goal.returns-in_err-high-clause-grows
returns-in_err-high-clause-grows g c = grows_by (second g (goal.at.returns-in_err-high-clause-grows g c).After-half) c.half-2.ensures.grows

pub returns-in_err-high-clause-stop : goal.returns-in_err-high-clause-stop
returns-in_err-high-clause-stop g c = stops_by _ _ _ (second g (goal.at.returns-in_err-high-clause-stop g c).After-half) c.from_residual-in_err-high.ensures.1 c.in_err-high.ensures.stop

pub each-requires-clause-takes : goal.each-requires-clause-takes
each-requires-clause-takes g c =
    mixing_ready c.args.d.now c.half.new.d c.half-2.new.d c.args.gate.now c.args.q.now (record { low = c.in_ok-low.low; high = c.in_ok-high.high }) c.args.zero.now c.requires.sound c.requires.mixable c.requires.zero c.half.ensures.grows c.in_ok-low.ensures.half c.half-2.ensures.grows c.in_ok-high.ensures.half

pub each-requires-clause-repeatable : goal.each-requires-clause-repeatable
each-requires-clause-repeatable g c = mixing_repeatable c.args.gate.now c.args.q.now (record { low = c.in_ok-low.low; high = c.in_ok-high.high }) c.args.zero.now

pub returns-in_err-raw-clause-grows : goal.returns-in_err-raw-clause-grows
returns-in_err-raw-clause-grows g c = grows_by (third g (goal.at.returns-in_err-raw-clause-grows g c).After-half-2) c.each.ensures.grows

pub returns-in_err-raw-clause-stop : goal.returns-in_err-raw-clause-stop
returns-in_err-raw-clause-stop g c = stops_by _ _ _ (third g (goal.at.returns-in_err-raw-clause-stop g c).After-half-2) c.from_residual-in_err-raw.ensures.1 c.in_err-raw.ensures.stop

pub returns-clause-raw : goal.returns-clause-raw
returns-clause-raw g c =
    let k = (third g (goal.at.returns-clause-raw g c).After-half-2).grows in
    λ z. raw_as c.args.d.now c.half-2.new.d c.each.new.d c.args.gate.now.target c.args.q.now z (nodes_of c.in_ok-raw.raw z) c.requires.sound k c.requires.mixable.whole (c.in_ok-raw.ensures.gives z)

pub returns-clause-grows : goal.returns-clause-grows
returns-clause-grows g c = grows_by (third g (goal.at.returns-clause-grows g c).After-half-2) c.each.ensures.grows
