use Rattle.diagram_model.specs.Functions.{IsPrefixOf}
use Rattle.slice_quad.specs.Fours.{nodes_of}
use Rattle.slice_quad.specs.Raws.{IsMix}
use Rattle.slice_quad.proofs.Diagonals.{here_of}
use Rattle.slice_quad.proofs.Heres.{here_serves, diagonal_ready, diagonal_repeatable}
use Rattle.slice_quad.proofs.Raws.{mix_serves, raw_as}
use Rattle.slice_quad.proofs.Serving.{Serves, grows_by, stops_by}
use Rattle.slice_quad.proofs.raw.turned.Given.{Over}
use Rattle.slice_quad.proofs.raw.turned.Goals.{Start, After-negating}
use Rattle.slice_quad.proofs.raw.turned.Goals as goal

first : (g : Over) (c : Start g) → Serves c.args.d.now c.args.d.now (IsMix c.args.d.now.store c.args.gate.now.target c.args.q.now) (IsPrefixOf c.args.d.now.store.order (here_of c.args.gate.now.target))
first g c = here_serves c.args.d.now c.args.gate.now c.args.q.now c.args.j c.requires.mixable c.requires.turning c.requires.sound

second : (g : Over) (c : After-negating g) → Serves c.args.d.now c.negating.new.d (IsMix c.args.d.now.store c.args.gate.now.target c.args.q.now) (IsMix c.negating.new.d.store c.args.gate.now.target c.args.q.now)
second g c =
    let k = grows_by (here_serves c.args.d.now c.args.gate.now c.args.q.now c.args.j c.requires.mixable c.requires.turning c.requires.sound) c.negating.ensures.grows in
    mix_serves c.args.d.now c.negating.new.d c.args.gate.now.target c.args.q.now c.requires.sound k c.requires.mixable.whole

pub returns-in_err-here-clause-grows : goal.returns-in_err-here-clause-grows
returns-in_err-here-clause-grows g c = grows_by (first g (goal.at.returns-in_err-here-clause-grows g c).Start) c.negating.ensures.grows

pub returns-in_err-here-clause-stop : goal.returns-in_err-here-clause-stop
returns-in_err-here-clause-stop g c = stops_by _ _ _ (first g (goal.at.returns-in_err-here-clause-stop g c).Start) c.from_residual.ensures.1 c.in_err-here.ensures.stop

pub each-requires-clause-takes : goal.each-requires-clause-takes
each-requires-clause-takes g c =
    let k = (second g (goal.at.each-requires-clause-takes g c).After-negating).grows in
    diagonal_ready c.args.d.now c.args.gate.now c.args.q.now c.args.j c.requires.mixable c.requires.turning c.negating.new.d c.in_ok-here.here.0 c.args.zero.now k c.in_ok-here.ensures.node c.requires.zero

pub each-requires-clause-repeatable : goal.each-requires-clause-repeatable
each-requires-clause-repeatable g c = diagonal_repeatable c.args.gate.now.target c.args.j c.in_ok-here.here.0 c.args.q.now c.args.zero.now

pub returns-in_err-raw-clause-grows : goal.returns-in_err-raw-clause-grows
returns-in_err-raw-clause-grows g c = grows_by (second g (goal.at.returns-in_err-raw-clause-grows g c).After-negating) c.each.ensures.grows

pub returns-in_err-raw-clause-stop : goal.returns-in_err-raw-clause-stop
returns-in_err-raw-clause-stop g c = stops_by _ _ _ (second g (goal.at.returns-in_err-raw-clause-stop g c).After-negating) c.from_residual-in_err-raw.ensures.1 c.in_err-raw.ensures.stop

pub returns-clause-raw : goal.returns-clause-raw
returns-clause-raw g c =
    let k = (second g (goal.at.returns-clause-raw g c).After-negating).grows in
    λ z. raw_as c.args.d.now c.negating.new.d c.each.new.d c.args.gate.now.target c.args.q.now z (nodes_of c.in_ok-raw.raw z) c.requires.sound k c.requires.mixable.whole (c.in_ok-raw.ensures.gives z)

pub returns-clause-grows : goal.returns-clause-grows
returns-clause-grows g c = grows_by (second g (goal.at.returns-clause-grows g c).After-negating) c.each.ensures.grows
