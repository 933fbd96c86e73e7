use Rattle.slice_quad.specs.Crossings.{exchange_of, IsCrossing, IsExchange}
use Rattle.slice_quad.specs.Stepping.{exchange_with}
use Rattle.slice_quad.proofs.Serving.{Serves, grows_by, stops_by}
use Rattle.slice_quad.proofs.CrossingCalls.{nodes_serve, renamed_serves, exchange_repeatable, exchanged_values, ready_for}
use Rattle.slice_quad.proofs.crossing.exchange_raw.Given.{Over}
use Rattle.slice_quad.proofs.crossing.exchange_raw.Goals.{Start, In_ok-crossing}
use Rattle.slice_quad.proofs.crossing.exchange_raw.Goals as goal

first : (g : Over) (c : Start g) → Serves c.args.d.now c.args.d.now (IsExchange c.args.d.now.store (exchange_with c.args.controls.now c.args.first c.args.second) c.args.q.now) (IsCrossing c.args.d.now.store (exchange_with c.args.controls.now c.args.first c.args.second))
first g c = nodes_serve c.args.d.now (exchange_with c.args.controls.now c.args.first c.args.second) c.args.q.now c.requires.sound

second : (g : Over) (c : In_ok-crossing g) → Serves c.args.d.now c.crossing_of.new.d (IsExchange c.args.d.now.store (exchange_with c.args.controls.now c.args.first c.args.second) c.args.q.now) (IsExchange c.crossing_of.new.d.store (exchange_of c.in_ok-crossing.crossing) c.args.q.now)
second g c =
    let u = c.args.d.now in let e = exchange_with c.args.controls.now c.args.first c.args.second in let q = c.args.q.now in
    let k = grows_by (nodes_serve u e q c.requires.sound) c.crossing_of.ensures.grows in
    renamed_serves u c.crossing_of.new.d e (exchange_of c.in_ok-crossing.crossing) q c.requires.sound k c.requires.whole c.in_ok-crossing.ensures.crossing

pub returns-in_err-crossing-clause-grows : goal.returns-in_err-crossing-clause-grows
returns-in_err-crossing-clause-grows g c = grows_by (first g (goal.at.returns-in_err-crossing-clause-grows g c).Start) c.crossing_of.ensures.grows

pub returns-in_err-crossing-clause-stop : goal.returns-in_err-crossing-clause-stop
returns-in_err-crossing-clause-stop g c = stops_by _ _ _ (first g (goal.at.returns-in_err-crossing-clause-stop g c).Start) c.from_residual.ensures.1 c.in_err-crossing.ensures.stop

pub each-requires-clause-takes : goal.each-requires-clause-takes
each-requires-clause-takes g c =
    let k = (second g (goal.at.each-requires-clause-takes g c).In_ok-crossing).grows in
    ready_for c.args.d.now c.crossing_of.new.d (exchange_with c.args.controls.now c.args.first c.args.second) c.in_ok-crossing.crossing c.args.q.now c.requires.sound k c.requires.whole c.in_ok-crossing.ensures.crossing c.in_ok-crossing.ensures.nodes c.requires.first c.requires.second

pub each-requires-clause-repeatable : goal.each-requires-clause-repeatable
each-requires-clause-repeatable g c = exchange_repeatable c.in_ok-crossing.crossing c.args.q.now

pub returns-in_err-raw-clause-grows : goal.returns-in_err-raw-clause-grows
returns-in_err-raw-clause-grows g c = grows_by (second g (goal.at.returns-in_err-raw-clause-grows g c).In_ok-crossing) c.each.ensures.grows

pub returns-in_err-raw-clause-stop : goal.returns-in_err-raw-clause-stop
returns-in_err-raw-clause-stop g c = stops_by _ _ _ (second g (goal.at.returns-in_err-raw-clause-stop g c).In_ok-crossing) c.from_residual-in_err-raw.ensures.1 c.in_err-raw.ensures.stop

pub returns-clause-values : goal.returns-clause-values
returns-clause-values g c =
    let k = (second g (goal.at.returns-clause-values g c).In_ok-crossing).grows in
    exchanged_values c.args.d.now c.crossing_of.new.d c.each.new.d.store (exchange_with c.args.controls.now c.args.first c.args.second) (exchange_of c.in_ok-crossing.crossing) c.args.q.now c.in_ok-raw.raw c.requires.sound k c.requires.whole c.in_ok-crossing.ensures.crossing c.in_ok-raw.ensures.gives

pub returns-clause-grows : goal.returns-clause-grows
returns-clause-grows g c = grows_by (second g (goal.at.returns-clause-grows g c).In_ok-crossing) c.each.ensures.grows
