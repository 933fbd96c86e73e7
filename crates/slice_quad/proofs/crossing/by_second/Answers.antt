use Rattle.std.proofs.Common.{false, true}
use Rattle.slice_vec.specs.Slices.{digits_of, InFixed, InMerged}
use Rattle.slice_vec.proofs.Growing.{denotes_on}
use Rattle.slice_quad.specs.Crossings.{exchange_of, InExchange}
use Rattle.slice_quad.specs.Exchange.{by_second}
use Rattle.slice_quad.proofs.Raws.{of_on}
use Rattle.slice_quad.proofs.Serving.{Serves, grows_by, stops_by}
use Rattle.slice_quad.proofs.Crossed.{AreFixed, x_of, low_serves, high_serves, are_fixed, either_serves, either_of, fixed_after}
use Rattle.slice_quad.proofs.crossing.by_second.Given.{Over}
use Rattle.slice_quad.proofs.crossing.by_second.Goals.{Start, After-fix, In_ok-high, In_ok-clear}
use Rattle.slice_quad.proofs.crossing.by_second.Goals as goal

first : (g : Over) (c : Start g) → Serves c.args.d.now c.args.d.now (InExchange c.args.d.now.store (exchange_of c.args.crossing.now) c.args.x.now) (InFixed c.args.d.now.store c.args.crossing.now.first false c.args.x.now)
first g c = low_serves c.args.d.now (exchange_of c.args.crossing.now) c.args.x.now c.requires.sound c.requires.x

second : (g : Over) (c : After-fix g) → Serves c.args.d.now c.fix.new.d (InExchange c.args.d.now.store (exchange_of c.args.crossing.now) c.args.x.now) (InFixed c.fix.new.d.store c.args.crossing.now.first true c.args.x.now)
second g c = high_serves c.args.d.now (exchange_of c.args.crossing.now) c.args.x.now c.requires.sound c.requires.x c.fix.new.d c.fix.ensures.grows

both : (g : Over) (c : In_ok-high g) → AreFixed c.args.d.now c.fix-2.new.d (exchange_of c.args.crossing.now) c.args.x.now c.in_ok-low.low c.in_ok-high.high
both g c = are_fixed c.args.d.now (exchange_of c.args.crossing.now) c.args.x.now c.requires.sound c.requires.x c.fix.new.d c.fix.ensures.grows c.fix-2.new.d c.in_ok-low.low c.in_ok-high.high c.in_ok-low.ensures.fixed c.fix-2.ensures.grows c.in_ok-high.ensures.fixed

third : (g : Over) (c : In_ok-high g) → Serves c.args.d.now c.fix-2.new.d (InExchange c.args.d.now.store (exchange_of c.args.crossing.now) c.args.x.now) (InMerged c.fix-2.new.d.store c.args.crossing.now.second false c.in_ok-high.high c.in_ok-low.low)
third g c = either_serves c.args.d.now (exchange_of c.args.crossing.now) c.args.x.now c.requires.sound c.requires.x c.fix-2.new.d c.in_ok-low.low c.in_ok-high.high (both g c) false

still : (g : Over) (c : In_ok-clear g) → AreFixed c.args.d.now c.select_fixed.new.d (exchange_of c.args.crossing.now) c.args.x.now c.in_ok-low.low c.in_ok-high.high
still g c =
    let f = are_fixed c.args.d.now (exchange_of c.args.crossing.now) c.args.x.now c.requires.sound c.requires.x c.fix.new.d c.fix.ensures.grows c.fix-2.new.d c.in_ok-low.low c.in_ok-high.high c.in_ok-low.ensures.fixed c.fix-2.ensures.grows c.in_ok-high.ensures.fixed in
    fixed_after c.args.d.now (exchange_of c.args.crossing.now) c.args.x.now c.requires.sound c.requires.x c.fix-2.new.d c.in_ok-low.low c.in_ok-high.high f false c.select_fixed.new.d c.select_fixed.ensures.grows

fourth : (g : Over) (c : In_ok-clear g) → Serves c.args.d.now c.select_fixed.new.d (InExchange c.args.d.now.store (exchange_of c.args.crossing.now) c.args.x.now) (InMerged c.select_fixed.new.d.store c.args.crossing.now.second true c.in_ok-high.high c.in_ok-low.low)
fourth g c = either_serves c.args.d.now (exchange_of c.args.crossing.now) c.args.x.now c.requires.sound c.requires.x c.select_fixed.new.d c.in_ok-low.low c.in_ok-high.high (still g c) true

pub returns-in_err-low-clause-grows : goal.returns-in_err-low-clause-grows
returns-in_err-low-clause-grows g c = grows_by (first g (goal.at.returns-in_err-low-clause-grows g c).Start) c.fix.ensures.grows

pub returns-in_err-low-clause-stop : goal.returns-in_err-low-clause-stop
returns-in_err-low-clause-stop g c = stops_by _ _ _ (first g (goal.at.returns-in_err-low-clause-stop g c).Start) c.from_residual.ensures.1 c.in_err-low.ensures.stop

pub fix-requires-2-clause-x : goal.fix-requires-2-clause-x
fix-requires-2-clause-x g c = (x_of c.args.d.now (exchange_of c.args.crossing.now) c.args.x.now c.requires.sound c.requires.x c.fix.new.d (second g (goal.at.fix-requires-2-clause-x g c).After-fix).grows).stands

pub returns-in_err-high-clause-grows : goal.returns-in_err-high-clause-grows
returns-in_err-high-clause-grows g c = grows_by (second g (goal.at.returns-in_err-high-clause-grows g c).After-fix) c.fix-2.ensures.grows

pub returns-in_err-high-clause-stop : goal.returns-in_err-high-clause-stop
returns-in_err-high-clause-stop g c = stops_by _ _ _ (second g (goal.at.returns-in_err-high-clause-stop g c).After-fix) c.from_residual-in_err-high.ensures.1 c.in_err-high.ensures.stop

pub select_fixed-requires-clause-n : goal.select_fixed-requires-clause-n
select_fixed-requires-clause-n g c = denotes_on _ _ _ _ _ c.requires.sound (both g (goal.at.select_fixed-requires-clause-n g c).In_ok-high).grows c.requires.nodes.second

pub select_fixed-requires-clause-x : goal.select_fixed-requires-clause-x
select_fixed-requires-clause-x g c = (both g (goal.at.select_fixed-requires-clause-x g c).In_ok-high).set.stands

pub select_fixed-requires-clause-y : goal.select_fixed-requires-clause-y
select_fixed-requires-clause-y g c = (both g (goal.at.select_fixed-requires-clause-y g c).In_ok-high).clear.stands

pub returns-in_err-clear-clause-grows : goal.returns-in_err-clear-clause-grows
returns-in_err-clear-clause-grows g c = grows_by (third g (goal.at.returns-in_err-clear-clause-grows g c).In_ok-high) c.select_fixed.ensures.grows

pub returns-in_err-clear-clause-stop : goal.returns-in_err-clear-clause-stop
returns-in_err-clear-clause-stop g c = stops_by _ _ _ (third g (goal.at.returns-in_err-clear-clause-stop g c).In_ok-high) c.from_residual-in_err-clear.ensures.1 c.in_err-clear.ensures.stop

pub select_fixed-requires-2-clause-n : goal.select_fixed-requires-2-clause-n
select_fixed-requires-2-clause-n g c = denotes_on _ _ _ _ _ c.requires.sound (still g (goal.at.select_fixed-requires-2-clause-n g c).In_ok-clear).grows c.requires.nodes.second

pub select_fixed-requires-2-clause-x : goal.select_fixed-requires-2-clause-x
select_fixed-requires-2-clause-x g c = (still g (goal.at.select_fixed-requires-2-clause-x g c).In_ok-clear).set.stands

pub select_fixed-requires-2-clause-y : goal.select_fixed-requires-2-clause-y
select_fixed-requires-2-clause-y g c = (still g (goal.at.select_fixed-requires-2-clause-y g c).In_ok-clear).clear.stands

pub returns-in_err-set-clause-grows : goal.returns-in_err-set-clause-grows
returns-in_err-set-clause-grows g c = grows_by (fourth g (goal.at.returns-in_err-set-clause-grows g c).In_ok-clear) c.select_fixed-2.ensures.grows

pub returns-in_err-set-clause-stop : goal.returns-in_err-set-clause-stop
returns-in_err-set-clause-stop g c = stops_by _ _ _ (fourth g (goal.at.returns-in_err-set-clause-stop g c).In_ok-clear) c.from_residual-in_err-set.ensures.1 c.in_err-set.ensures.stop

pub returns-clause-selected : goal.returns-clause-selected
returns-clause-selected g c =
    let u = c.args.d.now in let e = exchange_of c.args.crossing.now in let xs = c.args.x.now in
    let s = c.requires.sound in let hx = c.requires.x in
    let f = both g (goal.at.returns-clause-selected g c).In_ok-high in
    let k = still g (goal.at.returns-clause-selected g c).In_ok-clear in
    record {
      clear = of_on c.select_fixed.new.d c.select_fixed-2.new.d (InMerged c.select_fixed.new.d.store e.second true c.in_ok-high.high c.in_ok-low.low) _ (by_second e (digits_of u.store xs) false) c.in_ok-clear.clear k.grows.sound c.select_fixed-2.ensures.grows
          (either_of u e xs s hx c.fix-2.new.d c.in_ok-low.low c.in_ok-high.high f false c.select_fixed.new.d c.in_ok-clear.clear c.in_ok-clear.ensures.merged);
      set = either_of u e xs s hx c.select_fixed.new.d c.in_ok-low.low c.in_ok-high.high k true c.select_fixed-2.new.d c.in_ok-set.set c.in_ok-set.ensures.merged;
    }

pub returns-clause-grows : goal.returns-clause-grows
returns-clause-grows g c = grows_by (fourth g (goal.at.returns-clause-grows g c).In_ok-clear) c.select_fixed-2.ensures.grows
