use Rattle.slice_quad.specs.Fourfold.{Among}
use Rattle.slice_quad.proofs.Serving.{Serves, grows_by, stops_by}
use Rattle.slice_quad.proofs.Chains.{one_more, two_more, three_more, all_four}
use Rattle.slice_quad.proofs.fourfold.each.Given.{Over}
use Rattle.slice_quad.proofs.fourfold.each.Goals.{Start, After-make, After-make-2, After-make-3}
use Rattle.slice_quad.proofs.fourfold.each.Goals as goal

-- after one call, two and three
first : (g : Over) (c : After-make g) → Serves c.args.d.now c.make.new.d (Among (g.M.Makes.functions c.args.call.now) c.args.d.now.store) (Among (g.M.Makes.functions c.args.call.now) c.make.new.d.store)
first g c = one_more _ _ _ c.requires.repeatable c.args.d.now c.requires.sound c.requires.takes c.make.new.d c.make.ensures.grows

second : (g : Over) (c : After-make-2 g) → Serves c.args.d.now c.make-2.new.d (Among (g.M.Makes.functions c.args.call.now) c.args.d.now.store) (Among (g.M.Makes.functions c.args.call.now) c.make-2.new.d.store)
second g c = two_more _ _ _ c.requires.repeatable c.args.d.now c.requires.sound c.requires.takes c.make.new.d c.make-2.new.d c.make.ensures.grows c.make-2.ensures.grows

third : (g : Over) (c : After-make-3 g) → Serves c.args.d.now c.make-3.new.d (Among (g.M.Makes.functions c.args.call.now) c.args.d.now.store) (Among (g.M.Makes.functions c.args.call.now) c.make-3.new.d.store)
third g c = three_more _ _ _ c.requires.repeatable c.args.d.now c.requires.sound c.requires.takes c.make.new.d c.make-2.new.d c.make-3.new.d c.make.ensures.grows c.make-2.ensures.grows c.make-3.ensures.grows

pub make-requires-2-clause-takes : goal.make-requires-2-clause-takes
make-requires-2-clause-takes g c = c.requires.repeatable.again c.args.d.now c.make.new.d c.requires.sound c.make.ensures.grows c.requires.takes

pub returns-in_err-b-clause-grows : goal.returns-in_err-b-clause-grows
returns-in_err-b-clause-grows g c = grows_by (first g (goal.at.returns-in_err-b-clause-grows g c).After-make) c.make-2.ensures.grows

pub returns-in_err-b-clause-stop : goal.returns-in_err-b-clause-stop
returns-in_err-b-clause-stop g c = stops_by _ _ _ (first g (goal.at.returns-in_err-b-clause-stop g c).After-make) c.from_residual-in_err-b.ensures.1 c.in_err-b.ensures.stop

pub make-requires-3-clause-takes : goal.make-requires-3-clause-takes
make-requires-3-clause-takes g c = c.requires.repeatable.again c.args.d.now c.make-2.new.d c.requires.sound (second g (goal.at.make-requires-3-clause-takes g c).After-make-2).grows c.requires.takes

pub returns-in_err-c-clause-grows : goal.returns-in_err-c-clause-grows
returns-in_err-c-clause-grows g c = grows_by (second g (goal.at.returns-in_err-c-clause-grows g c).After-make-2) c.make-3.ensures.grows

pub returns-in_err-c-clause-stop : goal.returns-in_err-c-clause-stop
returns-in_err-c-clause-stop g c = stops_by _ _ _ (second g (goal.at.returns-in_err-c-clause-stop g c).After-make-2) c.from_residual-in_err-c.ensures.1 c.in_err-c.ensures.stop

pub make-requires-4-clause-takes : goal.make-requires-4-clause-takes
make-requires-4-clause-takes g c = c.requires.repeatable.again c.args.d.now c.make-3.new.d c.requires.sound (third g (goal.at.make-requires-4-clause-takes g c).After-make-3).grows c.requires.takes

pub returns-in_err-e-clause-grows : goal.returns-in_err-e-clause-grows
returns-in_err-e-clause-grows g c = grows_by (third g (goal.at.returns-in_err-e-clause-grows g c).After-make-3) c.make-4.ensures.grows

pub returns-in_err-e-clause-stop : goal.returns-in_err-e-clause-stop
returns-in_err-e-clause-stop g c = stops_by _ _ _ (third g (goal.at.returns-in_err-e-clause-stop g c).After-make-3) c.from_residual-in_err-e.ensures.1 c.in_err-e.ensures.stop

pub returns-clause-gives : goal.returns-clause-gives
returns-clause-gives g c =
    all_four _ _ _ c.requires.repeatable c.args.d.now c.requires.sound c.requires.takes c.make.new.d c.make-2.new.d c.make-3.new.d c.make-4.new.d (record { a = c.in_ok-a.a; b = c.in_ok-b.b; c = c.in_ok-c.c; d = c.in_ok-e.e })
    c.make.ensures.grows c.make-2.ensures.grows c.make-3.ensures.grows c.make-4.ensures.grows c.in_ok-a.ensures.gives c.in_ok-b.ensures.gives c.in_ok-c.ensures.gives c.in_ok-e.ensures.gives

pub returns-clause-grows : goal.returns-clause-grows
returns-clause-grows g c = grows_by (third g (goal.at.returns-clause-grows g c).After-make-3) c.make-4.ensures.grows
