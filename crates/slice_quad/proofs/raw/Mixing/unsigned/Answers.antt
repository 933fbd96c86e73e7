use Rattle.std.proofs.Common.{◌≡◌, length}
use Rattle.slice_vec.specs.Slices.{InChosen}
use Rattle.slice_quad.specs.Fours.{mix_of, digits_in}
use Rattle.slice_quad.specs.Mix.{from_target}
use Rattle.slice_quad.specs.Raws.{IsMix}
use Rattle.slice_quad.specs.Terms.{IsOf}
use Rattle.slice_quad.proofs.Columns.{brought_stands, target_serves, target_is, old_later, term_serves, term_is}
use Rattle.slice_quad.proofs.Raws.{column_low, column_high}
use Rattle.slice_quad.proofs.Serving.{Serves, grows_by, stops_by}
use Rattle.slice_quad.proofs.raw.Mixing.unsigned.Given.{Over}
use Rattle.slice_quad.proofs.raw.Mixing.unsigned.Goals.{After-old_of-old, In_ok-by_target}
use Rattle.slice_quad.proofs.raw.Mixing.unsigned.Goals as goal

first : (g : Over) (c : After-old_of-old g) → Serves c.args.d.now c.args.d.now (IsMix c.args.d.now.store c.args.self.now.gate.now.target c.args.self.now.q.now) (InChosen c.args.d.now.store c.args.self.now.gate.now.is_set.0 c.brought-high.result.now c.brought-low.result.now)
first g c = let m = c.args.self.now in target_serves c.args.d.now m.gate.now m.q.now m.halves.now m.zero.now c.args.z c.args.second c.requires.sound c.requires.ready c.get-from.result.now c.get-from.ensures c.column_at-column.result c.column_at-column.ensures c.brought-low.result.now c.brought-high.result.now c.brought-low.ensures c.brought-high.ensures

chosen : (g : Over) (c : In_ok-by_target g) → IsOf c.select.new.d.store (length c.args.self.now.q.now.a) (from_target (mix_of c.args.self.now.gate.now.target) (digits_in c.args.d.now.store c.args.self.now.q.now) c.args.z c.args.second) c.in_ok-by_target.by_target
chosen g c = let m = c.args.self.now in target_is c.args.d.now m.gate.now m.q.now m.halves.now m.zero.now c.args.z c.args.second c.requires.sound c.requires.ready c.get-from.result.now c.get-from.ensures c.column_at-column.result c.column_at-column.ensures c.brought-low.result.now c.brought-high.result.now c.brought-low.ensures c.brought-high.ensures c.select.new.d c.in_ok-by_target.by_target c.in_ok-by_target.ensures.chosen

second : (g : Over) (c : In_ok-by_target g) → Serves c.args.d.now c.select.new.d (IsMix c.args.d.now.store c.args.self.now.gate.now.target c.args.self.now.q.now) (InChosen c.select.new.d.store c.args.self.now.gate.now.all.0 c.in_ok-by_target.by_target c.old_of-old.result.now)
second g c =
    let m = c.args.self.now in
    let k = grows_by (target_serves c.args.d.now m.gate.now m.q.now m.halves.now m.zero.now c.args.z c.args.second c.requires.sound c.requires.ready c.get-from.result.now c.get-from.ensures c.column_at-column.result c.column_at-column.ensures c.brought-low.result.now c.brought-high.result.now c.brought-low.ensures c.brought-high.ensures) c.select.ensures.grows in
    term_serves c.args.d.now m.gate.now m.q.now m.halves.now m.zero.now c.args.z c.args.second c.requires.sound c.requires.ready c.old_of-old.result.now c.old_of-old.ensures c.select.new.d c.in_ok-by_target.by_target k (chosen g c)

pub brought-low-requires : goal.brought-low-requires
brought-low-requires g c = column_low c.args.self.now.gate.now.target c.args.z c.args.second c.column_at-column.result c.requires.ready.reduced c.column_at-column.ensures

pub brought-high-requires : goal.brought-high-requires
brought-high-requires g c = column_high c.args.self.now.gate.now.target c.args.z c.args.second c.column_at-column.result c.requires.ready.reduced c.column_at-column.ensures

pub select-requires-clause-x : goal.select-requires-clause-x
select-requires-clause-x g c = let m = c.args.self.now in let h = brought_stands c.args.d.now m.gate.now m.q.now m.halves.now m.zero.now c.args.z c.args.second c.requires.sound c.requires.ready c.get-from.result.now c.get-from.ensures c.column_at-column.result.high in rw c.brought-high.ensures h

pub select-requires-clause-y : goal.select-requires-clause-y
select-requires-clause-y g c = let m = c.args.self.now in let h = brought_stands c.args.d.now m.gate.now m.q.now m.halves.now m.zero.now c.args.z c.args.second c.requires.sound c.requires.ready c.get-from.result.now c.get-from.ensures c.column_at-column.result.low in rw c.brought-low.ensures h

pub returns-in_err-by_target-clause-grows : goal.returns-in_err-by_target-clause-grows
returns-in_err-by_target-clause-grows g c = grows_by (first g (goal.at.returns-in_err-by_target-clause-grows g c).After-old_of-old) c.select.ensures.grows

pub returns-in_err-by_target-clause-stop : goal.returns-in_err-by_target-clause-stop
returns-in_err-by_target-clause-stop g c = stops_by _ _ _ (first g (goal.at.returns-in_err-by_target-clause-stop g c).After-old_of-old) c.from_residual.ensures.1 c.in_err-by_target.ensures.stop

pub select-requires-2-clause-y : goal.select-requires-2-clause-y
select-requires-2-clause-y g c =
    let m = c.args.self.now in let at = (goal.at.select-requires-2-clause-y g c).In_ok-by_target in
    old_later c.args.d.now m.gate.now m.q.now m.halves.now m.zero.now c.args.z c.args.second c.requires.sound c.requires.ready c.old_of-old.result.now c.old_of-old.ensures c.select.new.d c.in_ok-by_target.by_target (second g at).grows (chosen g at)

pub returns-in_err-by_controls-clause-grows : goal.returns-in_err-by_controls-clause-grows
returns-in_err-by_controls-clause-grows g c = grows_by (second g (goal.at.returns-in_err-by_controls-clause-grows g c).In_ok-by_target) c.select-2.ensures.grows

pub returns-in_err-by_controls-clause-stop : goal.returns-in_err-by_controls-clause-stop
returns-in_err-by_controls-clause-stop g c = stops_by _ _ _ (second g (goal.at.returns-in_err-by_controls-clause-stop g c).In_ok-by_target) c.from_residual-in_err-by_controls.ensures.1 c.in_err-by_controls.ensures.stop

pub returns-clause-term : goal.returns-clause-term
returns-clause-term g c =
    let m = c.args.self.now in let at = (goal.at.returns-clause-term g c).In_ok-by_target in
    term_is c.args.d.now m.gate.now m.q.now m.halves.now m.zero.now c.args.z c.args.second c.requires.sound c.requires.ready c.old_of-old.result.now c.old_of-old.ensures c.select.new.d c.in_ok-by_target.by_target (second g at).grows (chosen g at) c.select-2.new.d c.in_ok-by_controls.by_controls c.in_ok-by_controls.ensures.chosen

pub returns-clause-grows : goal.returns-clause-grows
returns-clause-grows g c = grows_by (second g (goal.at.returns-clause-grows g c).In_ok-by_target) c.select-2.ensures.grows
