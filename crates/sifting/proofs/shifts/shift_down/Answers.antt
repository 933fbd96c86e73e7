use Rattle.std.proofs.Common.{◌≡◌, arith, ◌∙◌, ap}
use Rattle.std.specs.Prelude.{slice_index}
use Rattle.diagram_model.specs.Stores.{Diagram}
use Rattle.sifting.specs.Hanging.{AreRanked, LowersChildren}
use Rattle.sifting.proofs.Lowered.{ranked_down}
use Rattle.sifting.proofs.shifts.shift_down.Goals as goal

pub returns-clause-ranked : goal.returns-clause-ranked
returns-clause-ranked c =
    let e = c.shift.new.d.store in
    let level = c.args.level in
    let roots = c.args.roots.now in
    let old = c.args.ranks.now.items in
    let new = c.lower_children.new.ranks.items in
    let v = c.at-upper.result in
    let at : v ≡ slice_index e.order level = c.at-upper.ensures ∙ ap (λ o. slice_index o level) (c.order.ensures ∙ ap (λ (g : Diagram). g.order) c.store.ensures.value) in
    let long = c.shift.ensures.roots.vars in
    let before : AreRanked e roots level old c.args.bound = c.in_ok-shift.ensures.hanging level (omega arith) old c.args.bound c.requires.ranked in
    let low : LowersChildren e v old new c.args.bound = rw c.store-2.ensures.value at c.in_ok-lower_children.ensures in
    ranked_down e roots old new level v c.args.bound c.shift.ensures.sound.store (omega (arith, long, c.requires.level)) at before low
