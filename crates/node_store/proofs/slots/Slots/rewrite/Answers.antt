use Rattle.std.proofs.Common.{◌≡◌, ◌<◌, ◌≤◌, ◌+◌, ◌-◌, Some, length, sym, ◌∙◌, ap, arith, refl, set}
use Rattle.std.proofs.lemmas.List.{length-set}
use Rattle.slab.specs.Slab.{get, with_value}
use Rattle.diagram_model.specs.Stores.{IsNew}
use Rattle.node_store.specs.Slots.{parts}
use Rattle.node_store.specs.Stored.{view_of}
use Rattle.node_store.proofs.Tables.{slab_rewrites}
use Rattle.node_store.proofs.Kept.{has_var, within_tables, held_var, gap_none, rewritten, same_held, rooms_le, spare_set, held_big, puts_at, rewrites_at}
use Rattle.node_store.proofs.slots.Slots.rewrite.Goals as goal

pub index_mut-requires-2 : goal.index_mut-requires-2
index_mut-requires-2 c =
    let a = c.self.inside in
    let there : get a.nodes (c.args.n.0 - 2) ≡ Some c.replace-old.result = c.index_mut.ensures.value ∙ ap (λ p. Some p) (sym c.replace-old.ensures.value) in
    let h = held_var a (c.args.n.0 - 2) c.replace-old.result c.self.invariant there in
    omega (arith, within_tables a c.replace-old.result.var c.self.invariant h, a.tables.ok.0)

pub add-requires-clause-new : goal.add-requires-clause-new
add-requires-clause-new c =
    let a = c.self.inside in
    let new = parts c.args.var c.args.low.0 c.args.high.0 in
    let there : get a.nodes (c.args.n.0 - 2) ≡ Some c.replace-old.result = c.index_mut.ensures.value ∙ ap (λ p. Some p) (sym c.replace-old.ensures.value) in
    let h = has_var a c.args.var c.self.invariant (rw (← c.self.view_is) at c.requires.var) in
    let fresh : IsNew (view_of a).diagram new = rw (← c.self.view_is) at c.requires.new in
    gap_none a c.index_mut-2.result.now c.remove.new.self c.index_mut-3.result.now (c.args.n.0 - 2) c.replace-old.result new c.self.invariant there
    c.index_mut-2.ensures.value c.remove.ensures.puts c.remove.ensures.len h fresh c.index_mut-3.ensures.value

pub invariant_of-self : goal.invariant_of-self
invariant_of-self c =
    let a = c.self.inside in
    let new = parts c.args.var c.args.low.0 c.args.high.0 in
    let there : get a.nodes (c.args.n.0 - 2) ≡ Some c.replace-old.result = c.index_mut.ensures.value ∙ ap (λ p. Some p) (sym c.replace-old.ensures.value) in
    let h = has_var a c.args.var c.self.invariant (rw (← c.self.view_is) at c.requires.var) in
    let fresh : IsNew (view_of a).diagram new = rw (← c.self.view_is) at c.requires.new in
    let big : 2 ≤ c.args.n.0 = held_big (view_of a).diagram c.args.n.0 c.self.invariant.slotted (rw (← c.self.view_is) at c.requires.held) in
    rewritten a c.index_mut-2.result.now c.remove.new.self c.index_mut-3.result.now (c.args.n.0 - 2) c.replace-old.result new c.self.invariant there
    c.index_mut-2.ensures.value c.remove.ensures.puts c.remove.ensures.len h fresh c.index_mut-3.ensures.value
    _ c.add.new.self refl refl refl (ap (λ p. set a.nodes.slots (c.args.n.0 - 2) (Some p)) c.replace-old.ensures.after)
    (puts_at c.index_mut-3.result.now c.add.new.self c.args.low.0 c.args.high.0 c.args.n.0 (c.args.n.0 - 2 + 2) (omega (arith, big)) c.add.ensures.puts) c.add.ensures.len refl

pub returns-clause-rewrites : goal.returns-clause-rewrites
returns-clause-rewrites c =
    let a = c.self.inside in
    let big : 2 ≤ c.args.n.0 = held_big (view_of a).diagram c.args.n.0 c.self.invariant.slotted (rw (← c.self.view_is) at c.requires.held) in
    rw (sym c.self.view_is) (rewrites_at (view_of a).diagram.slots _ (c.args.n.0 - 2 + 2) c.args.n.0 c.replace-old.new.dest (parts c.args.var c.args.low.0 c.args.high.0) (omega (arith, big)) c.replace-old.ensures.after
    (slab_rewrites a.nodes.slots (c.args.n.0 - 2) c.index_mut.result.now c.replace-old.new.dest c.index_mut.ensures.value))

pub returns-clause-spares : goal.returns-clause-spares
returns-clause-spares c = λ w.
    let a = c.self.inside in
    let ts = a.tables.items in
    let was = c.replace-old.result.var in
    let there : get a.nodes (c.args.n.0 - 2) ≡ Some c.replace-old.result = c.index_mut.ensures.value ∙ ap (λ p. Some p) (sym c.replace-old.ensures.value) in
    let within = within_tables a was c.self.invariant (held_var a (c.args.n.0 - 2) c.replace-old.result c.self.invariant there) in
    let mid = set ts was c.remove.new.self in
    let h = has_var a c.args.var c.self.invariant (rw (← c.self.view_is) at c.requires.var) in
    let second : c.args.var < length mid = omega (arith, within_tables a c.args.var c.self.invariant h, length-set ts was c.remove.new.self) in
    let len : length (set mid c.args.var c.add.new.self) ≡ length ts = length-set mid c.args.var c.add.new.self ∙ length-set ts was c.remove.new.self in
    let one = spare_set ts was c.index_mut-2.result.now c.remove.new.self 0 within c.index_mut-2.ensures.value (omega (arith, c.remove.ensures.spare)) in
    let two = spare_set mid c.args.var c.index_mut-3.result.now c.add.new.self 1 second c.index_mut-3.ensures.value (omega (arith, c.add.ensures.spare)) in
    let le = rooms_le a.nodes (with_value a.nodes (c.args.n.0 - 2) c.replace-old.new.dest) ts (set mid c.args.var c.add.new.self) 1 refl
    (let same = same_held a.nodes.slots (c.args.n.0 - 2) c.index_mut.result.now c.replace-old.new.dest c.index_mut.ensures.value in omega (arith, same)) len
    (λ u. omega (arith, one u, two u)) w in
    rw (sym c.self.view_is) le

pub returns-clause-slotted : goal.returns-clause-slotted
returns-clause-slotted c = (invariant_of-self c).slotted
