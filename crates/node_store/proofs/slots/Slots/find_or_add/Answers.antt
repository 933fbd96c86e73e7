use Rattle.std.proofs.Common.{◌≡◌, ◌<◌, ◌≤◌, ◌+◌, length, arith, refl, sym, ◌∙◌, inl, inr}
use Rattle.diagram_model.specs.Stores.{held}
use Rattle.node_store.specs.Slots.{parts}
use Rattle.node_store.specs.Stored.{view_of}
use Rattle.node_store.proofs.Finding.{found_old, found_new, put_stored, puts_new, room_left, vacant_same, updates_same}
use Rattle.node_store.proofs.Kept.{has_var}
use Rattle.node_store.proofs.slots.Slots.find_or_add.Goals as goal

pub returns-in-Some-clause-puts : goal.returns-in-Some-clause-puts
returns-in-Some-clause-puts c =
    let a = c.self.inside in
    let v = c.args.var in let l = c.args.low.0 in let g = c.args.high.0 in
    let lt : v < length a.order = rw (← c.self.view_is) at c.requires.var in
    let h = has_var a v c.self.invariant lt in
    rw (sym c.self.view_is) (inl (found_old a v l g c.in-Some.node c.index.result.now c.node.result c.self.invariant h c.index.ensures (c.node.ensures ∙ c.seek-end.ensures.node) c.in-Some.is, refl))

pub returns-then-held-self-clause-stop : goal.returns-then-held-self-clause-stop
returns-then-held-self-clause-stop c =
    let a = c.self.inside in
    let v = c.args.var in let l = c.args.low.0 in let g = c.args.high.0 in
    let lt : v < length a.order = rw (← c.self.view_is) at c.requires.var in
    let h = has_var a v c.self.invariant lt in
    let new = found_new a v l g c.index.result.now c.node.result c.self.invariant h c.index.ensures (c.node.ensures ∙ c.seek-end.ensures.node) c.in_default.is in
    let all : c.len-held.result ≡ held (view_of a).diagram = c.len-held.ensures in
    rw (sym c.self.view_is) (c.if-held-self.true, sym all ∙ c.if-held-self.true, new)

pub invariant_of-self-2 : goal.invariant_of-self-2
invariant_of-self-2 c =
    let a = c.self.inside in
    let v = c.args.var in let l = c.args.low.0 in let g = c.args.high.0 in
    let lt : v < length a.order = rw (← c.self.view_is) at c.requires.var in
    let h = has_var a v c.self.invariant lt in
    let new = found_new a v l g c.index.result.now c.node.result c.self.invariant h c.index.ensures (c.node.ensures ∙ c.seek-end.ensures.node) c.in_default.is in
    let all : c.len-held.result ≡ held (view_of a).diagram = c.len-held.ensures in
    let room : held (view_of a).diagram < a.limit = room_left (view_of a).diagram c.len-held.result c.self.invariant.slotted all c.if-held-self.false in
    put_stored a _ c.index_mut-table.result.now c.add_at.new.self c.insert_reserved.result c.in_ok-node.field-0 v l g c.self.invariant refl refl
    (let le : a.past ≤ c.max-self-inside.result = omega (arith, c.max-self-inside.ensures) in le) (let num : c.in_ok-node.field-0 + 2 < c.max-self-inside.result = omega (arith, c.max-self-inside.ensures) in num)
    (c.insert_reserved.ensures.key ∙ sym c.in_ok-node.ensures.key) (vacant_same a.nodes c.free_key.new.nodes c.insert_reserved.result c.free_key.ensures.kept c.insert_reserved.ensures.was_vacant)
    (updates_same a.nodes c.free_key.new.nodes c.insert_reserved.new.self c.insert_reserved.result (parts v l g) c.free_key.ensures.kept c.insert_reserved.ensures.updates) c.in-Ok.ensures.len refl h new room c.index_mut-table.ensures.value c.in-Ok.ensures.puts

pub returns-clause-slotted : goal.returns-clause-slotted
returns-clause-slotted c = (invariant_of-self-2 c).slotted

pub returns-clause-puts : goal.returns-clause-puts
returns-clause-puts c =
    let a = c.self.inside in
    let v = c.args.var in let l = c.args.low.0 in let g = c.args.high.0 in
    let lt : v < length a.order = rw (← c.self.view_is) at c.requires.var in
    let h = has_var a v c.self.invariant lt in
    let new = found_new a v l g c.index.result.now c.node.result c.self.invariant h c.index.ensures (c.node.ensures ∙ c.seek-end.ensures.node) c.in_default.is in
    let all : c.len-held.result ≡ held (view_of a).diagram = c.len-held.ensures in
    let room : held (view_of a).diagram < a.limit = room_left (view_of a).diagram c.len-held.result c.self.invariant.slotted all c.if-held-self.false in
    rw (sym c.self.view_is) (inr (puts_new _ _ a.nodes c.insert_reserved.new.self c.insert_reserved.result c.in_ok-node.field-0 (parts v l g) refl refl
    (c.insert_reserved.ensures.key ∙ sym c.in_ok-node.ensures.key) (vacant_same a.nodes c.free_key.new.nodes c.insert_reserved.result c.free_key.ensures.kept c.insert_reserved.ensures.was_vacant)
    (updates_same a.nodes c.free_key.new.nodes c.insert_reserved.new.self c.insert_reserved.result (parts v l g) c.free_key.ensures.kept c.insert_reserved.ensures.updates) new room))
