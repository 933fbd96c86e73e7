use Rattle.std.proofs.Common.{◌≡◌, refl, sym, length, ◌∙◌, ap}
use Rattle.std.proofs.lemmas.List.{with_items_is}
use Rattle.tables.specs.NodePlaces.{slots_of}
use Rattle.tables.specs.Probing.{entries_of, used_of}
use Rattle.tables.proofs.Nodes.{refreshed}
use Rattle.tables.proofs.node_table.NodeTable.refresh.Goals as goal

pub invariant_of-self : goal.invariant_of-self
invariant_of-self c =
    let a = c.self.inside in
    let new = c.free_removed-freed.new.places in
    let e = c.free_removed-freed.ensures in
    let was : c.deref_mut.result.now ≡ a.places.items = c.deref_mut.ensures.value in
    let len : length new ≡ length a.places.items = e.len ∙ ap length was in
    refreshed a _ new c.free_removed-freed.result c.self.invariant (with_items_is a.places new (len ∙ sym a.places.ok.0)) refl refl len
    (e.entries ∙ ap (λ l. entries_of (slots_of l)) was) (e.used ∙ ap (λ l. used_of (slots_of l)) was) (λ start p. e.probed start (rw was p))
