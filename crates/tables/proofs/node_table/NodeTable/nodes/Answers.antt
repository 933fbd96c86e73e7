use Rattle.std.proofs.Common.{◌++◌, [], ◌∷◌, map, refl, ◌∙◌, ap, sym}
use Rattle.std.proofs.lemmas.List.{append-nil, take_all}
use Rattle.tables.specs.NodePlaces.{slot_of, slots_of}
use Rattle.tables.specs.Probing.{entries_of}
use Rattle.tables.specs.declared.node_table.Place.TheVariants.{Free}
use Rattle.tables.proofs.Listing.{value_of, values_more}
use Rattle.tables.proofs.Nodes.{nodes_listed}
use Rattle.tables.proofs.node_table.NodeTable.nodes.Goals as goal
use Rattle.tables.proofs.node_table.NodeTable.nodes.Goals.{in-Held+in_ok-push-in-Held, in-Removed, in-Free}

pub loop-place-init : goal.loop-place-init
unfolding entries_of
loop-place-init c = c.in_ok-nodes.ensures.items

pub loop-place-preserved : goal.loop-place-preserved
loop-place-preserved c =
    let ps = c.deref-place-items.result.now in
    let more = values_more slot_of Free refl ps c.loop-place.place-index c.loop-place-test.true in
    elim c.match-place.branch [
      | in-Held+in_ok-push-in-Held w ↦ rw (w.nodes-is, more, w.in-Held.is) (w.in_ok-push-in-Held.ensures.items ∙ ap (λ ns. ns ++ w.in-Held.node ∷ []) c.loop-place.invariant)
      | in-Removed w ↦ rw (w.nodes-is, more, w.in-Removed.is, append-nil) c.loop-place.invariant
      | in-Free w ↦ rw (w.nodes-is, more, w.in-Free.is, append-nil) c.loop-place.invariant
    ]

pub returns : goal.returns
returns c =
    let ps = c.self.inside.places.items in
    let all = take_all c.loop-place.place-index c.deref-place-items.result.now c.loop-place-test.false ∙ c.deref-place-items.ensures.value in
    rw (sym c.self.view_is) (nodes_listed ps c.self.inside.room c.loop-place.nodes.items c.self.invariant.probed (c.loop-place.invariant ∙ ap (λ l. map value_of (entries_of (slots_of l))) all))
