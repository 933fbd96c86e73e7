use Rattle.std.proofs.Common.{◌≡◌, refl, ◌∙◌}
use Rattle.tables.specs.Probing.{at, free, gone}
use Rattle.tables.specs.NodePlaces.{slot_of, slots_of}
use Rattle.tables.specs.declared.node_table.Place.TheVariants.{Free}
use Rattle.tables.proofs.Searching.{at_slots}
use Rattle.tables.proofs.Writing.{vacate_used, vacate_entries, vacate_probed}
use Rattle.tables.proofs.node_table.free_one.Goals as goal

pub returns-then-is_free-clause-entries : goal.returns-then-is_free-clause-entries
returns-then-is_free-clause-entries c =
    let ps = c.args.places.now in
    let here : at (slots_of ps) c.args.index ≡ gone = at_slots slot_of Free refl ps c.args.index ∙ c.is_removed.ensures c.if-is_removed.true in
    vacate_entries slot_of ps Free c.args.index refl c.requires here

pub returns-then-is_free-clause-used : goal.returns-then-is_free-clause-used
returns-then-is_free-clause-used c =
    let ps = c.args.places.now in
    let here : at (slots_of ps) c.args.index ≡ gone = at_slots slot_of Free refl ps c.args.index ∙ c.is_removed.ensures c.if-is_removed.true in
    vacate_used slot_of ps Free c.args.index refl c.requires here

pub returns-then-is_free-clause-probed : goal.returns-then-is_free-clause-probed
returns-then-is_free-clause-probed c = λ start probed.
    let ps = c.args.places.now in
    let next = c.next_of-next.result in
    let here : at (slots_of ps) c.args.index ≡ gone = at_slots slot_of Free refl ps c.args.index ∙ c.is_removed.ensures c.if-is_removed.true in
    let vacant : at (slots_of ps) next ≡ free = at_slots slot_of Free refl ps next ∙ c.is_free.ensures c.if-is_free.true in
    vacate_probed slot_of ps Free c.args.index refl c.requires here next c.next_of-next.ensures.more c.next_of-next.ensures.last vacant start probed
