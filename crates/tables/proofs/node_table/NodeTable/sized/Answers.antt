use Rattle.std.proofs.Common.{◌≡◌, ℕ, length, arith, ap, refl, replicate, ◌∙◌}
use Rattle.std.proofs.lemmas.List.{length-replicate}
use Rattle.tables.specs.Probing.{at, free}
use Rattle.tables.specs.NodePlaces.{slot_of, slots_of, home}
use Rattle.tables.specs.declared.node_table.Place.TheVariants.{Free}
use Rattle.tables.proofs.Probing.{probed_free, used_free, entries_free}
use Rattle.tables.proofs.Searching.{at_replicate}
use Rattle.tables.proofs.node_table.NodeTable.sized.Goals as goal

pub invariant_of-result : goal.invariant_of-result
invariant_of-result c =
    let ps = c.in_ok-free.free.items in
    let items : ps ≡ replicate c.args.places Free = c.in_ok-free.ensures.items_if_clones_equal (λ y e. e) in
    let all : (i : ℕ) → at (slots_of ps) i ≡ free = λ i. rw items (at_replicate slot_of Free refl c.args.places i Free refl) in
    let len : length ps ≡ c.args.places = ap length items ∙ length-replicate c.args.places Free in
    let used = used_free (slots_of ps) all in
    record {
      probed = probed_free (home (length ps)) (slots_of ps) all;
      few = omega (arith, used, len);
      size = omega (arith, len, c.requires);
      count = omega (arith, ap length (entries_free (slots_of ps) all));
    }

pub returns-clause-empty : goal.returns-clause-empty
returns-clause-empty c =
    let ps = c.in_ok-free.free.items in
    let items : ps ≡ replicate c.args.places Free = c.in_ok-free.ensures.items_if_clones_equal (λ y e. e) in
    let all : (i : ℕ) → at (slots_of ps) i ≡ free = λ i. rw items (at_replicate slot_of Free refl c.args.places i Free refl) in
    entries_free (slots_of ps) all
