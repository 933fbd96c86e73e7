use Rattle.std.proofs.Common.{◌≡◌, ◌≤◌, ℕ, refl, length, arith, ap, replicate, ◌∙◌}
use Rattle.std.proofs.lemmas.List.{length-replicate}
use Rattle.std.proofs.lemmas.List.Elements.{All-replicate}
use Rattle.tables.specs.Probing.{at, free}
use Rattle.memos.specs.MemoPlaces.{slot_of, slots_of, home}
use Rattle.memos.specs.declared.memo.Place.{Place}
use Rattle.tables.proofs.Probing.{probed_free, used_free, entries_free}
use Rattle.tables.proofs.Searching.{at_replicate}
use Rattle.memos.proofs.Memos.{blank, blank_free}
use Rattle.memos.proofs.memo.Places.sized.Goals as goal

pub invariant_of-result : goal.invariant_of-result
invariant_of-result c =
    let ps = c.in_ok-places_free.places_free.items in
    let z : Place = record { f = 0; g = 0; h = 0; node = 0; stamp = 0 } in
    let items : ps ≡ replicate c.args.places z = c.in_ok-places_free.ensures.items_if_clones_equal (λ y e. e) in
    let all : (i : ℕ) → at (slots_of 1 ps) i ≡ free = λ i. rw items (at_replicate (slot_of 1) (blank 1) (blank_free 1) c.args.places i z refl) in
    let len : length ps ≡ c.args.places = ap length items ∙ length-replicate c.args.places z in
    let used = used_free (slots_of 1 ps) all in
    record {
      probed = probed_free (home (length ps)) (slots_of 1 ps) all;
      few = omega (arith, used, len);
      size = omega (arith, len, c.requires);
      past = rw items (All-replicate (λ (x : Place). x.stamp ≤ 1) c.args.places z (omega arith));
    }

pub returns-clause-empty : goal.returns-clause-empty
returns-clause-empty c =
    let ps = c.in_ok-places_free.places_free.items in
    let z : Place = record { f = 0; g = 0; h = 0; node = 0; stamp = 0 } in
    let items : ps ≡ replicate c.args.places z = c.in_ok-places_free.ensures.items_if_clones_equal (λ y e. e) in
    let all : (i : ℕ) → at (slots_of 1 ps) i ≡ free = λ i. rw items (at_replicate (slot_of 1) (blank 1) (blank_free 1) c.args.places i z refl) in
    entries_free (slots_of 1 ps) all
