use Rattle.std.proofs.Common.{◌≡◌, None, Some, ℕ, refl, sym, ◌∙◌, length, arith}
use Rattle.std.proofs.lemmas.List.{length-set}
use Rattle.tables.specs.Probing.{entries_of}
use Rattle.tables.specs.NodeTable.{found_in}
use Rattle.tables.specs.NodePlaces.{slot_of, slots_of, home}
use Rattle.tables.specs.Searching.{LocateMeans}
use Rattle.tables.specs.declared.node_table.Place.TheVariants.{Free, Removed}
use Rattle.tables.specs.declared.probe.Probe.TheVariants.{Found, Vacant, Full}
use Rattle.tables.proofs.Probing.{absent_vacant}
use Rattle.tables.proofs.Searching.{absent_full, find_absent}
use Rattle.tables.proofs.Writing.{remove_probed, remove_used, remove_count}
use Rattle.tables.proofs.Nodes.{is_key, key_test, remove_puts, absent_puts}
use Rattle.tables.proofs.node_table.NodeTable.remove.Goals as goal

pub overflow_sub-self : goal.overflow_sub-self
overflow_sub-self c =
    let ps = c.self.inside.places.items in
    let low = c.args.low in let high = c.args.high in
    let h : LocateMeans slot_of ps (home (length ps) (low, high)) (low, high) (Found c.in-Found.index c.in-Found.node) = rw (sym c.deref.ensures.value) c.in-Found.ensures in
    let count = remove_count home slot_of ps Removed (low, high) c.in-Found.node c.in-Found.index refl c.self.invariant.probed h.1 in
    omega (arith, count, c.self.invariant.count)

pub invariant_of-self : goal.invariant_of-self
invariant_of-self c =
    let ps = c.self.inside.places.items in
    let low = c.args.low in let high = c.args.high in let i = c.in-Found.index in let n = c.in-Found.node in
    let p = c.self.invariant in
    let h : LocateMeans slot_of ps (home (length ps) (low, high)) (low, high) (Found i n) = rw (sym c.deref.ensures.value) c.in-Found.ensures in
    let used = remove_used home slot_of ps Removed (low, high) n i refl p.probed h.1 in
    let len = length-set ps i Removed in
    record {
      probed = remove_probed home slot_of ps Removed (low, high) n i refl p.probed h.1;
      few = omega (arith, used, len, p.few);
      size = omega (arith, len, p.size);
      count = omega (arith, remove_count home slot_of ps Removed (low, high) n i refl p.probed h.1, p.count);
    }

pub returns-in-Found-clause-puts : goal.returns-in-Found-clause-puts
returns-in-Found-clause-puts c =
    let ps = c.self.inside.places.items in
    let low = c.args.low in let high = c.args.high in
    let h : LocateMeans slot_of ps (home (length ps) (low, high)) (low, high) (Found c.in-Found.index c.in-Found.node) = rw (sym c.deref.ensures.value) c.in-Found.ensures in
    rw (sym c.self.view_is) (remove_puts ps low high c.in-Found.node c.in-Found.index _ _ c.self.invariant.probed h.1)

pub returns-in-Vacant-clause-puts : goal.returns-in-Vacant-clause-puts
returns-in-Vacant-clause-puts c =
    let ps = c.self.inside.places.items in
    let low = c.args.low in let high = c.args.high in
    let h : LocateMeans slot_of ps (home (length ps) (low, high)) (low, high) (Vacant c.in-Vacant.index) = rw (sym c.deref.ensures.value) c.in-Vacant.ensures in
    rw (sym c.self.view_is) (absent_puts ps low high c.self.inside.room (absent_vacant (home (length ps)) (slots_of ps) (low, high) c.in-Vacant.index c.self.invariant.probed h))

pub returns-in-Full-clause-puts : goal.returns-in-Full-clause-puts
returns-in-Full-clause-puts c =
    let ps = c.self.inside.places.items in
    let low = c.args.low in let high = c.args.high in
    let h : LocateMeans slot_of ps (home (length ps) (low, high)) (low, high) Full = rw (sym c.deref.ensures.value) c.in-Full.ensures in
    rw (sym c.self.view_is) (absent_puts ps low high c.self.inside.room (absent_full slot_of Free refl ps (low, high) h))

none_some : (n : ℕ) → None ≡ Some n → ⊥
none_some n e = cc

pub returns-in-Found-clause-len : goal.returns-in-Found-clause-len
returns-in-Found-clause-len c = λ n is.
    let ps = c.self.inside.places.items in
    let low = c.args.low in let high = c.args.high in
    let h : LocateMeans slot_of ps (home (length ps) (low, high)) (low, high) (Found c.in-Found.index c.in-Found.node) = rw (sym c.deref.ensures.value) c.in-Found.ensures in
    rw (sym c.self.view_is) (remove_count home slot_of ps Removed (low, high) c.in-Found.node c.in-Found.index refl c.self.invariant.probed h.1)

pub returns-in-Vacant-clause-len : goal.returns-in-Vacant-clause-len
returns-in-Vacant-clause-len c = λ n is.
    let ps = c.self.inside.places.items in
    let low = c.args.low in let high = c.args.high in
    let h : LocateMeans slot_of ps (home (length ps) (low, high)) (low, high) (Vacant c.in-Vacant.index) = rw (sym c.deref.ensures.value) c.in-Vacant.ensures in
    let there : found_in (entries_of (slots_of ps)) low high ≡ Some n = rw (← c.self.view_is) at is in
    absurd (none_some n (sym (find_absent (is_key low high) (low, high) (key_test low high) (slots_of ps) (absent_vacant (home (length ps)) (slots_of ps) (low, high) c.in-Vacant.index c.self.invariant.probed h)) ∙ there))

pub returns-in-Full-clause-len : goal.returns-in-Full-clause-len
returns-in-Full-clause-len c = λ n is.
    let ps = c.self.inside.places.items in
    let low = c.args.low in let high = c.args.high in
    let h : LocateMeans slot_of ps (home (length ps) (low, high)) (low, high) Full = rw (sym c.deref.ensures.value) c.in-Full.ensures in
    let there : found_in (entries_of (slots_of ps)) low high ≡ Some n = rw (← c.self.view_is) at is in
    absurd (none_some n (sym (find_absent (is_key low high) (low, high) (key_test low high) (slots_of ps) (absent_full slot_of Free refl ps (low, high) h)) ∙ there))
