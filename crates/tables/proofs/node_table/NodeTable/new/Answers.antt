use Rattle.std.proofs.Common.{◌≡◌, ℕ, refl, [], length, arith, ap}
use Rattle.tables.specs.Probing.{at, free}
use Rattle.tables.specs.NodePlaces.{slots_of, home}
use Rattle.tables.proofs.Probing.{probed_free, used_free, entries_free}
use Rattle.tables.proofs.node_table.NodeTable.new.Goals as goal

pub invariant_of-result : goal.invariant_of-result
invariant_of-result c =
    let ps = c.new.result.items in
    let all : (i : ℕ) → at (slots_of ps) i ≡ free = λ i. rw c.new.ensures.items refl in
    let len : length ps ≡ 0 = rw c.new.ensures.items refl in
    record {
      probed = probed_free (home (length ps)) (slots_of ps) all;
      few = omega (arith, used_free (slots_of ps) all);
      size = omega (arith, len);
      count = omega (arith, ap length (entries_free (slots_of ps) all));
    }

pub returns : goal.returns
returns c = record { empty = rw c.new.ensures.items (entries_free [] (λ i. refl)) }
