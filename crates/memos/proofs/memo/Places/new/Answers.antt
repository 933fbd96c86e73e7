use Rattle.std.proofs.Common.{◌≡◌, ℕ, refl, [], length, arith}
use Rattle.tables.specs.Probing.{at, free}
use Rattle.memos.specs.Memo.{Triple}
use Rattle.memos.specs.MemoPlaces.{slots_of, home}
use Rattle.tables.proofs.Probing.{probed_free, used_free, entries_free}
use Rattle.memos.proofs.memo.Places.new.Goals as goal

pub invariant_of-result : goal.invariant_of-result
invariant_of-result c =
    let ps = c.new.result.items in
    let all : (i : ℕ) → at (slots_of 1 ps) i ≡ free = λ i. rw c.new.ensures.items refl in
    let len : length ps ≡ 0 = rw c.new.ensures.items refl in
    record {
      probed = probed_free (home (length ps)) (slots_of 1 ps) all;
      few = omega (arith, used_free (slots_of 1 ps) all);
      size = omega (arith, len);
      past = λ k d lt. absurd (omega (arith, len, lt));
    }

pub returns : goal.returns
returns c = record { empty = rw c.new.ensures.items (entries_free {K = Triple} [] (λ i. refl)) }
