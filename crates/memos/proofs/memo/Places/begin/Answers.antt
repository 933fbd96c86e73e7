use Rattle.std.proofs.Common.{◌≡◌, ℕ, refl, [], length, arith, ◌+◌}
use Rattle.tables.specs.Probing.{at, free}
use Rattle.memos.specs.Memo.{Triple}
use Rattle.memos.specs.MemoPlaces.{slots_of, home}
use Rattle.tables.proofs.Probing.{probed_free, used_free, entries_free}
use Rattle.memos.proofs.Memos.{all_past}
use Rattle.memos.proofs.memo.Places.begin.Goals as goal

pub invariant_of-self : goal.invariant_of-self
invariant_of-self c =
    let ps = c.clear.new.self.items in
    let all : (i : ℕ) → at (slots_of 1 ps) i ≡ free = λ i. rw c.clear.ensures.items refl in
    let len : length ps ≡ 0 = rw c.clear.ensures.items refl in
    record {
      probed = probed_free (home (length ps)) (slots_of 1 ps) all;
      few = omega (arith, used_free (slots_of 1 ps) all);
      size = omega (arith, len);
      past = λ k d lt. absurd (omega (arith, len, lt));
    }

pub returns-then-self : goal.returns-then-self
returns-then-self c = record { empty = rw c.clear.ensures.items (entries_free {K = Triple} [] (λ i. refl)) }

pub invariant_of-self-2 : goal.invariant_of-self-2
invariant_of-self-2 c =
    let ps = c.self.inside.places.items in
    let st = c.self.inside.stamp in
    let all = all_past st ps c.self.invariant.past in
    let used = used_free (slots_of (st + 1) ps) all in
    record {
      probed = probed_free (home (length ps)) (slots_of (st + 1) ps) all;
      few = omega (arith, used, c.len.ensures, c.len-2.ensures);
      size = c.self.invariant.size;
      past = λ k d lt. omega (arith, c.self.invariant.past k d lt);
    }

pub returns : goal.returns
returns c = record { empty = entries_free (slots_of (c.self.inside.stamp + 1) c.self.inside.places.items) (all_past c.self.inside.stamp c.self.inside.places.items c.self.invariant.past) }
