use Rattle.std.proofs.Common.{◌≡◌, ℕ, ◌≤◌, take, get_or, inl, inr, true, ◌∙◌, ap, arith}
use Rattle.std.proofs.lemmas.List.{take_all}
use Rattle.diagram_model.specs.Reach.{is_in}
use Rattle.diagram_model.specs.Stores.{HasParts}
use Rattle.node_store.specs.declared.node.Node.{Node}
use Rattle.node_store.proofs.Counts.{numbers, numbers_more, roots_more, root_reached, few_seen, size_of_seen}
use Rattle.node_store.proofs.store.Store.size.Goals as goal

pub loop-root-preserved : goal.loop-root-preserved
loop-root-preserved c =
    let d = c.args.self.now in
    let i = c.loop-root.root-index in
    let ns = c.args.roots.now in
    let z : Node = record { 0 = 0 } in
    let n = get_or ns i z in
    let done = c.in_ok-reach.ensures in
    record {
      closed = done.closed;
      roots = rw (numbers_more ns i z c.loop-root-test.true) (roots_more d (numbers (take i ns)) c.loop-root.seen.keys c.reach.new.seen.keys n.0 c.loop-root.invariant.roots done.keeps done.there);
      reached = λ q h. elim (done.reached (numbers ns) (root_reached d.slots ns i z c.loop-root-test.true) q h) [
        | inl old ↦ c.loop-root.invariant.reached q old
        | inr more ↦ more
      ];
    }

pub overflow_cast-result : goal.overflow_cast-result
overflow_cast-result c =
    let few = few_seen c.args.self.now c.loop-root.seen.keys c.len.ensures.unique c.loop-root.invariant.closed.held in
    let sound = c.alloc.ensures.sound in
    let small : c.len.result ≤ 16777216 = omega (arith, few, sound.few, sound.most, c.len.ensures.len) in
    omega arith

pub returns : goal.returns
returns c =
    let all : take c.loop-root.root-index c.args.roots.now ≡ c.args.roots.now = take_all c.loop-root.root-index c.args.roots.now c.loop-root-test.false in
    let roots : (m : ℕ) → is_in (numbers c.args.roots.now) m ≡ true → HasParts c.args.self.now m → is_in c.loop-root.seen.keys m ≡ true =
    λ m h. c.loop-root.invariant.roots m (ap (λ ns. is_in (numbers ns) m) all ∙ h) in
    c.len.ensures.len ∙ size_of_seen c.args.self.now c.args.roots.now c.loop-root.seen.keys c.alloc.ensures.sound c.requires c.len.ensures.unique c.loop-root.invariant.closed roots c.loop-root.invariant.reached
