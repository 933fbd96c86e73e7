use Rattle.std.proofs.Common.{◌≡◌, ℕ, take, get_or, inl, inr, true, ◌∙◌, ap, arith, refl}
use Rattle.std.proofs.lemmas.Bool.{false≢true}
use Rattle.std.proofs.lemmas.List.{take_all}
use Rattle.diagram_model.specs.Reach.{is_in}
use Rattle.diagram_model.specs.Stores.{HasParts}
use Rattle.node_store.specs.declared.node.Node.{Node}
use Rattle.node_store.specs.Marks.{is_marked, numbers}
use Rattle.node_store.proofs.Counts.{numbers_more, root_reached}
use Rattle.node_store.proofs.Marking.{roots_marked, in_marks, closed_none, none_marked}
use Rattle.node_store.proofs.store.Store.mark_all.Goals as goal

pub loop-root-preserved : goal.loop-root-preserved
loop-root-preserved c =
    let d = c.args.self.now in
    let i = c.loop-root.root-index in
    let ns = c.args.roots.now in
    let z : Node = record { 0 = 0 } in
    let n = get_or ns i z in
    let done = c.mark.ensures in
    record {
      len = omega (arith, c.loop-root.invariant.len, done.len);
      places = λ m at. omega (arith, c.loop-root.invariant.places m at, done.len);
      closed = done.closed;
      roots = rw (numbers_more ns i z c.loop-root-test.true) (roots_marked d (numbers (take i ns)) c.loop-root.marks c.mark.new.marks n.0 c.loop-root.invariant.roots done.keeps done.there);
      reached = λ q h. elim (done.reached (numbers ns) (root_reached d.slots ns i z c.loop-root-test.true) q h) [
        | inl old ↦ c.loop-root.invariant.reached q old
        | inr more ↦ more
      ];
    }

pub loop-root-init : goal.loop-root-init
loop-root-init c = record {
  len = refl;
  places = c.requires.places;
  closed = closed_none c.args.self.now c.args.marks.now c.requires.none;
  roots = λ m h. absurd (false≢true h);
  reached = λ q h. absurd (none_marked c.args.marks.now q c.requires.none h);
}

pub returns-clause-reached : goal.returns-clause-reached
returns-clause-reached c =
    let all : take c.loop-root.root-index c.args.roots.now ≡ c.args.roots.now = take_all c.loop-root.root-index c.args.roots.now c.loop-root-test.false in
    let roots : (m : ℕ) → is_in (numbers c.args.roots.now) m ≡ true → HasParts c.args.self.now m → is_marked c.loop-root.marks m ≡ true =
    λ m h. c.loop-root.invariant.roots m (ap (λ ns. is_in (numbers ns) m) all ∙ h) in
    record {
      held = c.loop-root.invariant.closed.held;
      right = c.loop-root.invariant.reached;
      whole = λ q at h. in_marks c.args.self.now (numbers c.args.roots.now) c.loop-root.marks c.loop-root.invariant.closed roots q h at;
    }
