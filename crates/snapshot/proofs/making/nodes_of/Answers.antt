use Rattle.std.proofs.Common.{◌<◌, ◌+◌, ◌*◌, ◌∷◌, [], length, get_or, refl, sym, ◌∙◌, ap, subst, arith, length-append}
use Rattle.std.specs.List.{All}
use Rattle.std.proofs.lemmas.List.{length-map}
use Rattle.diagram_model.specs.Stores.{IsLive}
use Rattle.diagram_model.proofs.Growing.{extends_trans}
use Rattle.node_store.specs.declared.node.Node.{Node}
use Rattle.snapshot.specs.Snapshots.{Snapshot, nodes_in}
use Rattle.snapshot.specs.Making.{IsLine, IsMade, AreLinesOf, OnBad}
use Rattle.snapshot.proofs.TextLemmas.{handed_on}
use Rattle.snapshot.proofs.Rebuilding.{AreFirst, lines_nodes, first_none, first_more, first_all, live_more, live_constants, next_line, is_line, on_bad}
use Rattle.snapshot.proofs.making.nodes_of.Goals as goal

pub loop-i-init : goal.loop-i-init
loop-i-init g c =
    let d = c.args.store.now in
    let sound = c.held-held.ensures.sound in
    record {
      sound = sound;
      extends = record { order = refl; limit = refl; kept = λ n p e. e };
      count = sym (length-map c.in_ok-nodes.nodes.items (λ (n : Node). n.0)) ∙ ap length c.in_ok-nodes.ensures;
      live = live_constants d c.in_ok-nodes.nodes.items c.in_ok-nodes.ensures;
      held = omega arith;
      told = λ s h. first_none d s c.in_ok-nodes.nodes.items sound c.in_ok-nodes.ensures;
    }

pub loop-i-preserved : goal.loop-i-preserved
loop-i-preserved g c =
    let d = c.loop-i.store in
    let e = c.node_of.new.store in
    let ns = c.loop-i.nodes.items in
    let lines = c.args.lines.now in
    let i = c.loop-i.i in
    let n = c.in_ok-node.node in
    let inv = c.loop-i.invariant in
    let made = c.in_ok-node.ensures in
    let e-held = made.held in
    let b-held = inv.held in
    record {
      sound = made.sound;
      extends = extends_trans c.args.store.now d e inv.extends made.extends;
      count = (let l = ap length c.in_ok-add.ensures in let k = inv.count in omega (arith, l, k, length-append ns (n ∷ [])));
      live = subst (All (λ (m : Node). IsLive e m.0)) (sym c.in_ok-add.ensures) (live_more d e ns n made.extends inv.live made.made.live);
      held = omega (arith, e-held, b-held);
      told = λ s h.
          (let lt : i < nodes_in s = (let l = lines_nodes c.args.store.now.order lines s h in let t = c.loop-i-test.true in omega (arith, l, t)) in
          subst (λ l. AreFirst e l s (i + 1)) (sym c.in_ok-add.ensures)
          (first_more d e s ns i (get_or lines (3 * i) 0) (get_or lines (3 * i + 1) 0) (get_or lines (3 * i + 2) 0) n inv.sound made.sound made.extends (inv.extends.order ∙ h.order) h.snapshot inv.live (inv.told s h) (next_line s c.args.store.now.order lines i h lt) lt
          (subst (λ l. IsMade e l (get_or lines (3 * i) 0) (get_or lines (3 * i + 1) 0) (get_or lines (3 * i + 2) 0) n.0) c.deref.ensures.value made.made)));
    }

pub returns-in_err-node-clause-bad : goal.returns-in_err-node-clause-bad
returns-in_err-node-clause-bad g c =
    let d = c.loop-i.store in
    let ns = c.loop-i.nodes.items in
    let lines = c.args.lines.now in
    let i = c.loop-i.i in
    let inv = c.loop-i.invariant in
    let x = c.in_err-node.field-0.0 in
    let bad : Type 0 = (s : Snapshot) → AreLinesOf c.args.store.now.order lines s → ⊥ in
    handed_on c.from_residual-in_err-node.result x (OnBad bad) c.from_residual-in_err-node.ensures.1
    (on_bad (IsLine d c.deref.result.now (get_or lines (3 * i) 0) (get_or lines (3 * i + 1) 0) (get_or lines (3 * i + 2) 0) → ⊥) bad x (λ not s h.
    let lt : i < nodes_in s = (let l = lines_nodes c.args.store.now.order lines s h in let t = c.loop-i-test.true in omega (arith, l, t)) in
    not (subst (λ l. IsLine d l (get_or lines (3 * i) 0) (get_or lines (3 * i + 1) 0) (get_or lines (3 * i + 2) 0)) (sym c.deref.ensures.value)
    (is_line d s ns i (get_or lines (3 * i) 0) (get_or lines (3 * i + 1) 0) (get_or lines (3 * i + 2) 0) inv.sound (inv.extends.order ∙ h.order) h.snapshot inv.live (inv.told s h) (next_line s c.args.store.now.order lines i h lt)))) c.in_err-node.ensures.bad)

pub returns-clause-told : goal.returns-clause-told
returns-clause-told g c = λ s h.
    let l = lines_nodes c.args.store.now.order c.args.lines.now s h in
    let t = c.loop-i-test.false in
    let end = c.loop-i.auto.i-end in
    first_all c.loop-i.store s c.loop-i.nodes.items c.loop-i.i h.snapshot (omega (arith, l, t, end)) (c.loop-i.invariant.told s h)

pub returns-clause-held : goal.returns-clause-held
returns-clause-held g c =
    let b = c.loop-i.invariant.held in
    let end = c.loop-i.auto.i-end in
    omega (arith, b, end)
