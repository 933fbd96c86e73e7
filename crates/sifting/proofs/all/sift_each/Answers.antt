use Rattle.std.proofs.Common.{◌∷◌, [], length, sym, ◌∙◌, ap, arith}
use Rattle.std.proofs.lemmas.List.{length-append}
use Rattle.diagram_model.specs.Stores.{Diagram}
use Rattle.sifting.specs.Answers.{IsSifted, last_order}
use Rattle.sifting.specs.Sifts.{functions_of, sift_of}
use Rattle.sifting.proofs.Keeps.{keeps_trans}
use Rattle.sifting.proofs.Turns.{count_none, last_none, turns_none, turn_next, last_more}
use Rattle.sifting.proofs.all.sift_each.Goals as goal

pub loop-var-init : goal.loop-var-init
loop-var-init c =
    let d = c.args.d.now.store in
    let t = c.in_ok-tidy.ensures in
    let rs = c.new-all.result.items in
    let none = c.new-all.ensures.items in
    record {
      live = t.roots.live;
      empty = t.empty;
      capacity = t.capacity;
      tidy = t.tidy;
      keeps = t.roots;
      vars_is = c.len-vars.ensures.value ∙ ap length (c.order.ensures ∙ ap (λ (f : Diagram). f.order) c.store.ensures.value);
      count = count_none rs none;
      order = t.order ∙ sym (last_none d.order rs none);
      turns = turns_none (functions_of d c.args.roots.now) d.limit d.order 0 rs none;
    }

pub loop-var-preserved : goal.loop-var-preserved
loop-var-preserved c =
    let d = c.args.d.now.store in
    let e = c.loop-var.d.store in
    let f = c.sift_variable.new.d.store in
    let roots = c.args.roots.now in
    let inv = c.loop-var.invariant in
    let en = c.in_ok-sifted.ensures in
    let r = c.in_ok-sifted.sifted in
    let is : IsSifted (sift_of e roots c.loop-var.var) r = record { at = en.place; order_is = en.order; size_before = en.before; size_after = en.after; ends_down = en.stopped_down; ends_up = en.stopped_up } in
    let items = c.in_ok-push.ensures.items in
    let len = ap length items in
    let more = length-append c.loop-var.all.items (r ∷ []) in
    let count = inv.count in
    let vars_is = inv.vars_is in
    let vars = en.roots.vars in
    record {
      live = en.roots.live;
      empty = en.empty;
      capacity = en.capacity ∙ inv.capacity;
      tidy = en.tidy;
      keeps = keeps_trans d e f roots inv.keeps en.roots;
      vars_is = omega (arith, vars_is, vars);
      count = omega (arith, len, more, count);
      order = en.stands ∙ sym (ap (last_order d.order) items ∙ last_more d.order c.loop-var.all.items r);
      turns = rw items (turn_next d e roots c.loop-var.all.items r c.loop-var.var inv.count inv.keeps inv.order inv.turns is);
    }

pub sift_variable-requires-clause-var : goal.sift_variable-requires-clause-var
sift_variable-requires-clause-var c =
    let vars_is = c.loop-var.invariant.vars_is in
    omega (arith, vars_is, c.loop-var-test.true)

pub returns-clause-count : goal.returns-clause-count
returns-clause-count c =
    let count = c.loop-var.invariant.count in
    let vars_is = c.loop-var.invariant.vars_is in
    let vars = c.loop-var.invariant.keeps.vars in
    omega (arith, count, vars_is, vars, c.loop-var-test.false, c.loop-var.auto.var-end)
