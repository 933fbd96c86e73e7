use Rattle.std.proofs.Common.{◌≡◌, ◌+◌, ◌++◌, [], ◌∷◌, take, get_or, arith, ◌∙◌, sym, refl}
use Rattle.std.proofs.lemmas.List.{take_more, take_all}
use Rattle.node_reclaim.specs.Reclaims.{KeepsOthers}
use Rattle.node_reclaim.proofs.Dropped.{dropped_none, dropped_pass, dropped_free}
use Rattle.node_reclaim.proofs.dropping.free_each.Goals as goal
use Rattle.node_reclaim.proofs.dropping.free_each.Goals.{in-Some, in-None}

pub loop-number-init : goal.loop-number-init
loop-number-init c = record {
  others = dropped_none c.args.slots.now.diagram;
  fewer = omega arith;
  order = refl;
  limit = refl;
  made = refl;
}

pub loop-number-preserved : goal.loop-number-preserved
loop-number-preserved c =
    let i = c.loop-number.invariant in
    let d = c.args.slots.now.diagram in
    let e = c.loop-number.slots.diagram in
    let ns = c.args.numbers.now in
    let k = c.loop-number.number-index in
    let n = get_or ns k 0 in
    let more : take (k + 1) ns ≡ take k ns ++ n ∷ [] = take_more ns k 0 c.loop-number-test.true in
    elim c.match-parts_of.branch [
      | in-Some w ↦
          rw w.slots-is (record {
            others = (let h : KeepsOthers d w.free.new.self.diagram (take k ns ++ n ∷ []) = dropped_free d e w.free.new.self.diagram (take k ns) n i.others w.free.ensures.takes in rw more h);
            fewer = omega (arith, i.fewer, w.free.ensures.held);
            order = w.free.ensures.order ∙ i.order;
            limit = w.free.ensures.limit ∙ i.limit;
            made = w.free.ensures.made ∙ i.made;
          })
      | in-None w ↦
          rw w.slots-is (record {
            others = (let h : KeepsOthers d e (take k ns ++ n ∷ []) = dropped_pass d e (take k ns) n i.others (sym c.parts_of.ensures ∙ w.in-None.is) in rw more h);
            fewer = omega (arith, i.fewer);
            order = i.order;
            limit = i.limit;
            made = i.made;
          })
    ]

pub returns-clause-others : goal.returns-clause-others
returns-clause-others c =
    let ns = c.args.numbers.now in
    let all : take c.loop-number.number-index ns ≡ ns = take_all c.loop-number.number-index ns c.loop-number-test.false in
    rw all at c.loop-number.invariant.others
