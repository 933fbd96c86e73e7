use Rattle.std.proofs.Common.{◌≡◌, ◌<◌, length, inl, inr, refl, ap, sym, ◌∙◌, arith}
use Rattle.std.proofs.lemmas.Bool.{cases_lt}
use Rattle.bit_lists.specs.Orders.{has}
use Rattle.slice_vec.specs.Slices.{bit_node, sign_node}
use Rattle.snapshot.specs.Numbers.{visited_all}
use Rattle.snapshot.proofs.VisitingLemmas.{keeps_then, visited_more, bit_is_live}
use Rattle.snapshot.proofs.visiting.visit_bits.Goals as goal

pub loop-i-init : goal.loop-i-init
unfolding visited_all
loop-i-init c = record {
  kept = c.requires.kept;
  there = λ j lt. absurd (omega arith);
  keeps = λ n h. h;
  visited = refl;
}

pub visit-requires-clause-live : goal.visit-requires-clause-live
visit-requires-clause-live c = bit_is_live c.args.store.now c.args.x.now c.loop-i.i c.bit.result.0 c.requires.stands (omega (arith, c.loop-i-test.true, c.width-i-end.ensures)) c.bit.ensures

pub loop-i-preserved : goal.loop-i-preserved
loop-i-preserved c =
    let d = c.args.store.now in
    let xs = c.args.x.now in
    let i = c.loop-i.i in
    let long : i < length xs = omega (arith, c.loop-i-test.true, c.width-i-end.ensures) in
    let done = c.in_ok-visit.ensures in
    record {
      kept = done.kept;
      there = λ j lt. elim (cases_lt j i) [
        | inl less ↦ done.keeps (bit_node xs j) (c.loop-i.invariant.there j less)
        | inr more ↦ (let same : i ≡ j = omega (arith, lt, more) in ap (λ b. has c.visit.new.seen.nodes b) (ap (bit_node xs) (sym same) ∙ sym c.bit.ensures) ∙ done.there)
      ];
      keeps = keeps_then c.args.seen.now.nodes c.loop-i.seen.nodes c.visit.new.seen.nodes c.loop-i.invariant.keeps done.keeps;
      visited = visited_more d xs c.args.seen.now.nodes c.loop-i.seen.nodes c.visit.new.seen.nodes i c.bit.result.0 (sign_node xs) long c.bit.ensures c.loop-i.invariant.visited done.visited;
    }
