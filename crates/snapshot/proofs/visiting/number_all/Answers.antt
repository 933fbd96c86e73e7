use Rattle.std.proofs.Common.{◌<◌, sym, subst}
use Rattle.slice_quad.specs.declared.coord.Coord.TheVariants.{A, B, C, D}
use Rattle.snapshot.proofs.VisitingLemmas.{numbered_none, visited_four}
use Rattle.snapshot.proofs.visiting.number_all.Goals as goal

pub visit_bits-requires-clause-stands : goal.visit_bits-requires-clause-stands
visit_bits-requires-clause-stands c = c.requires.stands A

pub visit_bits-requires-clause-kept : goal.visit_bits-requires-clause-kept
visit_bits-requires-clause-kept c =
    numbered_none c.args.store.now c.in_ok-seen.seen c.requires.sound c.in_ok-seen.ensures.nodes (λ n h. subst (λ k. n < k) (sym c.in_ok-seen.ensures.past) (c.past.ensures n h))

pub visit_bits-requires-2-clause-stands : goal.visit_bits-requires-2-clause-stands
visit_bits-requires-2-clause-stands c = c.requires.stands B

pub visit_bits-requires-3-clause-stands : goal.visit_bits-requires-3-clause-stands
visit_bits-requires-3-clause-stands c = c.requires.stands C

pub visit_bits-requires-4-clause-stands : goal.visit_bits-requires-4-clause-stands
visit_bits-requires-4-clause-stands c = c.requires.stands D

pub returns-clause-numbered : goal.returns-clause-numbered
returns-clause-numbered c =
    let q = c.args.q.now in
    visited_four c.args.store.now q.a q.b q.c q.d c.in_ok-seen.seen.nodes c.visit_bits.new.seen.nodes c.visit_bits-2.new.seen.nodes c.visit_bits-3.new.seen.nodes c.visit_bits-4.new.seen.nodes c.requires.sound c.in_ok-seen.ensures.nodes
    c.in_ok-visit_bits.ensures.visited c.in_ok-visit_bits-2.ensures.visited c.in_ok-visit_bits-3.ensures.visited c.in_ok-visit_bits-4.ensures.visited
