use Rattle.std.proofs.Common.{arith, ◌+◌, ◌∙◌, ap, ◌<◌, ◌∷◌, [], length, length-append}
use Rattle.std.proofs.lemmas.Result.{err_from_is_err_and}
use Rattle.diagram_model.specs.Stores.{function_of}
use Rattle.diagram_ops.specs.Bounds.{TakesAtMost}
use Rattle.slice_vec.specs.Bounds.{total, negating, negation_steps}
use Rattle.slice_vec.specs.Slices.{InNegation, digits_of}
use Rattle.slice_vec.proofs.Bits.{bit_denotes}
use Rattle.slice_vec.proofs.Carried.{place_grows, place_stops, carries_more, top_grows, top_stops}
use Rattle.slice_vec.proofs.Negations.{Negates, IsAtBit, negates_none, bit_is, next_is, negation_done, bit_steps, both_steps, sign_steps}
use Rattle.slice_vec.proofs.Bounds.{steps_none, steps_begin, steps_place, steps_stop, steps_all, steps_then}
use Rattle.slice_vec.proofs.negation.negate_where.Given.{Over}
use Rattle.slice_vec.proofs.negation.negate_where.Goals.{After-negate_bits, After-odd}
use Rattle.slice_vec.proofs.negation.negate_where.Goals as goal

pub loop-i-init : goal.loop-i-init
loop-i-init g c =
    let u = c.args.d.now in
    let xs = c.args.x.now in let n = c.args.n.0 in
    let none : Negates u n xs u c.in_ok-row.row.nodes n = rw (ap (λ r. r.nodes) c.in_ok-row.ensures) (negates_none u n xs c.cached-cached.ensures.sound c.requires.n) in
    record {
      count = ap (λ r. length r.nodes) c.in_ok-row.ensures;
      room = omega (arith, ap (λ r. r.room) c.in_ok-row.ensures, c.width-width.ensures);
      negates = none;
      steps = steps_begin (bit_steps u.store n xs) u.store c.args.steps.now;
    }

-- a place of the loop
at_bit : (g : Over) (c : After-negate_bits g) → IsAtBit c.args.d.now c.loop-i.d c.args.n.0 c.args.x.now c.loop-i.row.nodes c.loop-i.carry.0 c.loop-i.i c.bit.result.0
at_bit g c = record {
  began = c.cached-cached.ensures.sound;
  stands = c.requires.x;
  live = c.requires.n;
  negates = c.loop-i.invariant.negates;
  at = c.loop-i.invariant.count;
  a_is = c.bit.ensures;
}

within : (g : Over) (c : After-negate_bits g) → c.loop-i.i < length c.args.x.now
within g c = omega (arith, c.loop-i-test.true, c.width-width.ensures)

-- the last place, and all steps
at_sign : (g : Over) (c : After-odd g) → IsAtBit c.args.d.now c.loop-i.d c.args.n.0 c.args.x.now c.loop-i.row.nodes c.loop-i.carry.0 c.width-width.result c.bit-2.result.0
at_sign g c = record {
  began = c.cached-cached.ensures.sound;
  stands = c.requires.x;
  live = c.requires.n;
  negates = c.loop-i.invariant.negates;
  at = omega (arith, c.loop-i.invariant.count, c.loop-i-test.false, c.loop-i.auto.i-end);
  a_is = c.bit-2.ensures;
}

all_steps : (g : Over) (c : After-odd g) → TakesAtMost (negation_steps c.args.d.now.store c.args.n.0 c.args.x.now) c.args.d.now.store c.odd.new.d.store c.args.steps.now c.odd.new.steps
all_steps g c =
    let u = c.args.d.now in let v = c.loop-i.d in let w = c.odd.new.d in let xs = c.args.x.now in let n = c.args.n.0 in let k = length xs in
    let before = steps_all (bit_steps u.store n xs) c.loop-i.i k u.store v.store c.args.steps.now c.loop-i.steps (omega (arith, c.width-width.ensures, c.loop-i-test.false, c.loop-i.auto.i-end)) c.loop-i.invariant.steps in
    steps_then (total (bit_steps u.store n xs) k) (negating u.store (function_of u.store n) (digits_of u.store xs) k) u.store v.store w.store c.args.steps.now c.loop-i.steps c.odd.new.steps before
    (sign_steps (at_sign g c) k w c.loop-i.steps c.odd.new.steps c.width-width.ensures c.odd.ensures.steps)

pub negate_bits-requires-clause-a : goal.negate_bits-requires-clause-a
negate_bits-requires-clause-a g c =
    let u = c.args.d.now in let xs = c.args.x.now in
    (bit_denotes u c.loop-i.d (InNegation u.store c.args.n.0 xs) xs c.loop-i.i c.bit.result.0 c.cached-cached.ensures.sound c.loop-i.invariant.negates.grows c.requires.x c.bit.ensures).live

pub returns-in_err-row-clause-steps : goal.returns-in_err-row-clause-steps
returns-in_err-row-clause-steps g c = steps_none c.args.d.now.store (negation_steps c.args.d.now.store c.args.n.0 c.args.x.now) c.args.steps.now

pub returns-in_err-place : goal.returns-in_err-place
returns-in_err-place g c =
    let w = (goal.at.returns-in_err-place g c).After-negate_bits in
    let place = at_bit g w in let less = within g w in
    let u = c.args.d.now in let xs = c.args.x.now in let n = c.args.n.0 in let k = length xs in
    let p = err_from_is_err_and c.from_residual-in_err-place.result c.from_residual-in_err-place.ensures.1 in
    rw (p.1, p.2) (record {
      negation = tt;
      grows = place_grows place.negates place.at (bit_is place) (next_is place) c.negate_bits.new.d (omega (arith, less)) c.negate_bits.ensures.grows;
      stop = place_stops place.negates place.at (bit_is place) (next_is place) c.negate_bits.new.d (omega (arith, less)) c.in_err-place.field-0.0 c.in_err-place.ensures.stop;
      steps = steps_stop (bit_steps u.store n xs) c.loop-i.i k (negating u.store (function_of u.store n) (digits_of u.store xs) k) u.store c.loop-i.d.store c.negate_bits.new.d.store c.args.steps.now c.loop-i.steps c.negate_bits.new.steps less c.loop-i.invariant.steps
          (both_steps place c.negate_bits.new.d c.loop-i.steps c.negate_bits.new.steps c.negate_bits.ensures.steps);
    })

pub loop-i-preserved : goal.loop-i-preserved
loop-i-preserved g c =
    let w = (goal.at.loop-i-preserved g c).After-negate_bits in
    let place = at_bit g w in
    let u = c.args.d.now in let bit = c.in_ok-place.place.bit.0 in
    record {
      count = omega (arith, ap length c.push.ensures.nodes, length-append c.loop-i.row.nodes (bit ∷ []), c.loop-i.invariant.count);
      room = omega (arith, c.loop-i.invariant.room, c.push.ensures.room);
      negates = carries_more place.negates place.at (bit_is place) (next_is place) c.negate_bits.new.d (omega (arith, within g w)) c.negate_bits.ensures.grows c.in_ok-place.ensures.bit c.in_ok-place.ensures.carry c.push.ensures.nodes;
      steps = steps_place (bit_steps u.store c.args.n.0 c.args.x.now) c.loop-i.i (c.loop-i.i + 1) u.store c.loop-i.d.store c.negate_bits.new.d.store c.args.steps.now c.loop-i.steps c.negate_bits.new.steps (omega arith) c.loop-i.invariant.steps
          (both_steps place c.negate_bits.new.d c.loop-i.steps c.negate_bits.new.steps c.negate_bits.ensures.steps);
    }

pub returns-in_err-top : goal.returns-in_err-top
returns-in_err-top g c =
    let w = (goal.at.returns-in_err-top g c).After-odd in
    let place = at_sign g w in
    let p = err_from_is_err_and c.from_residual-in_err-top.result c.from_residual-in_err-top.ensures.1 in
    rw (p.1, p.2) (record {
      negation = tt;
      grows = top_grows place.negates place.at (bit_is place) (next_is place) c.odd.new.d (omega (arith, c.width-width.ensures)) c.odd.ensures.grows;
      stop = top_stops place.negates place.at (bit_is place) (next_is place) c.odd.new.d (omega (arith, c.width-width.ensures)) c.in_err-top.field-0.0 c.in_err-top.ensures.stop;
      steps = all_steps g w;
    })

pub returns : goal.returns
returns g c =
    let w = (goal.at.returns g c).After-odd in
    let place = at_sign g w in
    record {
      negation = negation_done place c.odd.new.d c.into_slices.result c.in_ok-top.top.0 c.width-width.ensures c.requires.width c.odd.ensures.grows c.in_ok-top.ensures.node (c.into_slices.ensures ∙ c.push-2.ensures.nodes);
      grows = top_grows place.negates place.at (bit_is place) (next_is place) c.odd.new.d (omega (arith, c.width-width.ensures)) c.odd.ensures.grows;
      stop = tt;
      steps = all_steps g w;
    }
