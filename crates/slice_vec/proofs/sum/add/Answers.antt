use Rattle.std.proofs.Common.{arith, ◌+◌, ◌≡◌, ◌∙◌, ap, suc, ◌<◌, ◌∷◌, [], length, max, length-append}
use Rattle.std.proofs.lemmas.Result.{err_from_is_err_and}
use Rattle.diagram_ops.specs.Bounds.{TakesAtMost}
use Rattle.slice_vec.specs.Bounds.{total, adding, sum_steps}
use Rattle.slice_vec.specs.Slices.{InSum, sum_width, digits_of}
use Rattle.slice_vec.proofs.Bits.{bit_denotes}
use Rattle.slice_vec.proofs.Carried.{place_grows, place_stops, carries_more, top_grows, top_stops}
use Rattle.slice_vec.proofs.Sums.{Ripples, IsAtPlace, ripples_none, place_sum, place_carry, sum_done, place_steps, both_steps, top_steps}
use Rattle.slice_vec.proofs.Bounds.{steps_none, steps_begin, steps_place, steps_stop, steps_all, steps_then}
use Rattle.slice_vec.proofs.sum.add.Given.{Over}
use Rattle.slice_vec.proofs.sum.add.Goals.{After-add_bits, After-odd}
use Rattle.slice_vec.proofs.sum.add.Goals as goal

pub loop-i-init : goal.loop-i-init
loop-i-init g c =
    let u = c.args.d.now in
    let xs = c.args.x.now in let ys = c.args.y.now in
    let none : Ripples u xs ys u c.in_ok-row.row.nodes 0 = rw (ap (λ r. r.nodes) c.in_ok-row.ensures) (ripples_none u xs ys c.cached-cached.ensures.sound) in
    record {
      count = ap (λ r. length r.nodes) c.in_ok-row.ensures;
      room = omega (arith, ap (λ r. r.room) c.in_ok-row.ensures, c.max-width.ensures, c.width.ensures, c.width-2.ensures);
      ripples = none;
      steps = steps_begin (place_steps u.store xs ys) u.store c.args.steps.now;
    }

-- a place of the loop, and its steps
at_place : (g : Over) (c : After-add_bits g) → IsAtPlace c.args.d.now c.loop-i.d c.args.x.now c.args.y.now c.loop-i.row.nodes c.loop-i.carry.0 c.loop-i.i c.bit.result.0 c.bit-in-loop-i.result.0
at_place g c = record {
  began = c.cached-cached.ensures.sound;
  stands_x = c.requires.x;
  stands_y = c.requires.y;
  ripples = c.loop-i.invariant.ripples;
  at = c.loop-i.invariant.count;
  a_is = c.bit.ensures;
  b_is = c.bit-in-loop-i.ensures;
}

within : (g : Over) (c : After-add_bits g) → suc c.loop-i.i < sum_width c.args.x.now c.args.y.now
within g c = omega (arith, c.loop-i-test.true, c.max-width.ensures, c.width.ensures, c.width-2.ensures)

-- the last place, and all steps
wide : (g : Over) (c : After-odd g) → c.max-width.result ≡ max (length c.args.x.now) (length c.args.y.now)
wide g c = omega (arith, c.max-width.ensures, c.width.ensures, c.width-2.ensures)

at_top : (g : Over) (c : After-odd g) → IsAtPlace c.args.d.now c.loop-i.d c.args.x.now c.args.y.now c.loop-i.row.nodes c.loop-i.carry.0 c.max-width.result c.bit-2.result.0 c.bit-3.result.0
at_top g c = record {
  began = c.cached-cached.ensures.sound;
  stands_x = c.requires.x;
  stands_y = c.requires.y;
  ripples = c.loop-i.invariant.ripples;
  at = omega (arith, c.loop-i.invariant.count, c.loop-i-test.false, c.loop-i.auto.i-end);
  a_is = c.bit-2.ensures;
  b_is = c.bit-3.ensures;
}

all_steps : (g : Over) (c : After-odd g) → TakesAtMost (sum_steps c.args.d.now.store c.args.x.now c.args.y.now) c.args.d.now.store c.odd.new.d.store c.args.steps.now c.odd.new.steps
all_steps g c =
    let u = c.args.d.now in let v = c.loop-i.d in let w = c.odd.new.d in let xs = c.args.x.now in let ys = c.args.y.now in let k = max (length xs) (length ys) in
    let before = steps_all (place_steps u.store xs ys) c.loop-i.i k u.store v.store c.args.steps.now c.loop-i.steps (omega (arith, wide g c, c.loop-i-test.false, c.loop-i.auto.i-end)) c.loop-i.invariant.steps in
    steps_then (total (place_steps u.store xs ys) k) (adding u.store (digits_of u.store xs) (digits_of u.store ys) k) u.store v.store w.store c.args.steps.now c.loop-i.steps c.odd.new.steps before
    (top_steps (at_top g c) k w c.loop-i.steps c.odd.new.steps (wide g c) c.odd.ensures.steps)

pub add_bits-requires : goal.add_bits-requires
add_bits-requires g c =
    let u = c.args.d.now in let v = c.loop-i.d in let xs = c.args.x.now in let ys = c.args.y.now in
    let h = c.loop-i.invariant.ripples in let began = c.cached-cached.ensures.sound in
    record {
      sound = h.grows.sound;
      a = (bit_denotes u v (InSum u.store xs ys) xs c.loop-i.i c.bit.result.0 began h.grows c.requires.x c.bit.ensures).live;
      b = (bit_denotes u v (InSum u.store xs ys) ys c.loop-i.i c.bit-in-loop-i.result.0 began h.grows c.requires.y c.bit-in-loop-i.ensures).live;
      c = h.carries.live;
    }

pub returns-in_err-row-clause-steps : goal.returns-in_err-row-clause-steps
returns-in_err-row-clause-steps g c = steps_none c.args.d.now.store (sum_steps c.args.d.now.store c.args.x.now c.args.y.now) c.args.steps.now

pub returns-in_err-place : goal.returns-in_err-place
returns-in_err-place g c =
    let w = (goal.at.returns-in_err-place g c).After-add_bits in
    let place = at_place g w in let less = within g w in
    let u = c.args.d.now in let xs = c.args.x.now in let ys = c.args.y.now in let k = max (length xs) (length ys) in
    let p = err_from_is_err_and c.from_residual-in_err-place.result c.from_residual-in_err-place.ensures.1 in
    rw (p.1, p.2) (record {
      sum = tt;
      grows = place_grows place.ripples place.at (place_sum place) (place_carry place) c.add_bits.new.d less c.add_bits.ensures.grows;
      stop = place_stops place.ripples place.at (place_sum place) (place_carry place) c.add_bits.new.d less c.in_err-place.field-0.0 c.in_err-place.ensures.stop;
      steps = steps_stop (place_steps u.store xs ys) c.loop-i.i k (adding u.store (digits_of u.store xs) (digits_of u.store ys) k) u.store c.loop-i.d.store c.add_bits.new.d.store c.args.steps.now c.loop-i.steps c.add_bits.new.steps (omega (arith, less)) c.loop-i.invariant.steps
          (both_steps place c.add_bits.new.d c.loop-i.steps c.add_bits.new.steps c.add_bits.ensures.steps);
    })

pub loop-i-preserved : goal.loop-i-preserved
loop-i-preserved g c =
    let w = (goal.at.loop-i-preserved g c).After-add_bits in
    let place = at_place g w in
    let u = c.args.d.now in let bit = c.in_ok-place.place.bit.0 in
    record {
      count = omega (arith, ap length c.push.ensures.nodes, length-append c.loop-i.row.nodes (bit ∷ []), c.loop-i.invariant.count);
      room = omega (arith, c.loop-i.invariant.room, c.push.ensures.room);
      ripples = carries_more place.ripples place.at (place_sum place) (place_carry place) c.add_bits.new.d (within g w) c.add_bits.ensures.grows c.in_ok-place.ensures.bit c.in_ok-place.ensures.carry c.push.ensures.nodes;
      steps = steps_place (place_steps u.store c.args.x.now c.args.y.now) c.loop-i.i (c.loop-i.i + 1) u.store c.loop-i.d.store c.add_bits.new.d.store c.args.steps.now c.loop-i.steps c.add_bits.new.steps (omega arith) c.loop-i.invariant.steps
          (both_steps place c.add_bits.new.d c.loop-i.steps c.add_bits.new.steps c.add_bits.ensures.steps);
    }

pub odd-requires : goal.odd-requires
odd-requires g c =
    let u = c.args.d.now in let v = c.loop-i.d in let xs = c.args.x.now in let ys = c.args.y.now in
    let h = c.loop-i.invariant.ripples in let began = c.cached-cached.ensures.sound in
    record {
      sound = h.grows.sound;
      a = (bit_denotes u v (InSum u.store xs ys) xs c.max-width.result c.bit-2.result.0 began h.grows c.requires.x c.bit-2.ensures).live;
      b = (bit_denotes u v (InSum u.store xs ys) ys c.max-width.result c.bit-3.result.0 began h.grows c.requires.y c.bit-3.ensures).live;
      c = h.carries.live;
    }

pub returns-in_err-top : goal.returns-in_err-top
returns-in_err-top g c =
    let w = (goal.at.returns-in_err-top g c).After-odd in
    let place = at_top g w in let less = wide g w in
    let p = err_from_is_err_and c.from_residual-in_err-top.result c.from_residual-in_err-top.ensures.1 in
    rw (p.1, p.2) (record {
      sum = tt;
      grows = top_grows place.ripples place.at (place_sum place) (place_carry place) c.odd.new.d (omega (arith, less)) c.odd.ensures.grows;
      stop = top_stops place.ripples place.at (place_sum place) (place_carry place) c.odd.new.d (omega (arith, less)) c.in_err-top.field-0.0 c.in_err-top.ensures.stop;
      steps = all_steps g w;
    })

pub returns : goal.returns
returns g c =
    let w = (goal.at.returns g c).After-odd in
    let place = at_top g w in let less = wide g w in
    record {
      sum = sum_done place c.odd.new.d c.into_slices.result c.in_ok-top.top.0 less c.requires.width_x c.requires.width_y c.odd.ensures.grows c.in_ok-top.ensures.node (c.into_slices.ensures ∙ c.push-2.ensures.nodes);
      grows = top_grows place.ripples place.at (place_sum place) (place_carry place) c.odd.new.d (omega (arith, less)) c.odd.ensures.grows;
      stop = tt;
      steps = all_steps g w;
    }
