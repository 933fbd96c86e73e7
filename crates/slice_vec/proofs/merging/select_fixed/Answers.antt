use Rattle.std.proofs.Common.{arith, ◌+◌, ◌≡◌, ap, ◌<◌, ◌∷◌, [], length, max, length-append}
use Rattle.std.proofs.lemmas.Result.{err_from_is_err_and}
use Rattle.diagram_ops.specs.Diagrams.{variable_of}
use Rattle.slice_vec.specs.Bounds.{merging, merge_steps}
use Rattle.slice_vec.specs.Digits.{chosen, fixed}
use Rattle.slice_vec.specs.Growing.{Denotes}
use Rattle.slice_vec.specs.Slices.{digits_of}
use Rattle.slice_vec.proofs.Bits.{bit_denotes}
use Rattle.slice_vec.proofs.Growing.{denotes_on}
use Rattle.slice_vec.proofs.Followed.{Follows, follows_none, next_grows, next_stops, follows_more}
use Rattle.slice_vec.proofs.Joined.{merge_is, merged_joint, merged_done}
use Rattle.slice_vec.proofs.Bounds.{steps_none, steps_begin, steps_place, steps_short, steps_all}
use Rattle.slice_vec.proofs.merging.select_fixed.Given.{Over}
use Rattle.slice_vec.proofs.merging.select_fixed.Goals.{After-merge_bit}
use Rattle.slice_vec.proofs.merging.select_fixed.Goals as goal

pub loop-i-init : goal.loop-i-init
loop-i-init g c =
    let u = c.args.d.now in
    let xs = c.args.x.now in let ys = c.args.y.now in let t = c.args.var in let bit = c.args.bit in
    let k = max (length xs) (length ys) in
    let s = chosen (variable_of t) (fixed t bit (digits_of u.store xs)) (fixed t bit (digits_of u.store ys)) in
    let none : Follows u k s u c.in_ok-row.row.nodes = rw (ap (λ r. r.nodes) c.in_ok-row.ensures) (follows_none u k s c.cached-cached.ensures.sound) in
    record {
      count = ap (λ r. length r.nodes) c.in_ok-row.ensures;
      room = omega (arith, ap (λ r. r.room) c.in_ok-row.ensures, c.max-width.ensures, c.width.ensures, c.width-2.ensures);
      follows = none;
      steps = steps_begin (λ j. merging u.store t bit (digits_of u.store xs j) (digits_of u.store ys j)) u.store c.args.steps.now;
    }

-- both bits of a place
bits : (g : Over) (c : After-merge_bit g) → Denotes c.loop-i.d.store c.bit.result.0 (digits_of c.args.d.now.store c.args.x.now c.loop-i.i) × Denotes c.loop-i.d.store c.bit-in-loop-i.result.0 (digits_of c.args.d.now.store c.args.y.now c.loop-i.i)
bits g c =
    let u = c.args.d.now in let v = c.loop-i.d in let began = c.cached-cached.ensures.sound in let h = c.loop-i.invariant.follows in
    (bit_denotes u v _ c.args.x.now c.loop-i.i c.bit.result.0 began h.grows c.requires.x c.bit.ensures, bit_denotes u v _ c.args.y.now c.loop-i.i c.bit-in-loop-i.result.0 began h.grows c.requires.y c.bit-in-loop-i.ensures)

within : (g : Over) (c : After-merge_bit g) → c.loop-i.i < max (length c.args.x.now) (length c.args.y.now)
within g c = omega (arith, c.loop-i-test.true, c.max-width.ensures, c.width.ensures, c.width-2.ensures)

pub merge_bit-requires : goal.merge_bit-requires
merge_bit-requires g c =
    let u = c.args.d.now in let v = c.loop-i.d in let began = c.cached-cached.ensures.sound in let h = c.loop-i.invariant.follows in
    record {
      sound = h.grows.sound;
      n = denotes_on u v _ c.args.n.0 (variable_of c.args.var) began h.grows c.requires.n;
      a = (bit_denotes u v _ c.args.x.now c.loop-i.i c.bit.result.0 began h.grows c.requires.x c.bit.ensures).live;
      b = (bit_denotes u v _ c.args.y.now c.loop-i.i c.bit-in-loop-i.result.0 began h.grows c.requires.y c.bit-in-loop-i.ensures).live;
      var = rw h.grows.extends.order c.requires.var;
    }

pub returns-in_err-row-clause-steps : goal.returns-in_err-row-clause-steps
returns-in_err-row-clause-steps g c = steps_none c.args.d.now.store (merge_steps c.args.d.now.store c.args.var c.args.bit c.args.x.now c.args.y.now) c.args.steps.now

pub returns-in_err-merged : goal.returns-in_err-merged
returns-in_err-merged g c =
    let w = (goal.at.returns-in_err-merged g c).After-merge_bit in
    let both = bits g w in let less = within g w in
    let u = c.args.d.now in let v = c.loop-i.d in let e = c.merge_bit.new.d in let xs = c.args.x.now in let ys = c.args.y.now in let h = c.loop-i.invariant.follows in
    let same = merge_is u v c.args.var c.args.bit xs ys c.loop-i.i c.bit.result.0 c.bit-in-loop-i.result.0 both.0 both.1 in
    let p = err_from_is_err_and c.from_residual-in_err-merged.result c.from_residual-in_err-merged.ensures.1 in
    rw (p.1, p.2) (record {
      merged = tt;
      grows = next_grows h c.loop-i.invariant.count same less e c.merge_bit.ensures.grows;
      stop = next_stops h c.loop-i.invariant.count same less e c.in_err-merged.field-0.0 c.in_err-merged.ensures.stop;
      steps = steps_short (λ j. merging u.store c.args.var c.args.bit (digits_of u.store xs j) (digits_of u.store ys j)) c.loop-i.i (max (length xs) (length ys)) u.store v.store e.store c.args.steps.now c.loop-i.steps c.merge_bit.new.steps less c.loop-i.invariant.steps
          (merged_joint u v c.args.var c.args.bit xs ys c.loop-i.i c.bit.result.0 c.bit-in-loop-i.result.0 e c.loop-i.steps c.merge_bit.new.steps h.grows.extends both.0 both.1 c.merge_bit.ensures.steps);
    })

pub loop-i-preserved : goal.loop-i-preserved
loop-i-preserved g c =
    let w = (goal.at.loop-i-preserved g c).After-merge_bit in
    let both = bits g w in let less = within g w in
    let u = c.args.d.now in let v = c.loop-i.d in let e = c.merge_bit.new.d in let xs = c.args.x.now in let ys = c.args.y.now in let h = c.loop-i.invariant.follows in
    let same = merge_is u v c.args.var c.args.bit xs ys c.loop-i.i c.bit.result.0 c.bit-in-loop-i.result.0 both.0 both.1 in
    record {
      count = omega (arith, ap length c.push.ensures.nodes, length-append c.loop-i.row.nodes (c.in_ok-merged.merged.0 ∷ []), c.loop-i.invariant.count);
      room = omega (arith, c.loop-i.invariant.room, c.push.ensures.room);
      follows = follows_more h c.loop-i.invariant.count same less e c.merge_bit.ensures.grows c.in_ok-merged.ensures.node c.push.ensures.nodes;
      steps = steps_place (λ j. merging u.store c.args.var c.args.bit (digits_of u.store xs j) (digits_of u.store ys j)) c.loop-i.i (c.loop-i.i + 1) u.store v.store e.store c.args.steps.now c.loop-i.steps c.merge_bit.new.steps (omega arith) c.loop-i.invariant.steps
          (merged_joint u v c.args.var c.args.bit xs ys c.loop-i.i c.bit.result.0 c.bit-in-loop-i.result.0 e c.loop-i.steps c.merge_bit.new.steps h.grows.extends both.0 both.1 c.merge_bit.ensures.steps);
    }

pub returns : goal.returns
returns g c =
    let u = c.args.d.now in let v = c.loop-i.d in let xs = c.args.x.now in let ys = c.args.y.now in let zs = c.into_slices.result in let k = max (length xs) (length ys) in
    let h : Follows u k (chosen (variable_of c.args.var) (fixed c.args.var c.args.bit (digits_of u.store xs)) (fixed c.args.var c.args.bit (digits_of u.store ys))) v zs = rw c.into_slices.ensures c.loop-i.invariant.follows in
    let all : c.loop-i.i ≡ k = omega (arith, c.loop-i-test.false, c.loop-i.auto.i-end, c.max-width.ensures, c.width.ensures, c.width-2.ensures) in
    record {
      merged = merged_done u v c.args.var c.args.bit xs ys zs c.requires.x c.requires.y h (omega (arith, ap length c.into_slices.ensures, c.loop-i.invariant.count, all));
      grows = h.grows;
      stop = tt;
      steps = steps_all (λ j. merging u.store c.args.var c.args.bit (digits_of u.store xs j) (digits_of u.store ys j)) c.loop-i.i k u.store v.store c.args.steps.now c.loop-i.steps all c.loop-i.invariant.steps;
    }
