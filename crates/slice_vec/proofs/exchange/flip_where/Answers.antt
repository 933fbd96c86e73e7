use Rattle.std.proofs.Common.{arith, ◌+◌, ◌≡◌, ap, ◌<◌, ◌∷◌, [], length, length-append}
use Rattle.std.proofs.lemmas.Result.{err_from_is_err_and}
use Rattle.diagram_model.specs.Functions.{IsPrefixOf}
use Rattle.diagram_model.specs.Stores.{function_of}
use Rattle.diagram_ops.specs.Flips.{exchanged}
use Rattle.slice_vec.specs.Bounds.{turning, turn_steps}
use Rattle.slice_vec.specs.Digits.{turned}
use Rattle.slice_vec.specs.Growing.{Denotes}
use Rattle.slice_vec.specs.Slices.{digits_of}
use Rattle.slice_vec.proofs.Bits.{bit_denotes}
use Rattle.slice_vec.proofs.Bounds.{steps_none, steps_begin, steps_place, steps_short, steps_all}
use Rattle.slice_vec.proofs.Followed.{Follows, next_grows, next_stops, follows_more, follows_none, turned_is, turned_live, turned_below, turned_none, turned_next, turned_joint, turned_done}
use Rattle.slice_vec.proofs.exchange.flip_where.Given.{Over}
use Rattle.slice_vec.proofs.exchange.flip_where.Goals.{After-flip_bit}
use Rattle.slice_vec.proofs.exchange.flip_where.Goals as goal

pub loop-i-init : goal.loop-i-init
loop-i-init g c =
    let began = c.cached-cached.ensures.sound in
    let u = c.args.d.now in
    let xs = c.args.x.now in let t = c.args.var in let n = c.args.n.0 in
    let s = turned t (function_of u.store n) (digits_of u.store xs) in
    let none : Follows u (length xs) s u c.in_ok-row.row.nodes = rw (ap (λ r. r.nodes) c.in_ok-row.ensures) (follows_none u (length xs) s began) in
    record {
      count = ap (λ r. length r.nodes) c.in_ok-row.ensures;
      room = omega (arith, ap (λ r. r.room) c.in_ok-row.ensures, c.width.ensures);
      below = turned_none u.store t n began.store;
      follows = none;
      steps = steps_begin (turning u.store t (function_of u.store n) (digits_of u.store xs)) u.store c.args.steps.now;
    }

-- the bit of a place
bit : (g : Over) (c : After-flip_bit g) → Denotes c.loop-i.d.store c.bit-from.result.0 (digits_of c.args.d.now.store c.args.x.now c.loop-i.i)
bit g c = bit_denotes c.args.d.now c.loop-i.d _ c.args.x.now c.loop-i.i c.bit-from.result.0 c.cached-cached.ensures.sound c.loop-i.invariant.follows.grows c.requires.x c.bit-from.ensures

within : (g : Over) (c : After-flip_bit g) → c.loop-i.i < length c.args.x.now
within g c = omega (arith, c.loop-i-test.true, c.width-i-end.ensures)

pub flip_bit-requires : goal.flip_bit-requires
flip_bit-requires g c =
    let u = c.args.d.now in let v = c.loop-i.d in let n = c.args.n.0 in let began = c.cached-cached.ensures.sound in let h = c.loop-i.invariant.follows in
    record {
      sound = h.grows.sound;
      n = turned_live u v _ n began h.grows c.requires.n;
      a = (bit_denotes u v _ c.args.x.now c.loop-i.i c.bit-from.result.0 began h.grows c.requires.x c.bit-from.ensures).live;
      below = turned_below u v _ c.args.var n c.loop-i.below.from.0 c.loop-i.below.to.0 began h.grows c.requires.n c.loop-i.invariant.below;
      var = rw h.grows.extends.order c.requires.var;
    }

pub returns-in_err-row-clause-steps : goal.returns-in_err-row-clause-steps
returns-in_err-row-clause-steps g c = steps_none c.args.d.now.store (turn_steps c.args.d.now.store c.args.var c.args.n.0 c.args.x.now) c.args.steps.now

pub returns-in_err-to : goal.returns-in_err-to
returns-in_err-to g c =
    let w = (goal.at.returns-in_err-to g c).After-flip_bit in
    let a = bit g w in let less = within g w in
    let u = c.args.d.now in let v = c.loop-i.d in let e = c.flip_bit.new.d in let xs = c.args.x.now in let t = c.args.var in let n = c.args.n.0 in
    let began = c.cached-cached.ensures.sound in let h = c.loop-i.invariant.follows in
    let same = turned_is u v _ t n xs c.loop-i.i c.bit-from.result.0 began h.grows c.requires.n a in
    let p = err_from_is_err_and c.from_residual-in_err-to.result c.from_residual-in_err-to.ensures.1 in
    rw (p.1, p.2) (record {
      turned = tt;
      grows = next_grows h c.loop-i.invariant.count same less e c.flip_bit.ensures.grows;
      stop = next_stops h c.loop-i.invariant.count same less e c.in_err-to.field-0.0 c.in_err-to.ensures.stop;
      steps = steps_short (turning u.store t (function_of u.store n) (digits_of u.store xs)) c.loop-i.i (length xs) u.store v.store e.store c.args.steps.now c.loop-i.steps c.flip_bit.new.steps less c.loop-i.invariant.steps
          (turned_joint u v _ t n xs c.loop-i.i c.bit-from.result.0 e c.loop-i.steps c.flip_bit.new.steps began h.grows c.requires.n a c.flip_bit.ensures.steps);
    })

pub loop-i-preserved : goal.loop-i-preserved
loop-i-preserved g c =
    let w = (goal.at.loop-i-preserved g c).After-flip_bit in
    let a = bit g w in let less = within g w in
    let u = c.args.d.now in let v = c.loop-i.d in let e = c.flip_bit.new.d in let xs = c.args.x.now in let t = c.args.var in let n = c.args.n.0 in let an = c.bit-from.result.0 in
    let began = c.cached-cached.ensures.sound in let h = c.loop-i.invariant.follows in
    let same = turned_is u v _ t n xs c.loop-i.i an began h.grows c.requires.n a in
    record {
      count = omega (arith, ap length c.push.ensures.nodes, length-append c.loop-i.row.nodes (c.in_ok-to.to.0 ∷ []), c.loop-i.invariant.count);
      room = omega (arith, c.loop-i.invariant.room, c.push.ensures.room);
      below = turned_next u v e _ (IsPrefixOf v.store.order (exchanged t (function_of v.store n) (function_of v.store an))) t n an c.in_ok-to.to.0 began h.grows c.flip_bit.ensures.grows c.requires.n a.live c.in_ok-to.ensures.node;
      follows = follows_more h c.loop-i.invariant.count same less e c.flip_bit.ensures.grows c.in_ok-to.ensures.node c.push.ensures.nodes;
      steps = steps_place (turning u.store t (function_of u.store n) (digits_of u.store xs)) c.loop-i.i (c.loop-i.i + 1) u.store v.store e.store c.args.steps.now c.loop-i.steps c.flip_bit.new.steps (omega arith) c.loop-i.invariant.steps
          (turned_joint u v _ t n xs c.loop-i.i an e c.loop-i.steps c.flip_bit.new.steps began h.grows c.requires.n a c.flip_bit.ensures.steps);
    }

pub returns : goal.returns
returns g c =
    let u = c.args.d.now in let v = c.loop-i.d in let xs = c.args.x.now in let t = c.args.var in let n = c.args.n.0 in let zs = c.into_slices.result in
    let h : Follows u (length xs) (turned t (function_of u.store n) (digits_of u.store xs)) v zs = rw c.into_slices.ensures c.loop-i.invariant.follows in
    let all : c.loop-i.i ≡ length xs = omega (arith, c.loop-i-test.false, c.loop-i.auto.i-end, c.width-i-end.ensures) in
    record {
      turned = turned_done u v t n xs zs c.requires.x h (omega (arith, ap length c.into_slices.ensures, c.loop-i.invariant.count, all));
      grows = h.grows;
      stop = tt;
      steps = steps_all (turning u.store t (function_of u.store n) (digits_of u.store xs)) c.loop-i.i (length xs) u.store v.store c.args.steps.now c.loop-i.steps all c.loop-i.invariant.steps;
    }
