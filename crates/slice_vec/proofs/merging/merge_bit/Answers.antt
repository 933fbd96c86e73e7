use Rattle.diagram_model.specs.Functions.{IsPrefixOf}
use Rattle.diagram_model.specs.Stores.{function_of}
use Rattle.diagram_ops.specs.Bounds.{joint_size_in}
use Rattle.diagram_ops.specs.Flips.{flip, flipping_of}
use Rattle.slice_vec.specs.Bounds.{merging}
use Rattle.slice_vec.specs.Places.{merge_at}
use Rattle.slice_vec.proofs.Joined.{merge_low, merge_high}
use Rattle.slice_vec.proofs.Places.{keeping_grows, call_node, call_stop}
use Rattle.slice_vec.proofs.Growing.{renamed_grows}
use Rattle.slice_vec.proofs.Bounds.{steps_as, merging_high, merging_low}
use Rattle.slice_vec.proofs.merging.merge_bit.Goals as goal

pub returns-then-bit : goal.returns-then-bit
returns-then-bit g c =
    let v = c.args.d.now in let w = c.apply3_flipped.new.self in let t = c.args.var in
    let n = function_of v.store c.args.n.0 in let a = function_of v.store c.args.a.0 in let b = function_of v.store c.args.b.0 in
    let same = merge_high t c.args.bit n a b c.if-bit.true c.requires.n.is in
    let r = merge_at t c.args.bit a b in let f = flipping_of 172 t v.store c.args.n.0 c.args.b.0 c.args.a.0 in
    let e = c.apply3_flipped.ensures in
    record {
      grows = renamed_grows v w f r same (keeping_grows v w (IsPrefixOf v.store.order f) e.sound e.extends e.functions e.cache e.made);
      node = call_node w.store f r c.apply3_flipped.result same e.live e.denotes;
      stop = call_stop w.store v.store.order f r c.apply3_flipped.result same e.stop;
      steps = steps_as (joint_size_in v.store n (flip t b) a) (merging v.store t c.args.bit a b) v.store w.store c.args.steps.now c.apply3_flipped.new.steps (merging_high v.store t c.args.bit n a b c.if-bit.true c.requires.n.is) e.steps;
    }

pub returns : goal.returns
returns g c =
    let v = c.args.d.now in let w = c.apply3_flipped-2.new.self in let t = c.args.var in
    let n = function_of v.store c.args.n.0 in let a = function_of v.store c.args.a.0 in let b = function_of v.store c.args.b.0 in
    let same = merge_low t c.args.bit n a b c.if-bit.false c.requires.n.is in
    let r = merge_at t c.args.bit a b in let f = flipping_of 202 t v.store c.args.n.0 c.args.a.0 c.args.b.0 in
    let e = c.apply3_flipped-2.ensures in
    record {
      grows = renamed_grows v w f r same (keeping_grows v w (IsPrefixOf v.store.order f) e.sound e.extends e.functions e.cache e.made);
      node = call_node w.store f r c.apply3_flipped-2.result same e.live e.denotes;
      stop = call_stop w.store v.store.order f r c.apply3_flipped-2.result same e.stop;
      steps = steps_as (joint_size_in v.store n (flip t a) b) (merging v.store t c.args.bit a b) v.store w.store c.args.steps.now c.apply3_flipped-2.new.steps (merging_low v.store t c.args.bit n a b c.if-bit.false c.requires.n.is) e.steps;
    }
