use Rattle.std.proofs.Common.{arith, ◌+◌, ◌∷◌, []}
use Rattle.std.proofs.lemmas.Result.{err_from_is_err_and}
use Rattle.diagram_model.specs.Functions.{IsPrefixOf}
use Rattle.slice_vec.specs.Places.{odd_at, majority_at}
use Rattle.diagram_ops.specs.Bounds.{joint_size_of}
use Rattle.slice_vec.proofs.Bounds.{steps_wider, steps_as, steps_then, joint_on}
use Rattle.slice_vec.proofs.Growing.{denotes_on, denotes_as, first_grows, first_stop, second_grows, second_stop}
use Rattle.slice_vec.proofs.Places.{majority_on}
use Rattle.slice_vec.proofs.place.add_bits.Goals as goal

pub returns-in_err-bit : goal.returns-in_err-bit
returns-in_err-bit g c =
    let v = c.args.d.now in let e = c.odd.new.d in let a = c.args.a.0 in let b = c.args.b.0 in let k = c.args.c.0 in
    let n = joint_size_of v.store a b k in let m = joint_size_of v.store a b k in
    let p = err_from_is_err_and c.from_residual.result c.from_residual.ensures.1 in
    rw (p.1, p.2) (record {
      grows = first_grows v e (odd_at v.store a b k) (majority_at v.store a b k ∷ []) c.odd.ensures.grows;
      bit = tt;
      carry = tt;
      stop = first_stop e.store v.store.order (odd_at v.store a b k) (majority_at v.store a b k ∷ []) c.in_err-bit.field-0.0 c.in_err-bit.ensures.stop;
      steps = steps_wider n (n + m) v.store e.store c.args.steps.now c.odd.new.steps (omega arith) c.odd.ensures.steps;
    })

pub returns-in_err-carry : goal.returns-in_err-carry
returns-in_err-carry g c =
    let v = c.args.d.now in let e = c.odd.new.d in let w = c.majority.new.d in let a = c.args.a.0 in let b = c.args.b.0 in let k = c.args.c.0 in
    let n = joint_size_of v.store a b k in let m = joint_size_of v.store a b k in
    let first = c.odd.ensures.grows in
    let same = majority_on v e (IsPrefixOf v.store.order (odd_at v.store a b k)) a b k c.requires.sound first c.requires.a c.requires.b c.requires.c in
    let joint = joint_on v e (IsPrefixOf v.store.order (odd_at v.store a b k)) a b k c.requires.sound first c.requires.a c.requires.b c.requires.c in
    let p = err_from_is_err_and c.from_residual-in_err-carry.result c.from_residual-in_err-carry.ensures.1 in
    rw (p.1, p.2) (record {
      grows = second_grows v e w (odd_at v.store a b k) (majority_at e.store a b k) (majority_at v.store a b k) first c.majority.ensures.grows same;
      bit = tt;
      carry = tt;
      stop = second_stop v e w (odd_at v.store a b k) (majority_at e.store a b k) (majority_at v.store a b k) first same c.in_err-carry.field-0.0 c.in_err-carry.ensures.stop;
      steps = steps_then n m v.store e.store w.store c.args.steps.now c.odd.new.steps c.majority.new.steps c.odd.ensures.steps (steps_as (joint_size_of e.store a b k) m e.store w.store c.odd.new.steps c.majority.new.steps joint c.majority.ensures.steps);
    })

pub returns : goal.returns
returns g c =
    let v = c.args.d.now in let e = c.odd.new.d in let w = c.majority.new.d in let a = c.args.a.0 in let b = c.args.b.0 in let k = c.args.c.0 in
    let n = joint_size_of v.store a b k in let m = joint_size_of v.store a b k in
    let first = c.odd.ensures.grows in
    let same = majority_on v e (IsPrefixOf v.store.order (odd_at v.store a b k)) a b k c.requires.sound first c.requires.a c.requires.b c.requires.c in
    let joint = joint_on v e (IsPrefixOf v.store.order (odd_at v.store a b k)) a b k c.requires.sound first c.requires.a c.requires.b c.requires.c in
    record {
      grows = second_grows v e w (odd_at v.store a b k) (majority_at e.store a b k) (majority_at v.store a b k) first c.majority.ensures.grows same;
      bit = denotes_on e w (IsPrefixOf e.store.order (majority_at e.store a b k)) c.in_ok-bit.bit.0 (odd_at v.store a b k) first.sound c.majority.ensures.grows c.in_ok-bit.ensures.node;
      carry = denotes_as w.store c.in_ok-carry.carry.0 (majority_at e.store a b k) (majority_at v.store a b k) same c.in_ok-carry.ensures.node;
      stop = tt;
      steps = steps_then n m v.store e.store w.store c.args.steps.now c.odd.new.steps c.majority.new.steps c.odd.ensures.steps (steps_as (joint_size_of e.store a b k) m e.store w.store c.odd.new.steps c.majority.new.steps joint c.majority.ensures.steps);
    }
