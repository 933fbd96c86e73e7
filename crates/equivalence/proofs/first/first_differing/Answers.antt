use Rattle.std.proofs.Common.{◌+◌, ◌<◌, arith}
use Rattle.slice_quad.proofs.Walking.{so_far_none, so_far_low, so_far_high, so_far_as, least_done}
use Rattle.equivalence.specs.Matrices.{matrix_in}
use Rattle.equivalence.specs.Positions.{rest_at}
use Rattle.equivalence.proofs.first.first_differing.Goals as goal
use Rattle.equivalence.proofs.first.first_differing.Goals.{then-not-branch, else-not-branch}

pub loop-i-init : goal.loop-i-init
loop-i-init c = record {
  so_far = so_far_none (c.args.qubits + c.args.qubits) (rest_at c.args.qubits (matrix_in c.args.d.now.store c.args.q.now)) 0 c.args.x c.requires.len c.requires.some;
}

pub loop-i-preserved : goal.loop-i-preserved
loop-i-preserved c =
    let n = c.args.qubits + c.args.qubits in
    let v = rest_at c.args.qubits (matrix_in c.args.d.now.store c.args.q.now) in
    let x = c.args.x in
    let i = c.loop-i.i in
    let r = c.loop-i.at in
    let s = c.set.new.self in
    let h = c.loop-i.invariant.so_far in
    let lt : i < n = omega (arith, c.loop-i-test.true, c.len-i-end.ensures, c.requires.len) in
    record {
      so_far = elim c.if-not-branch.branch [
        | then-not-branch w ↦
            so_far_as n v 0 x (i + 1) w.set-then-not-branch.new.self c.if-not-branch.at w.at-is
            (so_far_high n v 0 x i (i + 1) r s w.set-then-not-branch.new.self h (omega arith) lt c.set.ensures w.set-then-not-branch.ensures (omega arith) (c.in_ok-differs_from.ensures.no w.if-not-branch.true))
        | else-not-branch w ↦
            so_far_as n v 0 x (i + 1) s c.if-not-branch.at w.at-is
            (so_far_low n v 0 x i (i + 1) r s h (omega arith) lt c.set.ensures (omega arith) (c.in_ok-differs_from.ensures.yes w.if-not-branch.false))
      ];
    }

pub returns : goal.returns
returns c =
    least_done (c.args.qubits + c.args.qubits) (rest_at c.args.qubits (matrix_in c.args.d.now.store c.args.q.now)) 0 c.args.x c.loop-i.i c.loop-i.at c.loop-i.invariant.so_far (omega (arith, c.loop-i-test.false, c.len-i-end.ensures, c.requires.len))
