use Rattle.std.proofs.Common.{◌≡◌, ◌≤◌, ◌^◌, ◌+◌, sym, ◌∙◌, ap, subst, arith, length}
use Rattle.std.proofs.Math.Pow.{pow_mono}
use Rattle.gate_set.proofs.gate.Gate.block_start.Goals as goal

pub overflow_sub-result : goal.overflow_sub-result
overflow_sub-result c =
    let less : 2 ^ c.arity-arity.result ≤ 2 ^ (c.len.result + c.arity-arity.result) = pow_mono (omega arith) in
    rw (c.rows_of.ensures, c.rows_of-2.ensures) less
