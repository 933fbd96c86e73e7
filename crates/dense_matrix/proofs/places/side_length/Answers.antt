use Rattle.std.proofs.Common.{◌≤◌, ◌^◌, arith}
use Rattle.std.proofs.Math.Pow.{pow_mono}
use Rattle.dense_matrix.proofs.places.side_length.Goals as goal

pub returns-clause-small : goal.returns-clause-small
returns-clause-small c = let most : 2 ^ c.args.qubits ≤ 2 ^ 6 = pow_mono {j = 6} c.requires in omega arith
