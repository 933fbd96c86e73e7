use Rattle.std.proofs.Common.{◌≡◌, ◌++◌}
use Rattle.qasm_lex.specs.Angles.{given_by}
use Rattle.qasm_gates.specs.Private.Proper.{done_in}
use Rattle.qasm_gates.specs.Private.Views.{callee_gate}
use Rattle.qasm_reader.specs.Private.Seen.{seen_targets}
use Rattle.qasm_reader.proofs.Applied.{product_up_to}
use Rattle.qasm_reader.proofs.apply.apply.Given as goal

abbrev pub invariant-loop-place : goal.invariant-loop-place
invariant-loop-place l = l.gates.items ≡ l.fn.gates.items ++ product_up_to (done_in ((callee_gate l.known l.callee).means (given_by l.bound))) (seen_targets l.targets) l.place
