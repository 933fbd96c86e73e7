use Rattle.std.proofs.Common.{◌≡◌, map}
use Rattle.qasm_gates.specs.Gates.{up_to}
use Rattle.qasm_reader.specs.Acts.{qubit_at}
use Rattle.qasm_reader.specs.Private.Seen.{seen_target}
use Rattle.qasm_reader.specs.Private.Drafts.{raised}
use Rattle.qasm_reader.proofs.draft.raise.Given as goal

abbrev pub invariant-loop-place : goal.invariant-loop-place
invariant-loop-place l = l.flags ≡ raised l.fn.flags (map (λ place. qubit_at place (seen_target l.target)) (up_to l.place))
