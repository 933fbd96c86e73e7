use Rattle.std.proofs.Common.{◌≡◌, length}
use Rattle.qasm_reader.specs.Private.Seen.{seen_targets}
use Rattle.qasm_reader.specs.Acts.{place_count}
use Rattle.qasm_reader.proofs.targets.places.Given as goal

abbrev pub invariant-loop-target : goal.invariant-loop-target
invariant-loop-target l = place_count (seen_targets l.fn.targets) ≡ place_count (seen_targets l.rest)

abbrev pub decreases-loop-target : goal.decreases-loop-target
decreases-loop-target l = length l.rest
