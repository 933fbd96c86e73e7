use Rattle.std.proofs.Common.{◌≡◌, ◌++◌, map, take, drop}
use Rattle.circuit_model.specs.Working.{half_quad}
use Rattle.quad_lists.proofs.halving.halve_all.Given as goal

-- those before are halved, the rest is as it was
abbrev pub invariant-loop-q : goal.invariant-loop-q
invariant-loop-q l = l.entries ≡ map half_quad (take l.q-index l.initial.entries) ++ drop l.q-index l.initial.entries
