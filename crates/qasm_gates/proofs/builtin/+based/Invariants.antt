use Rattle.qasm_gates.proofs.builtin.+based.Given as goal

abbrev pub decreases-based : goal.decreases-based
decreases-based l = l.most
