use Rattle.tests_states.proofs.four_tests.are_same_steps.Given as goal

abbrev pub invariant-loop : goal.invariant-loop
invariant-loop g l = record { one : g.A.Amplitudes.walks l.fn.a l.one; other : g.B.Amplitudes.walks l.fn.b l.other }
