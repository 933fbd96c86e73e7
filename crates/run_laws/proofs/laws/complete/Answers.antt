use Rattle.run_laws.proofs.CommandLaws.{sim_comes, prob_comes, demo_comes, eq_comes, sample_comes, fidelity_comes}
use Rattle.run_laws.proofs.laws.complete.Goals as goal

pub returns-clause-sim : goal.returns-clause-sim
returns-clause-sim c = λ rules bits text u reads same wide fits has. sim_comes rules wide text u reads bits (same, (fits, has))

pub returns-clause-prob : goal.returns-clause-prob
returns-clause-prob c = λ rules text u reads wide fits light has. prob_comes rules wide text u reads (light, (fits, has))

pub returns-clause-demo : goal.returns-clause-demo
returns-clause-demo c = λ rules qubits gates seed some le few wide fits has. demo_comes rules wide qubits gates seed some le few (fits, has)

pub returns-clause-eq : goal.returns-clause-eq
returns-clause-eq c = λ rules one two u v first second same wide fits room has. eq_comes rules wide one two u v first second (same, fits, room, has)

pub returns-clause-sample : goal.returns-clause-sample
returns-clause-sample c = λ rules shots seed text u reads wide fits light has. sample_comes rules wide text u reads shots seed (light, (fits, has))

pub returns-clause-fidelity : goal.returns-clause-fidelity
returns-clause-fidelity c = λ rules one two u v first second same wide fits narrow room has. fidelity_comes rules wide one two u v first second (narrow, (same, fits, room, has))
