use Rattle.causes.specs.declared.cause.Cause.TheVariants.{Nodes}
use Rattle.run_laws.proofs.HaveNodes.{gates_find, steps_find}
use Rattle.run_laws.proofs.CommandLaws.{laws_of}
use Rattle.run_laws.proofs.laws.enough_nodes.Goals as goal

pub returns-clause-never : goal.returns-clause-never
returns-clause-never c = λ task rules texts enough step order held h. (laws_of task rules texts).fed enough (Nodes step order held) h

pub returns-clause-gates : goal.returns-clause-gates
returns-clause-gates c = gates_find

pub returns-clause-steps : goal.returns-clause-steps
returns-clause-steps c = steps_find
