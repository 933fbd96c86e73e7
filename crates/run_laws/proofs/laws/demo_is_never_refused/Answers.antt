use Rattle.causes.specs.declared.cause.Cause.TheVariants.{Refused}
use Rattle.run_laws.proofs.CommandLaws.{never_refused}
use Rattle.run_laws.proofs.laws.demo_is_never_refused.Goals as goal

pub returns : goal.returns
returns c rules qubits gates seed some le few file r = never_refused rules qubits gates seed some le few (Refused file r)
