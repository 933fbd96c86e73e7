use Rattle.state_update.proofs.NodesKept.{entries_kept}
use Rattle.state_update.proofs.RunLemmas.{report_vector, stop_vector}
use Rattle.state_update.proofs.laws.upkeep_keeps_entries.Goals as goal

pub returns-clause-after : goal.returns-clause-after
returns-clause-after c = λ s t e r is. report_vector s t e r is

pub returns-clause-stopped : goal.returns-clause-stopped
returns-clause-stopped c = λ s t e stop is. stop_vector s t e stop is

pub returns-clause-entries : goal.returns-clause-entries
returns-clause-entries c = λ s t e r is none h. entries_kept s t e r is none h
