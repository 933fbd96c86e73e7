-- What a run comes to.
use Rattle.std.specs.Prelude.{◌≡◌, ℕ, List, [], get_or, Some, None, Ok, Err}
use Rattle.outside.specs.Outside.{Shelf}
use Rattle.phases.specs.Phases.{Phase, ◌>>=◌}
use Rattle.amp_dense.specs.Rules.{Settings}
use Rattle.sliq_words.specs.Asked.{Request, asked_of}
use Rattle.sliq_words.specs.declared.reading.Task.{Task}
use Rattle.sliq_words.specs.declared.reading.Task.TheVariants as task
use Rattle.causes.specs.declared.cause.Cause.{Cause}
use Rattle.causes.specs.declared.cause.Cause.TheVariants.{BadWords}
use Rattle.sliq_engine.specs.Taking.{Takes}
use Rattle.sliq_engine.specs.Steps.{Output}
use Rattle.sliq_engine.specs.Sim.{Sims}
use Rattle.sliq_engine.specs.Eq.{Compares}
use Rattle.sliq_engine.specs.Prob.{Weighs}
use Rattle.sliq_engine.specs.Demo.{Demonstrates}
use Rattle.sliq_engine.specs.Sample.{Samples}
use Rattle.sliq_engine.specs.Fidelity.{Overlaps}

-- each command, on the texts of its files
abbrev pub CarriesOut : Task → Settings → List (List ℕ) → Phase Output Cause
CarriesOut (task.Sim bits) rules texts = Sims bits rules (get_or texts 0 [])
CarriesOut task.Prob rules texts = Weighs rules (get_or texts 0 [])
CarriesOut task.Eq rules texts = Compares rules (get_or texts 0 []) (get_or texts 1 [])
CarriesOut (task.Demo qubits gates seed) rules texts = Demonstrates rules qubits gates seed
CarriesOut (task.Sample shots seed) rules texts = Samples shots seed rules (get_or texts 0 [])
CarriesOut task.Fidelity rules texts = Overlaps rules (get_or texts 0 []) (get_or texts 1 [])

-- the words ask for something; else the shelf stays as it is
abbrev pub Asks : {S : Type 0} → List (List ℕ) → S → S → Phase Request Cause
Asks words old new (Ok asked) = asked_of words ≡ Some asked
Asks words old new (Err cause) = (asked_of words ≡ None) × (new ≡ old) × (cause ≡ BadWords)

-- the words; then the files, taken in turn; then what is asked for, on their texts
abbrev pub Comes : {S : Type 0} → Shelf S → List (List ℕ) → S → S → Phase Output Cause
Comes shelf words old new = do
  asked ← Asks words old new
  texts ← Takes shelf 1 asked.files old new
  CarriesOut asked.task asked.rules texts
