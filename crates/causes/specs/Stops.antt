-- The causes by which stops are told.
use Rattle.amp_dense.specs.declared.stop.Stop.TheVariants as stops
use Rattle.amp_dense.specs.declared.stop.Stop.{Stop}
use Rattle.probabilities.specs.declared.weigh.WeighStop.TheVariants as weighs
use Rattle.probabilities.specs.declared.weigh.WeighStop.{WeighStop}
use Rattle.outputs.specs.declared.output.SendStop.TheVariants as sends
use Rattle.outputs.specs.declared.output.SendStop.{SendStop}
use Rattle.causes.specs.declared.cause.Cause.TheVariants.{Width, Nodes, OutOfMemory, WeightTooWide, WriteFault}
use Rattle.causes.specs.declared.cause.Cause.{Cause}

-- how a stop at a gate is told
abbrev pub cause_of : Stop → Cause
cause_of (stops.Width gate) = Width gate
cause_of (stops.Nodes gate order held) = Nodes gate order held
cause_of stops.OutOfMemory = OutOfMemory

-- how a stop while states are weighed is told
abbrev pub cause_of_weighing : WeighStop → Cause
cause_of_weighing weighs.TooWide = WeightTooWide
cause_of_weighing weighs.OutOfMemory = OutOfMemory

-- how a stop while an output is sent is told
abbrev pub cause_of_sending : SendStop → Cause
cause_of_sending sends.Fault = WriteFault
cause_of_sending sends.OutOfMemory = OutOfMemory
