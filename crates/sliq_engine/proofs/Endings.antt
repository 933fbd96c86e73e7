-- How a run may end whose phases come one after the other.
use Rattle.std.proofs.Common.{inl, inr, ℕ, List, Option, Ok, Err, refl, Bool}
use Rattle.outside.specs.Bytes.{AddedSome}
use Rattle.phases.specs.Phases.{Phase, ◌>>=◌, HandsOn}
use Rattle.outputs.specs.declared.output.SendStop.{SendStop}
use Rattle.outputs.specs.declared.output.SendStop.TheVariants as sends
use Rattle.causes.specs.declared.cause.Cause.{Cause}
use Rattle.causes.specs.declared.cause.Cause.TheVariants.{Done, Differs, WriteFault, OutOfMemory}
use Rattle.sliq_engine.specs.Steps.{Output, Simulates}
use Rattle.causes.specs.Stops.{cause_of, cause_of_sending}
use Rattle.sliq_engine.specs.Ending.{MayEnd, MayStopBy}
use Rattle.gate_set.specs.declared.gate.Gate.{Gate}
use Rattle.amp_dense.specs.Rules.{Settings}
use Rattle.amp_dense.specs.declared.stop.Stop.{Stop}
use Rattle.amp_dense.specs.declared.stop.Stop.TheVariants as stops
use Rattle.amp_dense.specs.Standing.{Policy, begun, Walks, MayStop}

module _ {X : Type 0} (first : Phase X Cause) (next : X → Phase Output Cause) where
  -- the first phase stops
  pub ends_first : (cause : Cause) (out : Option (List ℕ)) → MayStopBy first cause → MayEnd (first >>= next) cause out out
  ends_first Done out h = absurd h
  ends_first Differs out h = absurd h
  ends_first WriteFault out h = absurd h
  ends_first OutOfMemory out h = inl refl
  ends_first cause out h = ((Err cause, h, refl), refl)

  -- the first phase hands x on, and the run ends as the next one may
  pub ends_after : (x : X) (cause : Cause) (old new : Option (List ℕ)) → first (Ok x) → MayEnd (next x) cause old new → MayEnd (first >>= next) cause old new
  ends_after x Done old new f h = (h.0, (Ok x, f, h.1), h.2)
  ends_after x Differs old new f h = (h.0, (Ok x, f, h.1), h.2)
  ends_after x WriteFault old new f h = (h.0, (Ok x, f, h.1), h.2)
  ends_after x OutOfMemory old new f (inl e) = inl e
  ends_after x OutOfMemory old new f (inr h) = inr (h.0, (Ok x, f, h.1), h.2)
  ends_after x cause old new f h = ((Ok x, f, h.0), h.1)

-- a phase may stop so where one may whose stops are its stops
pub stops_also : {X Y : Type 0} (phase : Phase X Cause) (also : Phase Y Cause) → ((cause : Cause) → phase (Err cause) → also (Err cause)) → (cause : Cause)
    → MayStopBy phase cause → MayStopBy also cause
stops_also phase also each Done h = absurd h
stops_also phase also each Differs h = absurd h
stops_also phase also each WriteFault h = absurd h
stops_also phase also each OutOfMemory h = tt
stops_also phase also each cause h = each cause h

-- the stop of a writing, as it is told
pub ends_sending : (output : Output) (stop : SendStop) (old new : Option (List ℕ)) → AddedSome old new output.bytes → MayEnd (HandsOn output) (cause_of_sending stop) old new
ends_sending output sends.Fault old new some = (output, refl, some)
ends_sending output sends.OutOfMemory old new some = inr (output, refl, some)

-- the stop of a walk, as it is told
pub simulation_stops : (policy : Policy) (rules : Settings) (input : List Bool) (gates : List Gate) (stop : Stop) → MayStop (Walks policy (begun input rules) gates) stop
    → MayStopBy (Simulates policy rules input gates) (cause_of stop)
simulation_stops policy rules input gates (stops.Width gate) h = (stops.Width gate, h, refl)
simulation_stops policy rules input gates (stops.Nodes gate order held) h = (stops.Nodes gate order held, h, refl)
simulation_stops policy rules input gates stops.OutOfMemory h = tt
