-- How a run may end, and what it has added to out.
use Rattle.std.specs.Prelude.{◌≡◌, ◌⊎◌, ℕ, List, Option, Ok, Err}
use Rattle.outside.specs.Bytes.{Added, AddedSome}
use Rattle.phases.specs.Phases.{Phase}
use Rattle.causes.specs.declared.cause.Cause.{Cause}
use Rattle.causes.specs.declared.cause.Cause.TheVariants.{Done, Differs, WriteFault, OutOfMemory}
use Rattle.sliq_engine.specs.Steps.{Output}

-- out has the bytes of the whole output more
abbrev pub Wrote : Phase Output Cause → Cause → Option (List ℕ) → Option (List ℕ) → Type 0
Wrote comes cause old new = (bytes : List ℕ) × comes (Ok (record { cause = cause; bytes = bytes })) × Added old new bytes

-- out has a front of them more
abbrev pub WroteSome : Phase Output Cause → Option (List ℕ) → Option (List ℕ) → Type 0
WroteSome comes old new = (output : Output) × comes (Ok output) × AddedSome old new output.bytes

-- how a run may end that comes to this
abbrev pub MayEnd : Phase Output Cause → Cause → Option (List ℕ) → Option (List ℕ) → Type 0
MayEnd comes Done old new = Wrote comes Done old new
MayEnd comes Differs old new = Wrote comes Differs old new
MayEnd comes WriteFault old new = WroteSome comes old new
MayEnd comes OutOfMemory old new = (new ≡ old) ⊎ WroteSome comes old new
MayEnd comes cause old new = comes (Err cause) × (new ≡ old)

-- a phase before the output may stop so
abbrev pub MayStopBy : {X : Type 0} → Phase X Cause → Cause → Type 0
MayStopBy phase Done = ⊥
MayStopBy phase Differs = ⊥
MayStopBy phase WriteFault = ⊥
MayStopBy phase OutOfMemory = Unit {0}
MayStopBy phase cause = phase (Err cause)
