-- How an end is told: the exit status, and the lines on err.
use Rattle.std.specs.Prelude.{◌⊎◌, ℕ, List, [], ◌++◌, codes, flat_map, Option}
use Rattle.std.specs.Fmt.{decimal}
use Rattle.outside.specs.Outside.{Rose}
use Rattle.outside.specs.Bytes.{Added, AddedSome}
use Rattle.causes.specs.declared.cause.Cause.{Cause}
use Rattle.causes.specs.declared.cause.Cause.TheVariants.{Done, Differs, BadWords, ReadFault, TooLong, Refused, QubitsDiffer, Width, Nodes, WeightTooWide, SampleTooWide, FidelityTooWide, WriteFault, OutOfMemory}
use Rattle.causes.specs.Refusals.{reason_text}

abbrev pub status_of : Cause → ℕ
status_of Done = 0
status_of Differs = 1
status_of BadWords = 2
status_of ReadFault = 3
status_of (TooLong _) = 4
status_of (Refused _ _) = 4
status_of (QubitsDiffer _ _) = 4
status_of (Width _) = 5
status_of (Nodes _ _ _) = 5
status_of WeightTooWide = 5
status_of SampleTooWide = 5
status_of FidelityTooWide = 5
status_of WriteFault = 6
status_of OutOfMemory = 7

-- the variables, top first, each behind a blank
abbrev pub order_text : List ℕ → List ℕ
order_text order = flat_map (λ v. codes " " ++ decimal v) order

abbrev pub lines_of : Cause → List ℕ
lines_of Done = []
lines_of Differs = []
lines_of BadWords =
    codes "sliq: bad words\nusage: sliq sim FILE [--input BITS] | eq FILE FILE | prob FILE | demo QUBITS GATES SEED | sample FILE SHOTS SEED | fidelity FILE FILE, with --width --nodes --cache --reclaim --sift\n"
lines_of ReadFault = codes "sliq: read fault\n"
lines_of (TooLong file) = codes "sliq: file " ++ decimal file ++ codes " too long\n"
lines_of (Refused file r) = codes "sliq: file " ++ decimal file ++ codes " statement " ++ decimal r.statement ++ codes ": " ++ reason_text r.why ++ codes "\n"
lines_of (QubitsDiffer first second) = codes "sliq: qubits differ: " ++ decimal first ++ codes " and " ++ decimal second ++ codes "\n"
lines_of (Width step) = codes "sliq: width limit at step " ++ decimal step ++ codes "\n"
lines_of (Nodes step order held) =
    codes "sliq: node limit at step " ++ decimal step ++ codes ", held " ++ decimal held ++ codes ", order" ++ order_text order ++ codes "\n"
lines_of WeightTooWide = codes "sliq: weight too wide\n"
lines_of SampleTooWide = codes "sliq: sample too wide\n"
lines_of FidelityTooWide = codes "sliq: fidelity too wide\n"
lines_of WriteFault = codes "sliq: write fault\n"
lines_of OutOfMemory = codes "sliq: out of memory\n"

-- err has these lines more, or had a fault and has a front of them
abbrev pub Tells : List ℕ → Option (List ℕ) → Option (List ℕ) → ℕ → ℕ → Type 0
Tells lines old new before now = Added old new lines ⊎ (Rose before now × AddedSome old new lines)
