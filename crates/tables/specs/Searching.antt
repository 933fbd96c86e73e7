-- What a search over places says, for any kind of place: `slot` reads one.
use Rattle.std.specs.Prelude.{◌≡◌, ℕ, ◌<◌, List, length, map, Option, Some, None}
use Rattle.tables.specs.declared.probe.Probe.{Probe}
use Rattle.tables.specs.declared.probe.Probe.TheVariants.{Found, Vacant, Full}
use Rattle.tables.specs.Probing.{Slot, free, holds, at, IsFirstFree, ArePassed}

-- the node at which a search ended
abbrev pub node_of : Probe → Option ℕ
node_of (Found i n) = Some n
node_of (Vacant i) = None
node_of Full = None

-- what a search for k over a part of the places says
abbrev pub ProbeMeans : {P K : Type 0} → (P → Slot K) → List P → K → Probe → Type 0
ProbeMeans slot ps k (Found i n) = (i < length ps) × (at (map slot ps) i ≡ holds k n)
ProbeMeans slot ps k (Vacant i) = (i < length ps) × (at (map slot ps) i ≡ free) × ArePassed (map slot ps) k 0 i
ProbeMeans slot ps k Full = ArePassed (map slot ps) k 0 (length ps)

-- what a search for k over all places from s on says
abbrev pub LocateMeans : {P K : Type 0} → (P → Slot K) → List P → ℕ → K → Probe → Type 0
LocateMeans slot ps s k (Found i n) = (i < length ps) × (at (map slot ps) i ≡ holds k n)
LocateMeans slot ps s k (Vacant i) = IsFirstFree (map slot ps) k s i
LocateMeans slot ps s k Full = ArePassed (map slot ps) k 0 (length ps)
