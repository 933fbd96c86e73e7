-- What an event does to a state, and what is told of it.
use Rattle.std.specs.Prelude.{◌≡◌, ◌⊎◌, ℕ, zero, suc, ◌+◌, ◌*◌, ◌<◌, ◌≤◌, true, false, List, [], ◌∷◌, ◌++◌, length, map, flat_map, Err}
use Rattle.bit_lists.specs.Orders.{exchanged}
use Rattle.gate_set.specs.declared.gate.Gate.{Gate}
use Rattle.gate_set.specs.Shape.{IsOn}
use Rattle.amp_dense.specs.declared.stop.Stop.{Stop}
use Rattle.amp_dense.specs.declared.stop.Stop.TheVariants.{OutOfMemory}
use Rattle.amp_dense.specs.Standing.{Accepts, Applies, MayStop, NamesOrder, Reorders, in_order}
use Rattle.diagram_model.specs.Stores.{KeepsFunctions, held}
use Rattle.diagram_ops.specs.Diagrams.{StoreAndCache, IsConsistent}
use Rattle.level_swap.specs.Swaps.{HasRoom, LacksRoom, level_nodes}
use Rattle.node_reclaim.specs.Reclaims.{HoldsOnly, KeepsReached}
use Rattle.node_store.specs.declared.node.Node.{Node}
use Rattle.sifting.specs.declared.sift.Sifted.{Sifted}
use Rattle.sifting.specs.Answers.{IsSifted, AreInTurn, last_order}
use Rattle.sifting.specs.Sifts.{KeepsRoots, IsTidy, functions_of, sift_of}
use Rattle.slice_quad.specs.declared.quad.SliceQuad.{SliceQuad}
use Rattle.slice_quad.specs.Fields.{roots_of}
use Rattle.step_upkeep.specs.Chains.{InWork, MayLeave}
use Rattle.step_upkeep.specs.Due.{is_due}
use Rattle.state_update.specs.declared.events.Event.{Event}
use Rattle.state_update.specs.declared.events.Event.TheVariants as events
use Rattle.state_update.specs.declared.events.EventStop.{EventStop}
use Rattle.state_update.specs.declared.events.Report.{Report}
use Rattle.state_update.specs.declared.events.Report.TheVariants as reports
use Rattle.state_update.specs.Kept.{State, standing_of, sliced_policy, vector_chain}

-- ---- events
-- the gate of an event, if it is one
abbrev pub gate_of : Event → List Gate
gate_of (events.Gate g) = g ∷ []
gate_of _ = []

-- the gates of a list of events
abbrev pub gates_of : List Event → List Gate
gates_of es = flat_map gate_of es

-- on n qubits the numbers of an event are in range
abbrev pub IsWithin : ℕ → Event → Type 0
IsWithin n (events.Gate g) = IsOn n g
IsWithin n (events.Swap level) = level + 1 < n
IsWithin n (events.SiftOne var) = var < n
IsWithin n _ = Unit {0}

-- ---- upkeep of the diagrams in which the integers q stand
-- the nodes of q, and the kept one
abbrev pub nodes_in : SliceQuad → List Node
nodes_in q = map (λ n. let node : Node = record { 0 = n } in node) (roots_of q)

-- they stay live, with their numbers and their functions
pub record KeepsNodes (q : SliceQuad) (old new : StoreAndCache) : Type 0 where
  pub nodes : KeepsRoots old.store new.store (nodes_in q)
  pub capacity : new.cache.capacity ≡ old.cache.capacity
  pub sound : IsConsistent new

-- the cache is empty, and all else is as before
abbrev pub forgotten : StoreAndCache → StoreAndCache
forgotten d = record { store = d.store; cache = record { entries = []; capacity = d.cache.capacity } }

-- nothing but what is reached from the nodes of q is left; the order stays
pub record Reclaims (q : SliceQuad) (old : StoreAndCache) (freed : ℕ) (new : StoreAndCache) : Type 0 where
  pub keeps : KeepsNodes q old new
  pub reached : KeepsReached old.store new.store (nodes_in q)
  pub order : new.store.order ≡ old.store.order
  pub freed_are : freed + held new.store ≡ held old.store
  pub empty : new.cache.entries ≡ []

-- the variables at a place and at the next one changed places, and each live node kept its function
pub record Swaps (q : SliceQuad) (old : StoreAndCache) (level : ℕ) (new : StoreAndCache) : Type 0 where
  pub keeps : KeepsNodes q old new
  pub room : HasRoom old.store level
  pub order : new.store.order ≡ exchanged old.store.order level
  pub functions : KeepsFunctions old.store new.store
  pub few : held new.store ≤ held old.store + 2 * level_nodes old.store level
  pub empty : new.cache.entries ≡ []

-- a variable stands at its least place
pub record SiftsOne (q : SliceQuad) (old : StoreAndCache) (var : ℕ) (r : Sifted) (new : StoreAndCache) : Type 0 where
  pub keeps : KeepsNodes q old new
  pub sifted : IsSifted (sift_of old.store (nodes_in q) var) r
  pub order : new.store.order ≡ r.order
  pub tidy : IsTidy new.store (nodes_in q)
  pub empty : new.cache.entries ≡ []

-- the variables 0, 1, 2 and so on were put at their least places in turn, one answer each
pub record SiftsAll (q : SliceQuad) (old : StoreAndCache) (rs : List Sifted) (new : StoreAndCache) : Type 0 where
  pub keeps : KeepsNodes q old new
  pub count : length rs ≡ length old.store.order
  pub turns : AreInTurn (functions_of old.store (nodes_in q)) old.store.limit old.store.order 0 rs
  pub order : new.store.order ≡ last_order old.store.order rs
  pub tidy : IsTidy new.store (nodes_in q)
  pub empty : new.cache.entries ≡ []

-- what each event but a gate does, with its report
abbrev pub Upkeeps : SliceQuad → StoreAndCache → Event → Report → StoreAndCache → Type 0
Upkeeps q old events.Reclaim (reports.Freed k) new = Reclaims q old k new
Upkeeps q old (events.Swap level) reports.Swapped new = Swaps q old level new
Upkeeps q old (events.Swap level) (reports.NoRoom r) new = (new ≡ old) × LacksRoom old.store level r
Upkeeps q old (events.SiftOne var) (reports.OneSifted r) new = SiftsOne q old var r new
Upkeeps q old events.SiftAll (reports.AllSifted rs) new = SiftsAll q old rs.items new
Upkeeps q old events.ForgetCache reports.Forgotten new = new ≡ forgotten old
Upkeeps q old _ _ new = ⊥

-- what it leaves where memory ran out: after a sift the order may be another one
abbrev pub UpkeepStops : SliceQuad → StoreAndCache → Event → Stop → StoreAndCache → Type 0
UpkeepStops q old events.Reclaim OutOfMemory new = new ≡ old
UpkeepStops q old (events.Swap level) OutOfMemory new = new ≡ forgotten old
UpkeepStops q old (events.SiftOne var) OutOfMemory new = KeepsNodes q old new
UpkeepStops q old events.SiftAll OutOfMemory new = KeepsNodes q old new
UpkeepStops q old _ _ new = ⊥

-- ---- one event on a state
-- the state over other diagrams
abbrev pub with_diagrams : State → StoreAndCache → State
with_diagrams s d = record { input = s.input; rules = s.rules; gates = s.gates; diagrams = d; quad = s.quad }

-- a gate was accepted
pub record Steps (old : State) (g : Gate) (new : State) : Type 0 where
  pub accepts : Accepts sliced_policy (standing_of old) g (standing_of new)
  pub after_reclaim : is_due old.rules.reclaim (length old.gates) ≡ true → is_due old.rules.sift (length old.gates) ≡ false → HoldsOnly new.diagrams.store (InWork vector_chain (standing_of old) g)

-- a gate stopped
pub record StepStops (old : State) (g : Gate) (stop : Stop) (new : State) : Type 0 where
  pub may : MayStop (Applies sliced_policy (standing_of old) g) stop
  pub in_force : NamesOrder new.diagrams.store.order stop
  pub refused : standing_of new ≡ in_order (standing_of old) new.diagrams.store.order
  pub order : Reorders sliced_policy MayLeave (standing_of old) (Err stop) new.diagrams.store.order

-- what an event does to a state, with its report
abbrev pub Reports : State → Event → Report → State → Type 0
Reports old (events.Gate g) reports.Stepped new = Steps old g new
Reports old (events.Gate g) _ new = ⊥
Reports old e r new = (new ≡ with_diagrams old new.diagrams) × Upkeeps old.quad old.diagrams e r new.diagrams

-- what it leaves of a state where it stopped
abbrev pub EventStops : State → Event → Stop → State → Type 0
EventStops old (events.Gate g) stop new = StepStops old g stop new
EventStops old e stop new = (new ≡ with_diagrams old new.diagrams) × UpkeepStops old.quad old.diagrams e stop new.diagrams

-- ---- events in turn
-- the input and the rules stay, and these gates were accepted after those before
pub record IsAfter (old : State) (gates : List Gate) (new : State) : Type 0 where
  pub input : new.input ≡ old.input
  pub rules : new.rules ≡ old.rules
  pub gates_are : new.gates ≡ old.gates ++ gates

-- the events of a list with their reports, each on the state that the one before left
abbrev pub Runs : State → List Event → List Report → State → Type 0
Runs old [] [] new = new ≡ old
Runs old (e ∷ es) (r ∷ rs) new = (s : State) × Reports old e r s × Runs s es rs new
Runs old _ _ new = ⊥

-- the event at a place stopped, after those before it
abbrev pub RunStops : State → List Event → ℕ → Stop → State → Type 0
RunStops old (e ∷ es) zero stop new = EventStops old e stop new
RunStops old (e ∷ es) (suc at) stop new = (r : Report) × (s : State) × Reports old e r s × RunStops s es at stop new
RunStops old [] at stop new = ⊥

-- the same, or memory ran out before the first event
abbrev pub Stops : State → List Event → EventStop → State → Type 0
Stops old es stop new = RunStops old es stop.at stop.stop new ⊎ ((stop ≡ record { at = 0; stop = OutOfMemory }) × (new ≡ old))
