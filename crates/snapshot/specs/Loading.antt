-- What a text is loaded as, and why it is not loaded.
use Rattle.std.specs.Prelude.{◌≡◌, ℕ, ◌<◌, ◌≤◌, List, length}
use Rattle.amp_dense.specs.Rules.{Settings}
use Rattle.diagram_model.specs.Stores.{held}
use Rattle.diagram_ops.specs.Diagrams.{IsConsistent}
use Rattle.slice_quad.specs.Vectors.{Stands}
use Rattle.snapshot.specs.Snapshots.{Snapshot, IsSnapshot, nodes_in, snapshot_of, snapshot_text}
use Rattle.snapshot.specs.declared.loaded.Loaded.{Loaded}
use Rattle.snapshot.specs.declared.loaded.LoadStop.{LoadStop}
use Rattle.snapshot.specs.declared.loaded.LoadStop.TheVariants.{Bad, Width, Nodes, OutOfMemory}

-- it is the text of the snapshot
abbrev pub IsTextOf : List ℕ → Snapshot → Type 0
IsTextOf text s = IsSnapshot s × (text ≡ snapshot_text s)

-- the snapshot that was loaded
abbrev pub snapshot_in : Loaded → Snapshot
snapshot_in l = snapshot_of l.diagrams.store l.quad

-- the text is that of the snapshot that was loaded, which stands in diagrams with the limit of the rules that hold its nodes alone
pub record IsLoaded (r : Settings) (bytes : List ℕ) (l : Loaded) : Type 0 where
  pub text : IsTextOf bytes (snapshot_in l)
  pub qubits : l.qubits ≡ length (snapshot_in l).order
  pub sound : IsConsistent l.diagrams
  pub stands : Stands l.diagrams.store l.quad
  pub kept : l.quad.kept.0 ≡ 0
  pub limit : l.diagrams.store.limit ≡ r.nodes
  pub held : held l.diagrams.store ≡ nodes_in (snapshot_in l)
  pub width : (snapshot_in l).width ≤ r.width

-- It is the text of no snapshot; or that of one whose width, or whose nodes, are more than the rules allow.
abbrev pub LoadStopMeans : Settings → List ℕ → LoadStop → Type 0
LoadStopMeans r text Bad = (s : Snapshot) → IsTextOf text s → ⊥
LoadStopMeans r text Width = (s : Snapshot) × IsTextOf text s × (r.width < s.width)
LoadStopMeans r text (Nodes order count) = (s : Snapshot) × IsTextOf text s × (s.width ≤ r.width) × (r.nodes < nodes_in s) × (order ≡ s.order) × (count ≡ r.nodes)
LoadStopMeans r text OutOfMemory = Unit {0}
