-- What is known of a vector that was built from the numbers of a text. Only private functions use these words.
use Rattle.std.specs.Prelude.{◌≡◌, ℕ, ◌*◌, ◌≤◌, max, List, flat_map, length, take, drop, ◌++◌}
use Rattle.amp_dense.specs.Rules.{Settings}
use Rattle.diagram_model.specs.Stores.{held}
use Rattle.diagram_ops.specs.Diagrams.{IsConsistent}
use Rattle.slice_quad.specs.Vectors.{FitsWidth, Stands}
use Rattle.snapshot.specs.Sheets.{Sheet}
use Rattle.snapshot.specs.Snapshots.{Snapshot, IsSnapshot, AllEven, nodes_in, sheet_of}
use Rattle.snapshot.specs.Reading.{HasShape, Spells, node_numbers}
use Rattle.snapshot.specs.Loading.{IsTextOf, snapshot_in}
use Rattle.snapshot.specs.declared.shape.Shape.{Shape}
use Rattle.snapshot.specs.declared.loaded.Loaded.{Loaded}

-- variables, lines and bits, cut where the counts say
pub record AreCut (ns : List ℕ) (p : Shape) (os ls bs : List ℕ) : Type 0 where
  pub order : os ≡ take p.qubits (drop 2 ns)
  pub lines : ls ≡ take (3 * p.nodes) (drop 3 (drop p.qubits (drop 2 ns)))
  pub bits : bs ≡ drop (3 * p.nodes) (drop 3 (drop p.qubits (drop 2 ns)))

-- the numbers of a snapshot's bits
abbrev pub bit_numbers : Sheet → List ℕ
bit_numbers t = t.a ++ t.b ++ t.c ++ t.d

-- these are the snapshot's counts, and the numbers of its variables, of its lines and of its bits
pub record ArePartsOf (s : Snapshot) (p : Shape) (os ls bs : List ℕ) : Type 0 where
  pub snapshot : IsSnapshot s
  pub exponent : p.exponent ≡ s.exponent
  pub width : p.width ≡ s.width
  pub order : os ≡ s.order
  pub lines : ls ≡ flat_map node_numbers (sheet_of s).nodes
  pub bits : bs ≡ bit_numbers (sheet_of s)

-- no smaller width of at least 2 would do
abbrev pub IsNarrow : Snapshot → Type 0
IsNarrow s = (w : ℕ) → 2 ≤ w → FitsWidth w s.vector → s.width ≤ w

-- no factor of 2 is left that could be taken out
abbrev pub IsReduced : Snapshot → Type 0
IsReduced s = 2 ≤ s.exponent → AllEven s.vector → ⊥

-- it was built from the numbers: it is each snapshot that they spell
pub record IsBuilt (r : Settings) (ns : List ℕ) (l : Loaded) : Type 0 where
  pub shape : Shape
  pub has : HasShape ns shape
  pub qubits : l.qubits ≡ length l.diagrams.store.order
  pub few : length l.diagrams.store.order ≤ 64
  pub exponent : l.quad.exponent ≤ 1000000
  pub sound : IsConsistent l.diagrams
  pub stands : Stands l.diagrams.store l.quad
  pub kept : l.quad.kept.0 ≡ 0
  pub limit : l.diagrams.store.limit ≡ max r.nodes shape.nodes
  pub held : held l.diagrams.store ≤ shape.nodes
  pub same : (s : Snapshot) → Spells ns s → snapshot_in l ≡ s

-- the text is that of the snapshot that was built, whatever the rules allow
pub record IsJudged (r : Settings) (bytes : List ℕ) (l : Loaded) : Type 0 where
  pub text : IsTextOf bytes (snapshot_in l)
  pub qubits : l.qubits ≡ length l.diagrams.store.order
  pub sound : IsConsistent l.diagrams
  pub stands : Stands l.diagrams.store l.quad
  pub kept : l.quad.kept.0 ≡ 0
  pub limit : l.diagrams.store.limit ≡ max r.nodes (nodes_in (snapshot_in l))
  pub held : held l.diagrams.store ≡ nodes_in (snapshot_in l)
