-- Snapshots, and the one text of each.
use Rattle.std.specs.Prelude.{◌≡◌, ℕ, ◌<◌, ◌≤◌, List, map, drop, length, ◌++◌}
use Rattle.std.specs.List.{range_with_len}
use Rattle.bit_lists.specs.Orders.{IsOrder}
use Rattle.diagram_model.specs.Functions.{Assignment, Function}
use Rattle.diagram_model.specs.Stores.{Diagram}
use Rattle.slice_vec.specs.Slices.{IsEven}
use Rattle.slice_quad.specs.declared.coord.Coord.{Coord}
use Rattle.slice_quad.specs.declared.coord.Coord.TheVariants.{A, B, C, D}
use Rattle.slice_quad.specs.declared.quad.SliceQuad.{SliceQuad}
use Rattle.slice_quad.specs.Bits.{bits_of}
use Rattle.slice_quad.specs.Mix.{Vector}
use Rattle.slice_quad.specs.Turns.{coordinate}
use Rattle.slice_quad.specs.Vectors.{FitsWidth, vector_in}
use Rattle.snapshot.specs.Numbers.{numbered, number_in, line_of}
use Rattle.snapshot.specs.Sheets.{Sheet, sheet_text}

-- a vector over √2 to some power, with an order of its variables and the width of its coefficients
pub record Snapshot : Type 0 where
  pub order : List ℕ
  pub exponent : ℕ
  pub width : ℕ
  pub vector : Vector

-- the bits of a coordinate, lowest first
abbrev pub bits_in : Snapshot → Coord → List Function
bits_in s z = map (bits_of s.vector z) (range_with_len 0 s.width)

-- all bits, those of a first
abbrev pub all_bits : Snapshot → List Function
all_bits s = bits_in s A ++ bits_in s B ++ bits_in s C ++ bits_in s D

-- false, true, and the functions of the nodes, by number
abbrev pub functions_in : Snapshot → List Function
functions_in s = numbered (length s.order) s.order (all_bits s)

-- how many nodes a snapshot has
abbrev pub nodes_in : Snapshot → ℕ
nodes_in s = length (drop 2 (functions_in s))

-- v reads the first n variables alone
abbrev pub ReadsFirst : ℕ → Vector → Type 0
ReadsFirst n v = (x y : Assignment) → ((i : ℕ) → i < n → x i ≡ y i) → v x ≡ v y

-- every coefficient is twice some integer
abbrev pub AllEven : Vector → Type 0
AllEven v = (z : Coord) (x : Assignment) → IsEven (coordinate z (v x))

-- Each coefficient is a signed number of as many bits as the width, and no smaller width of at least 2 would do; and no factor of 2
-- is left that could be taken out.
pub record IsSnapshot (s : Snapshot) : Type 0 where
  pub few : length s.order ≤ 64
  pub order : IsOrder s.order
  pub reads : ReadsFirst (length s.order) s.vector
  pub exponent : s.exponent ≤ 1000000
  pub settled : 2 ≤ s.exponent → AllEven s.vector → ⊥
  pub least_width : 2 ≤ s.width
  pub greatest_width : s.width ≤ 128
  pub fits : FitsWidth s.width s.vector
  pub narrow : (w : ℕ) → 2 ≤ w → FitsWidth w s.vector → s.width ≤ w
  pub nodes : nodes_in s ≤ 16777216

-- the lines of a snapshot
abbrev pub sheet_of : Snapshot → Sheet
sheet_of s = record {
  order = s.order;
  exponent = s.exponent;
  width = s.width;
  nodes = map (line_of (length s.order) s.order (functions_in s)) (drop 2 (functions_in s));
  a = map (number_in (length s.order) (functions_in s)) (bits_in s A);
  b = map (number_in (length s.order) (functions_in s)) (bits_in s B);
  c = map (number_in (length s.order) (functions_in s)) (bits_in s C);
  d = map (number_in (length s.order) (functions_in s)) (bits_in s D);
}

-- the one text of a snapshot
unfoldable pub snapshot_text : Snapshot → List ℕ
snapshot_text s = sheet_text (sheet_of s)

-- the vector in a store, in its order
abbrev pub snapshot_of : Diagram → SliceQuad → Snapshot
snapshot_of d q = record { order = d.order; exponent = q.exponent; width = length q.four.a; vector = vector_in d q.four }
