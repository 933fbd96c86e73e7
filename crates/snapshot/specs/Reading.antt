-- What is read of a text. Only private functions use these words: a text is read as the numbers in it, whatever stands between them, and is then compared with
-- the text of what was read.
use Rattle.std.specs.Prelude.{◌≡◌, ℕ, ◌+◌, ◌-◌, ◌*◌, ◌≤◌, ◌&&◌, Bool, cond, nat_le, min, List, [], ◌∷◌, length, slice_index_or, Option, Some, None}
use Rattle.snapshot.specs.Numbers.{NodeLine}
use Rattle.snapshot.specs.Snapshots.{Snapshot, IsSnapshot, snapshot_text}
use Rattle.snapshot.specs.declared.shape.Shape.{Shape}

abbrev pub is_digit : ℕ → Bool
is_digit c = nat_le 48 c && nat_le c 57

-- a number with one digit more, at most 2^32 - 1
abbrev pub with_digit : ℕ → ℕ → ℕ
with_digit n c = min (10 * n + (c - 48)) 4294967295

-- the numbers that the digits spell, given the number that is being read, if one is
unfoldable pub numerals_from : Option ℕ → List ℕ → List ℕ
numerals_from None [] = []
numerals_from (Some n) [] = n ∷ []
numerals_from None (c ∷ cs) = cond (is_digit c) (numerals_from (Some (with_digit 0 c)) cs) (numerals_from None cs)
numerals_from (Some n) (c ∷ cs) = cond (is_digit c) (numerals_from (Some (with_digit n c)) cs) (n ∷ numerals_from None cs)

-- the numbers of a text
abbrev pub numerals : List ℕ → List ℕ
numerals text = numerals_from None text

-- the number that is being read, or 0
abbrev pub so_far : Option ℕ → ℕ
so_far None = 0
so_far (Some n) = n

-- the numbers of a node's line
abbrev pub node_numbers : NodeLine → List ℕ
node_numbers l = l.var ∷ l.low ∷ l.high ∷ []

-- these are the numbers of the snapshot's text
abbrev pub Spells : List ℕ → Snapshot → Type 0
Spells ns s = IsSnapshot s × (ns ≡ numerals (snapshot_text s))

-- The counts among the numbers, each in its range, and as many numbers as they say: that of the format, the number of variables, these, the exponent, the width, the
-- number of nodes, three numbers for each of them, and four for each bit.
pub record HasShape (ns : List ℕ) (p : Shape) : Type 0 where
  pub qubits : slice_index_or ns 1 0 ≡ p.qubits
  pub few : p.qubits ≤ 64
  pub exponent : slice_index_or ns (2 + p.qubits) 0 ≡ p.exponent
  pub small : p.exponent ≤ 1000000
  pub width : slice_index_or ns (3 + p.qubits) 0 ≡ p.width
  pub least : 2 ≤ p.width
  pub greatest : p.width ≤ 128
  pub nodes : slice_index_or ns (4 + p.qubits) 0 ≡ p.nodes
  pub most : p.nodes ≤ 16777216
  pub long : length ns ≡ 5 + p.qubits + 3 * p.nodes + 4 * p.width
