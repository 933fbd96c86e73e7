-- One gate with one target and controls: on vectors, and on the bits of their coordinates. The matrix on the target, where the
-- controls hold, is the textbook one; where it leaves out a factor 1/√2, all other entries are multiplied by √2.
use Rattle.std.specs.Prelude.{ℕ, Bool, true, false, cond, ◌&&◌, List, [], ◌∷◌}
use Rattle.diagram_model.specs.Functions.{Assignment, Function, put}
use Rattle.slice_vec.specs.Digits.{Digits, slice_value, chosen, fixed, negated, sum}
use Rattle.ring_omega.specs.declared.quad.Quad.{Quad}
use Rattle.ring_omega.specs.Ring.{quad, sum_of, product_of, root_of_two}
use Rattle.slice_quad.specs.declared.coord.Coord.{Coord}
use Rattle.slice_quad.specs.declared.coord.Coord.TheVariants.{A, B, C, D}
use Rattle.gate_set.specs.declared.entry.Entry.{Entry}
use Rattle.gate_set.specs.declared.entry.Entry.TheVariants.{Omega}
use Rattle.gate_set.specs.Matrix.{times_entry}
use Rattle.slice_quad.specs.Turns.{turn, root_turn}

-- a matrix on a target, where the controls hold: the entry in row r, column s is rows r s, and rooted says whether it leaves out a
-- factor 1/√2
pub record Mix : Type 0 where
  pub controls : List ℕ
  pub target : ℕ
  pub rows : Bool → Bool → Entry
  pub rooted : Bool

-- a quadruple for each list of values of the variables
abbrev pub Vector : Type 0
Vector = Assignment → Quad

-- whether all of the variables are true
unfoldable pub all_true : List ℕ → Function
all_true [] x = true
all_true (c ∷ cs) x = x c && all_true cs x

-- an entry where the controls don't hold
abbrev pub elsewhere : Bool → Quad → Quad
elsewhere rooted q = cond rooted (product_of q root_of_two) q

-- the matrix on the target where the controls hold
unfoldable pub mixed : Mix → Vector → Vector
mixed m v x =
    cond (all_true m.controls x)
    (sum_of (times_entry (m.rows (x m.target) false) (v (put x m.target false))) (times_entry (m.rows (x m.target) true) (v (put x m.target true))))
    (elsewhere m.rooted (v x))

-- the bits of the four coordinates
abbrev pub Coordinates : Type 0
Coordinates = Coord → Digits

-- what they stand for, the sign being bit k
unfoldable pub vector_of : ℕ → Coordinates → Vector
vector_of k q x = quad (slice_value k (q A) x) (slice_value k (q B) x) (slice_value k (q C) x) (slice_value k (q D) x)

-- the bits of 0
unfoldable pub zero_digits : Digits
zero_digits i = λ x. false

-- the coordinate that an entry's power of ω brings to z: 0 for the entry 0. The rows have no entry √2
unfoldable pub entry_digits : Entry → Coord → Coordinates → Digits
entry_digits (Omega j) z q = q (turn j z).from
entry_digits _ z q = zero_digits

-- whether it is negated
unfoldable pub entry_negates : Entry → Coord → Bool
entry_negates (Omega j) z = (turn j z).negated
entry_negates _ z = false

-- the column s of the row r, from the entry of the vector with the target s
unfoldable pub from_row : Mix → Coordinates → Coord → Bool → Bool → Digits
from_row m q z s r = fixed m.target s (entry_digits (m.rows r s) z q)

-- the column s of the row that the target gives
unfoldable pub from_target : Mix → Coordinates → Coord → Bool → Digits
from_target m q z s = chosen (λ x. x m.target) (from_row m q z s true) (from_row m q z s false)

-- the two terms where the controls don't hold: the old entry and 0, or the two coordinates whose sum is that of the old entry times √2
unfoldable pub old_part : Bool → Coordinates → Coord → Bool → Digits
old_part rooted q z s = cond rooted (q (root_turn z s).from) (cond s zero_digits (q z))

-- whether they are negated
abbrev pub old_negates : Bool → Coord → Bool → Bool
old_negates rooted z s = rooted && (root_turn z s).negated

-- the two terms, without their signs
unfoldable pub term : Mix → Coordinates → Coord → Bool → Digits
term m q z s = chosen (all_true m.controls) (from_target m q z s) (old_part m.rooted q z s)

-- where a term is to be negated
unfoldable pub negates : Mix → Coord → Bool → Function
negates m z s x = cond (all_true m.controls x) (entry_negates (m.rows (x m.target) s) z) (old_negates m.rooted z s)

-- a term with its sign
unfoldable pub signed_term : Mix → Coordinates → Coord → Bool → Digits
signed_term m q z s = negated (negates m z s) (term m q z s)

-- the bits of raw
unfoldable pub raw : Mix → Coordinates → Coord → Digits
raw m q z = sum (signed_term m q z false) (signed_term m q z true)
