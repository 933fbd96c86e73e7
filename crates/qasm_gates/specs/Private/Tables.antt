-- The table of defined gates, as the definitions have them.
use Rattle.std.specs.Prelude.{◌≡◌, ◌≢◌, ◌≤◌, ◌<◌, ℕ, ◌+◌, min, List, [], ◌∷◌, ◌++◌, length, map, sum, drop, get_or, All, AllPairs, Some, unwrap_or, Ok, slice_get, ℤ}
use Rattle.std.specs.List.{slice_range, flat_map}
use Rattle.qasm_lex.specs.declared.symbol.Symbol.{Symbol}
use Rattle.qasm_lex.specs.Expressions.{Tree, pi}
use Rattle.qasm_lex.specs.Angles.{IsExpression}
use Rattle.qasm_lex.specs.Private.Descent.{tree_in}
use Rattle.qasm_gates.specs.declared.codes.Code.{Code}
use Rattle.qasm_gates.specs.declared.codes.Code.TheVariants.{End}
use Rattle.qasm_gates.specs.declared.table.Callee.{Callee}
use Rattle.qasm_gates.specs.declared.table.Callee.TheVariants.{Builtin as BuiltIn, Defined}
use Rattle.qasm_gates.specs.declared.table.Angle.{Angle}
use Rattle.qasm_gates.specs.declared.table.Line.{Line}
use Rattle.qasm_gates.specs.declared.table.Row.{Row}
use Rattle.qasm_gates.specs.declared.table.Table.{Table}
use Rattle.qasm_gates.specs.Gates.{Named, builtin, builtin_gate, arity, angle_count}
use Rattle.qasm_gates.specs.Bodies.{Call, greatest, defined}
use Rattle.qasm_gates.specs.Private.Seen.{seen_builtin}
use Rattle.qasm_gates.specs.Private.Codes.{code_in, numbers_in, unpacked}

-- what is stored of the gates
pub record Store : Type 0 where
  pub rows : List Row
  pub lines : List Line
  pub on : List ℕ
  pub angles : List Angle
  pub codes : List Code
  pub numbers : List ℤ

abbrev pub store_of : Table → Store
store_of t = record { rows = t.rows.items; lines = t.lines.items; on = t.on.items; angles = t.angles.items; codes = t.codes.items; numbers = t.numbers.items }

-- a gate that nobody can call
abbrev pub nothing : Named
nothing = record { arity = 0; angles = 0; depth = 0; items = 0; means = λ _. Ok [] }

abbrev pub no_row : Row
no_row = record { arity = 0; params = 0; depth = 0; items = 0; from = 0; to = 0 }

-- how many arguments and angles a callee has
abbrev pub callee_arity : List Row → Callee → ℕ
callee_arity rows (BuiltIn b) = arity (seen_builtin b)
callee_arity rows (Defined i) = (get_or rows i no_row).arity

abbrev pub callee_angles : List Row → Callee → ℕ
callee_angles rows (BuiltIn b) = angle_count (seen_builtin b)
callee_angles rows (Defined i) = (get_or rows i no_row).params

-- the symbols of an angle, and its tree
abbrev pub symbols_at : Store → Angle → List Symbol
symbols_at s a = unpacked (drop a.code s.codes) (drop a.number s.numbers)

abbrev pub tree_at : Store → Angle → Tree
tree_at s a = unwrap_or (tree_in (symbols_at s a)) pi

-- the numbers of a line's arguments, and its angles
abbrev pub on_at : Store → Line → List ℕ
on_at s l = slice_range s.on l.on (l.on + callee_arity s.rows l.callee)

abbrev pub angles_at : Store → Line → List Angle
angles_at s l = slice_range s.angles l.angles (l.angles + callee_angles s.rows l.callee)

-- the gate that a callee is among those that are defined
abbrev pub gate_of : List Named → Callee → Named
gate_of gates (BuiltIn b) = builtin_gate (seen_builtin b)
gate_of gates (Defined i) = get_or gates i nothing

-- a call in a body
abbrev pub line_at : Store → List Named → Line → Call
line_at s gates l = record { called = gate_of gates l.callee; angles = map (tree_at s) (angles_at s l); on = on_at s l }

abbrev pub lines_of : Store → Row → List Line
lines_of s r = slice_range s.lines r.from r.to

-- the gate of a row, by those before it
abbrev pub row_gate : Store → List Named → Row → Named
row_gate s gates r = defined r.params r.arity (map (line_at s gates) (lines_of s r))

-- the gates of rows, one after the other
abbrev pub gates_from : Store → List Named → List Row → List Named
gates_from s gates [] = gates
gates_from s gates (r ∷ rows) = gates_from s (gates ++ row_gate s gates r ∷ []) rows

unfoldable pub gates_of : Store → List Named
gates_of s = gates_from s [] s.rows

-- a built-in gate that has a name, or a gate that stands before
abbrev pub IsCallee : ℕ → Callee → Type 0
IsCallee n (BuiltIn b) = (name : List ℕ) × (builtin name ≡ Some (seen_builtin b))
IsCallee n (Defined i) = i < n

-- callees in their order, the built-in ones first
abbrev pub callee_rank : Callee → ℕ
callee_rank (BuiltIn b) = 0
callee_rank (Defined i) = i + 1

-- an angle is stored whole: the symbols of an expression
pub record IsStored (s : Store) (a : Angle) : Type 0 where
  pub symbols : List Symbol
  pub codes : List Code
  pub numbers : List ℤ
  pub tree : Tree
  pub code_within : a.code ≤ length s.codes
  pub number_within : a.number ≤ length s.numbers
  pub coded : drop a.code s.codes ≡ map code_in symbols ++ (End ∷ codes)
  pub numbered : drop a.number s.numbers ≡ flat_map numbers_in symbols ++ numbers
  pub short : length symbols ≤ 64
  pub expression : IsExpression symbols tree

-- a line's parts are stored, its arguments differ, and it calls a gate that stands before
pub record IsLine (s : Store) (n : ℕ) (l : Line) : Type 0 where
  pub callee : IsCallee n l.callee
  pub on_within : l.on + callee_arity s.rows l.callee ≤ length s.on
  pub angles_within : l.angles + callee_angles s.rows l.callee ≤ length s.angles
  pub different : AllPairs (λ p q. p ≢ q) (on_at s l)

-- numbers of formal arguments
abbrev pub AreBelow : ℕ → List ℕ → Type 0
AreBelow arity on = All (λ k. k < arity) on

pub record IsRow (s : Store) (n : ℕ) (r : Row) : Type 0 where
  pub forward : r.from ≤ r.to
  pub within : r.to ≤ length s.lines
  pub lines : All (IsLine s n) (lines_of s r)
  pub below : All (λ l. AreBelow r.arity (on_at s l)) (lines_of s r)

-- more items than all calls may have
abbrev pub many_items : ℕ
many_items = 4000001

-- how deep the calls of a body are, and how many items they have
abbrev pub depth_in : List Call → ℕ
depth_in calls = greatest (map (λ c. c.called.depth) calls)

abbrev pub items_in : List Call → ℕ
items_in calls = sum (map (λ c. 1 + c.called.items) calls)

-- the depth and the items of a gate, these up to more than all calls may have
pub record IsCounted (depth items : ℕ) (gate : Named) : Type 0 where
  pub depth_is : depth ≡ gate.depth
  pub shallow : depth ≤ 32
  pub items_are : items ≡ min gate.items many_items

abbrev pub RowCounted : Named → Row → Type 0
RowCounted gate r = IsCounted r.depth r.items gate

pub record IsStore (s : Store) : Type 0 where
  pub rows : (i : ℕ) (r : Row) → slice_get s.rows i ≡ Some r → IsRow s i r
  pub counts : (i : ℕ) (r : Row) → slice_get s.rows i ≡ Some r → RowCounted (get_or (gates_of s) i nothing) r
  pub angles : All (IsStored s) s.angles

-- what contracts see of the table: the gates that are defined, the calls of the body that is open, and the angles and the arguments of the call
-- that is
pub record Shown : Type 0 where
  pub gates : List Named
  pub body : List Call
  pub angles : List Tree
  pub on : List ℕ

-- the lines of the open body
abbrev pub open_lines : Table → List Line
open_lines t = drop t.open.line t.lines.items

abbrev pub shown : Table → Shown
shown t = record {
  gates = gates_of (store_of t);
  body = map (line_at (store_of t) (gates_of (store_of t))) (open_lines t);
  angles = map (tree_at (store_of t)) (drop t.open.angles t.angles.items);
  on = drop t.open.on t.on.items;
}

pub record IsTable (t : Table) : Type 0 where
  pub store : IsStore (store_of t)
  pub line_within : t.open.line ≤ length t.lines.items
  pub lines : All (IsLine (store_of t) (length t.rows.items)) (open_lines t)
  pub on_within : t.open.on ≤ length t.on.items
  pub angles_within : t.open.angles ≤ length t.angles.items
  pub depth_is : t.open.depth ≡ depth_in (shown t).body
  pub shallow : t.open.depth ≤ 32
  pub items_are : t.open.items ≡ min (items_in (shown t).body) many_items

-- the table is whole, and shows this
pub record Becomes (t : Table) (v : Shown) : Type 0 where
  pub sound : IsTable t
  pub shows : shown t ≡ v
