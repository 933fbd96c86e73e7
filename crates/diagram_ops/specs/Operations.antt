-- An operation on the functions of three nodes, and its results.
use Rattle.std.specs.Prelude.{◌≡◌, ◌≢◌, ◌⊎◌, ℕ, ◌<◌, Bool, true, cond, ◌&&◌, ◌==◌, List, Option, Some, None, slice_index_or}
use Rattle.bit_lists.specs.Orders.{has}
use Rattle.diagram_model.specs.Functions.{Function, fix}
use Rattle.diagram_model.specs.Stores.{Diagram, IsLive, IsAbove, function_of}
use Rattle.memos.specs.Memo.{Triple, found}
use Rattle.diagram_ops.specs.declared.operands.Operands.{Operands}
use Rattle.diagram_ops.specs.Keys.{keyed}
use Rattle.diagram_ops.specs.Operands.{AreLive, AreAbove, depths}

-- a function of three functions
abbrev pub Operation : Type 0
Operation = Function → Function → Function → Function

-- the cofactor of the first function: v fixed to b
unfoldable pub restricted : ℕ → Bool → Function → Function → Function → Function
restricted v b f g h = fix v b f

-- the operation on the functions of three nodes
abbrev pub result_of : Operation → Diagram → Operands → Function
result_of op d at = op (function_of d at.f) (function_of d at.g) (function_of d at.h)

-- n denotes the operation's result, and stands below what the nodes stand below
pub record IsResult (op : Operation) (d : Diagram) (at : Operands) (n : ℕ) : Type 0 where
  pub operands : AreLive d at
  pub live : IsLive d n
  pub below : (w : ℕ) → has d.order w ≡ true → AreAbove d w at → IsAbove d w n
  pub denotes : function_of d n ≡ result_of op d at

-- the results that a call has kept so far: a node for some triples of nodes
abbrev pub Results : Type 0
Results = Operands → Option ℕ

-- the results in a memo
abbrev pub kept_in : List (Triple × ℕ) → Results
kept_in es at = found es at.f at.g at.h

-- the results of a table in a memo, each under the operands as the table's answers are kept
abbrev pub kept_under : ℕ → List (Triple × ℕ) → Results
kept_under t es at = kept_in es (keyed t at)

-- the operands differ in a place
abbrev pub AreOther : Operands → Operands → Type 0
AreOther at to = (to.f ≢ at.f) ⊎ ((to.g ≢ at.g) ⊎ (to.h ≢ at.h))

-- the results in a memo by the number of one node, with FALSE in the other two places
abbrev pub fixed_in : List (Option ℕ) → Results
fixed_in es at = cond (at.g == 0 && at.h == 0) (slice_index_or es at.f None) None

-- each result that is kept is right
abbrev pub AreResults : Operation → Diagram → Results → Type 0
AreResults op d kept = (at : Operands) (n : ℕ) → kept at ≡ Some n → IsResult op d at n

-- what is kept for live nodes that stand higher stays
abbrev pub KeepsHigher : Diagram → Operands → Results → Results → Type 0
KeepsHigher d at old new = (to : Operands) → AreLive d to → depths d at < depths d to → new to ≡ old to
