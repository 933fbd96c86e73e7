-- Words that only the clauses of private functions cite: the node of the identity matrix, from the last qubit up.
use Rattle.std.specs.Prelude.{◌≡◌, ℕ, ◌+◌, ◌-◌, ◌*◌, ◌≤◌, Some}
use Rattle.std.specs.List.{range_with_len}
use Rattle.diagram_model.specs.declared.parts.Parts.{Parts}
use Rattle.diagram_model.specs.Functions.{Assignment}
use Rattle.diagram_model.specs.Nodes.{parts_of, value}
use Rattle.diagram_model.specs.Stores.{Diagram, held, IsSound, IsLive}
use Rattle.slice_quad.specs.RowsColumns.{row_equals_column}

-- the variables are those of n qubits in their natural order, and c nodes are held, all for variables from u on
pub record HasNodesFrom (e : Diagram) (n u c : ℕ) : Type 0 where
  pub sound : IsSound e
  pub order : e.order ≡ range_with_len 0 (2 * n)
  pub below : (m : ℕ) (p : Parts) → parts_of e.slots m ≡ Some p → u ≤ p.var
  pub count : held e ≡ c

-- the qubits from k on are done: m is true where their rows equal their columns, and three nodes were made for each
pub record IsDiagonalFrom (e : Diagram) (n k m : ℕ) : Type 0 where
  pub nodes : HasNodesFrom e n (2 * k) (3 * (n - k))
  pub live : IsLive e m
  pub is : (y : Assignment) → value e.slots e.order y m ≡ row_equals_column (n - k) (λ v. y (2 * k + v))
