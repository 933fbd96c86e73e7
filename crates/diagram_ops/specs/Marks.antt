-- Results by the number of one node, each with the stamp of its call.
use Rattle.std.specs.Prelude.{ℕ, ◌<◌, ◌≤◌, cond, ◌==◌, List, map, All, Option, Some, None, slice_index_or}
use Rattle.diagram_ops.specs.declared.node_memo.Mark.{Mark}

-- a result with the stamp of another call doesn't count
abbrev pub counted : ℕ → Mark → Option ℕ
counted now m = cond (m.stamp == now) (Some m.node) None

-- the results that count
abbrev pub results_of : ℕ → List Mark → List (Option ℕ)
results_of now ms = map (counted now) ms

-- the result for the node n
abbrev pub result_for : List (Option ℕ) → ℕ → Option ℕ
result_for rs n = slice_index_or rs n None

-- no stamp is of a call to come, and free places have the stamp of none
pub record IsStamped (now : ℕ) (ms : List Mark) : Type 0 where
  pub some : 0 < now
  pub past : All (λ (m : Mark). m.stamp ≤ now) ms
