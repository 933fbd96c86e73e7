-- The nodes of a vector or matrix.
use Rattle.std.specs.Prelude.{ℕ, List, [], ◌∷◌, ◌++◌, map}
use Rattle.node_store.specs.declared.node.Node.{Node}
use Rattle.slice_quad.specs.declared.quad.SliceQuad.{SliceQuad}

-- the numbers of the nodes
abbrev pub numbers : List Node → List ℕ
numbers ns = map (λ (n : Node). n.0) ns

-- the nodes of the four coordinates, and the kept one
abbrev pub roots_of : SliceQuad → List ℕ
roots_of q = (((q.four.a ++ q.four.b) ++ q.four.c) ++ q.four.d) ++ q.kept.0 ∷ []
