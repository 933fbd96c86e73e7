-- The functions of the nodes that functions need in an order, numbered as a walk ends them.
use Rattle.std.specs.Prelude.{ℕ, suc, Bool, true, false, cond, List, [], ◌∷◌, ◌++◌}
use Rattle.diagram_model.specs.Functions.{Function, fix}
use Rattle.diagram_model.specs.Size.{truths, same_truths, depends}

-- whether two functions of k variables are the same
abbrev pub same : ℕ → Function → Function → Bool
same k f g = same_truths (truths k f) (truths k g)

-- whether f is one of the functions
unfoldable pub knows : ℕ → List Function → Function → Bool
knows k [] f = false
knows k (g ∷ gs) f = cond (same k g f) true (knows k gs f)

-- the place of f among the functions, the first one from 0 on
unfoldable pub number_in : ℕ → List Function → Function → ℕ
number_in k [] f = 0
number_in k (g ∷ gs) f = cond (same k g f) 0 (suc (number_in k gs f))

-- The functions so far, and behind them f and those that arise from it by fixing variables in the order, where they depend on the next
-- variable: low child before high child before the function itself, each once.
unfoldable pub visited : ℕ → List ℕ → Function → List Function → List Function
visited k [] f fs = fs
visited k (v ∷ vs) f fs =
    cond (knows k fs f) fs (cond (depends k v f) (visited k vs (fix v true f) (visited k vs (fix v false f) fs) ++ f ∷ []) (visited k vs f fs))

-- the same for one function after the other
unfoldable pub visited_all : ℕ → List ℕ → List Function → List Function → List Function
visited_all k order [] fs = fs
visited_all k order (g ∷ gs) fs = visited_all k order gs (visited k order g fs)

-- the constants
abbrev pub never : Function
never = λ x. false

abbrev pub always : Function
always = λ x. true

-- false, true, and the functions of the nodes that gs need: the number of a node is the place of its function here
unfoldable pub numbered : ℕ → List ℕ → List Function → List Function
numbered k order gs = visited_all k order gs (never ∷ always ∷ [])

-- a node: its variable, and the numbers of its children
pub record NodeLine : Type 0 where
  pub var : ℕ
  pub low : ℕ
  pub high : ℕ

-- the node of f: its variable is the first one in the order that f depends on
unfoldable pub line_of : ℕ → List ℕ → List Function → Function → NodeLine
line_of k [] fs f = record { var = 0; low = 0; high = 0 }
line_of k (v ∷ vs) fs f =
    cond (depends k v f) (record { var = v; low = number_in k fs (fix v false f); high = number_in k fs (fix v true f) }) (line_of k vs fs f)
