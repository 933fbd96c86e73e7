-- The nodes of a gate's variables.
use Rattle.std.proofs.Common.{◌≡◌, ℕ, ◌<◌, Bool, true, false, cond, not, List, [], ◌∷◌, length, inl, inr, refl, sym, ◌∙◌, ap, arith}
use Rattle.std.specs.Prelude.{◌&&◌}
use mathlib.Core.Path.{fun_ext}
use Rattle.node_store.specs.declared.node.StoreStop.{StoreStop}
use Rattle.node_store.specs.declared.node.StoreStop.TheVariants as store
use Rattle.node_store.specs.Makes.{StopMeans}
use Rattle.diagram_model.specs.Functions.{Assignment, Function, IsPrefixOf}
use Rattle.diagram_model.specs.Nodes.{value}
use Rattle.diagram_model.specs.Stores.{Diagram, IsSound, AddsOnly, function_of, requested}
use Rattle.diagram_ops.specs.Connectives.{connective, connected}
use Rattle.diagram_ops.specs.Diagrams.{variable_of}
use Rattle.diagram_ops.specs.Made.{Property, MakesOnly, StopIs}
use Rattle.diagram_model.proofs.Requests.{function_requested}
use Rattle.diagram_ops.proofs.Making.{no_node}
use Rattle.slice_vec.proofs.Places.{false_function, true_function}
use Rattle.slice_quad.specs.Variables.{opposite_at, both_at}

-- a function arises from itself
pub prefix_self : (vs : List ℕ) (f : Function) → IsPrefixOf vs f f
unfolding IsPrefixOf
prefix_self [] f = refl
prefix_self (v ∷ vs) f = inl refl

-- and from its equal
prefix_same : (vs : List ℕ) (f g : Function) → f ≡ g → IsPrefixOf vs g f
prefix_same vs f g e = rw e (prefix_self vs g)

-- the one node that is made
pub variable_made : (u v : Diagram) (n : ℕ) (f : Function) → AddsOnly u v n → function_of v n ≡ f → MakesOnly u v (IsPrefixOf u.order f)
variable_made u v n f only is m p at =
    elim (only m p at) [
      | inl old ↦ inl old
      | inr e ↦ inr (prefix_same u.order (function_of v m) f (ap (function_of v) e ∙ is))
    ]

-- a refused request makes none
pub none_made : (u v : Diagram) (Is : Property) → v ≡ requested u → MakesOnly u v Is
none_made u v Is e = rw e (λ n p at. inl at)

-- no node of the variable
variable_at : (d : Diagram) (v n : ℕ) (x : Assignment) → function_of d n ≡ variable_of v → value d.slots d.order x n ≡ x v
unfolding function_of variable_of
variable_at d v n x e = ap (λ (f : Function). f x) e

-- the constant of a truth value
child_at : (d : Diagram) (b : Bool) (x : Assignment) → IsSound d → value d.slots d.order x (cond b 1 0) ≡ b
unfolding function_of
child_at d true x s = ap (λ (f : Function). f x) (true_function d s)
child_at d false x s = ap (λ (f : Function). f x) (false_function d s)

-- a variable that found no room is denoted by no node
pub variable_stop : (d e : Diagram) (v : ℕ) → IsSound d → v < length d.order → e ≡ requested d → (r : StoreStop) → StopMeans d v 0 1 r → StopIs e (IsPrefixOf d.order (variable_of v)) r
variable_stop d e v s less same (store.Full h) is =
    rw same (
      is.0,
      record {
        full = is.1.full;
        missing = variable_of v;
        is = prefix_self d.order (variable_of v);
        none = λ n live f. no_node d v 0 1 n s (s.all v less) (inl (omega arith)) (inl (omega arith)) is.1 live (λ x. variable_at d v n x (sym (function_requested d n) ∙ f) ∙ sym (child_at d (x v) x s));
      },
    )
variable_stop d e v s less same store.OutOfMemory is = tt

-- the tables
opposite_table : (a : Bool) → connective 15 a false false ≡ not a
unfolding connective
opposite_table true = refl
opposite_table false = refl

-- the table 192 of two
both_table : (a b : Bool) → connective 192 a b false ≡ (a && b)
unfolding connective
both_table true true = refl
both_table true false = refl
both_table false true = refl
both_table false false = refl

-- table 15 is "not the first"
pub connected-opposite : (d : Diagram) (n : ℕ) → IsSound d → connected 15 (function_of d n) (function_of d 0) (function_of d 0) ≡ opposite_at d n
unfolding connected
connected-opposite d n s =
    ap (λ (h : Function). connected 15 (function_of d n) h h) (false_function d s)
    ∙ fun_ext (λ x. opposite_table (function_of d n x))

-- table 192 is "the first and the second"
pub connected-both : (d : Diagram) (n m : ℕ) → IsSound d → connected 192 (function_of d n) (function_of d m) (function_of d 0) ≡ both_at d n m
unfolding connected
connected-both d n m s =
    ap (λ (h : Function). connected 192 (function_of d n) (function_of d m) h) (false_function d s)
    ∙ fun_ext (λ x. both_table (function_of d n x) (function_of d m x))
