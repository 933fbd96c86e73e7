-- The calls that make a gate's nodes.
use Rattle.std.proofs.Common.{◌≡◌, ℕ, not, List, [], ◌∷◌, ◌++◌, map, refl, ap}
use Rattle.diagram_model.specs.Functions.{Function, IsPrefixOf}
use Rattle.diagram_model.specs.Stores.{function_of}
use Rattle.diagram_ops.specs.Diagrams.{StoreAndCache, IsConsistent, variable_of}
use Rattle.diagram_ops.specs.Made.{IsPrefixOfSome}
use Rattle.slice_vec.specs.Growing.{Grows, Denotes}
use Rattle.slice_vec.proofs.Growing.{grows_none, some_first, some_later, denotes_as}
use Rattle.slice_quad.specs.declared.gate.Target.{Target}
use Rattle.slice_quad.specs.Fours.{mix_of}
use Rattle.slice_quad.specs.Work.{gate_functions, conjunctions}
use Rattle.slice_quad.specs.Variables.{opposite_at, control_functions, IsGate}
use Rattle.slice_quad.proofs.Serving.{Serves, serves_one, serves_list}

-- where a variable is false
abbrev pub not_variable : ℕ → Function
not_variable v = λ x. not (x v)

-- the target's variable is among the gate's functions
var_wanted : (vs : List ℕ) (t : Target) (p : Function) → IsPrefixOf vs (variable_of t.target) p → IsPrefixOfSome vs (gate_functions (mix_of t)) p
unfolding gate_functions variable_of
var_wanted vs t p h = some_first vs (λ x. x t.target) (not_variable t.target ∷ (map (λ c. λ x. x c) (mix_of t).controls ++ conjunctions [] (mix_of t).controls)) p h

-- so is its negation
not_wanted : (vs : List ℕ) (t : Target) (p : Function) → IsPrefixOf vs (not_variable t.target) p → IsPrefixOfSome vs (gate_functions (mix_of t)) p
unfolding gate_functions
not_wanted vs t p h =
    let cs = map (λ c. λ x. x c) (mix_of t).controls ++ conjunctions [] (mix_of t).controls in
    some_later vs (λ x. x t.target) (not_variable t.target ∷ cs) p (some_first vs (not_variable t.target) cs p h)

-- so are those of the controls
all_wanted : (vs : List ℕ) (t : Target) (p : Function) → IsPrefixOfSome vs (control_functions (mix_of t).controls) p → IsPrefixOfSome vs (gate_functions (mix_of t)) p
unfolding gate_functions control_functions
all_wanted vs t p h =
    let cs = map (λ c. λ x. x c) (mix_of t).controls ++ conjunctions [] (mix_of t).controls in
    some_later vs (λ x. x t.target) (not_variable t.target ∷ cs) p (some_later vs (not_variable t.target) cs p h)

-- the negation of the variable's node
opposite_is : (e : StoreAndCache) (n v : ℕ) → function_of e.store n ≡ variable_of v → opposite_at e.store n ≡ not_variable v
unfolding variable_of
opposite_is e n v is = ap (λ (f : Function). λ x. not (f x)) is

-- the target's variable
pub set_serves : (u : StoreAndCache) (t : Target) → IsConsistent u → Serves u u (IsGate u.store t) (IsPrefixOf u.store.order (variable_of t.target))
set_serves u t s = record { grows = grows_none u (IsGate u.store t) s; wanted = var_wanted u.store.order t }

-- its negation
module _ (u v : StoreAndCache) (t : Target) (n : ℕ) (k : Grows u (IsGate u.store t) v) (is : function_of v.store n ≡ variable_of t.target) where
  pub clear_serves : Serves u v (IsGate u.store t) (IsPrefixOf v.store.order (opposite_at v.store n))
  clear_serves = serves_one u v (IsGate u.store t) (opposite_at v.store n) (not_variable t.target) k (opposite_is v n t.target is) (not_wanted u.store.order t)

  pub clear_denotes : (w : StoreAndCache) (m : ℕ) → Denotes w.store m (opposite_at v.store n) → Denotes w.store m (not_variable t.target)
  clear_denotes w m h = denotes_as w.store m (opposite_at v.store n) (not_variable t.target) (opposite_is v n t.target is) h

-- the controls
pub all_serve : (u v : StoreAndCache) (t : Target) → Grows u (IsGate u.store t) v → Serves u v (IsGate u.store t) (IsPrefixOfSome v.store.order (control_functions (mix_of t).controls))
all_serve u v t k = serves_list u v (IsGate u.store t) (control_functions (mix_of t).controls) (control_functions (mix_of t).controls) k refl (all_wanted u.store.order t)

-- a variable as a function
pub variable_as : (v : StoreAndCache) (n i : ℕ) → Denotes v.store n (variable_of i) → Denotes v.store n (λ x. x i)
unfolding variable_of
variable_as v n i h = h
