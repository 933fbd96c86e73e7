-- The whole of an expression: it is read as the value of its tree, and has one tree.
use Rattle.std.proofs.Common.{◌≡◌, ◌∙◌, sym, ap, refl, ℕ, ◌+◌, ◌*◌, List, [], ◌∷◌, ◌++◌, length, Some, None, IfSome, option_and_then, arith, subst}
use Rattle.qasm_lex.specs.declared.symbol.Symbol.{Symbol}
use Rattle.qasm_lex.specs.Expressions.{Tree, whole, real, pi, param, plus, minus, times, over, opposite, raised, called, group, Formed, Algebra, spelling, eval}
use Rattle.qasm_lex.specs.declared.value.Value.{Value}
use Rattle.qasm_lex.specs.Values.{values, Outcome}
use Rattle.qasm_lex.specs.Private.Descent.{expr, parse, parsed, Found, ended, whole_of, trees, tree_in, ended_tree}
use Rattle.qasm_lex.proofs.Complete.{ladder, expr_ends}
use Rattle.qasm_lex.proofs.Sound.{sound, GoodFound}

append_none : (s : List Symbol) → s ++ [] ≡ s
append_none [] = refl
append_none (x ∷ s) = ap (λ r. x ∷ r) (append_none s)

-- a tree's spelling is read as what the tree stands for
read_tree : {X : Type 0} (o : Algebra X) (s : List Symbol) (t : Tree) → Formed t → s ≡ spelling t → parse o (8 * length s + 7) expr s ≡ Some (eval o t, [])
read_tree o s t f e =
    let n : ℕ = 8 * length s + 7 in
    let e2 : s ≡ spelling t ++ [] = e ∙ sym (append_none (spelling t)) in
    let size : length s ≡ length (spelling t ++ []) = ap length e2 in
    ap (λ x. parse o n expr x) e2
    ∙ expr_ends o (spelling t) (eval o t) ((ladder o t f).as_expr) [] n tt tt tt (omega arith)

eval-trees : (t : Tree) → eval trees t ≡ t
eval-trees (whole n) = refl
eval-trees real = refl
eval-trees pi = refl
eval-trees (param n) = refl
eval-trees (plus l r) = ap (λ x. plus x (eval trees r)) (eval-trees l) ∙ ap (λ x. plus l x) (eval-trees r)
eval-trees (minus l r) = ap (λ x. minus x (eval trees r)) (eval-trees l) ∙ ap (λ x. minus l x) (eval-trees r)
eval-trees (times l r) = ap (λ x. times x (eval trees r)) (eval-trees l) ∙ ap (λ x. times l x) (eval-trees r)
eval-trees (over l r) = ap (λ x. over x (eval trees r)) (eval-trees l) ∙ ap (λ x. over l x) (eval-trees r)
eval-trees (opposite t) = ap opposite (eval-trees t)
eval-trees (raised l r) = ap (λ x. raised x (eval trees r)) (eval-trees l) ∙ ap (λ x. raised l x) (eval-trees r)
eval-trees (called t) = ap called (eval-trees t)
eval-trees (group t) = ap group (eval-trees t)

first_same : {A B : Type 0} (f g : A × B) → Some f ≡ Some g → f.0 ≡ g.0
first_same f g e = let p : f ≡ g = cc e in ap (λ z. z.0) p

-- symbols spell one tree
pub unambiguous : (s t : Tree) → Formed s → Formed t → spelling s ≡ spelling t → s ≡ t
unambiguous s t f g e =
    sym (eval-trees s)
    ∙ first_same (eval trees s, []) (eval trees t, []) (sym (read_tree trees (spelling s) s f refl) ∙ read_tree trees (spelling s) t g e)
    ∙ eval-trees t

pub read_whole : (given : List Value) (s : List Symbol) (v : Outcome) → parsed given expr s ≡ Some (v, []) → (t : Tree) × Formed t × (s ≡ spelling t) × (eval (values given) t ≡ v)
unfolding parsed
read_whole given s v e =
    let g : GoodFound (values given) expr s (Some (v, [])) = subst (λ x. GoodFound (values given) expr s x) e (sound (values given) (8 * length s + 7) expr s) in
    (g.tree, g.formed, g.spelled ∙ append_none (spelling g.tree), g.value)

found_end : (given : List Value) (s : List Symbol) (v : Outcome) (r : List Symbol) → parsed given expr s ≡ Some (v, r) → IfSome (ended r v) (λ w. (t : Tree) × Formed t × (s ≡ spelling t) × (eval (values given) t ≡ w))
found_end given s v [] e = read_whole given s v e
found_end given s v (c ∷ r) e = tt

found_from : (given : List Value) (s : List Symbol) (x : Found Outcome) → parsed given expr s ≡ x → IfSome (whole_of x) (λ w. (t : Tree) × Formed t × (s ≡ spelling t) × (eval (values given) t ≡ w))
found_from given s None e = tt
found_from given s (Some p) e = found_end given s p.0 p.1 e

-- what is read has a tree
pub found : (given : List Value) (s : List Symbol) → IfSome (whole_of (parsed given expr s)) (λ w. (t : Tree) × Formed t × (s ≡ spelling t) × (eval (values given) t ≡ w))
found given s = found_from given s (parsed given expr s) refl

-- and what has a tree is read as its value
pub only : (given : List Value) (s : List Symbol) (t : Tree) → Formed t → s ≡ spelling t → whole_of (parsed given expr s) ≡ Some (eval (values given) t)
unfolding parsed
only given s t f e = ap whole_of (read_tree (values given) s t f e)

-- and that is the tree that its symbols spell
pub tree_is : (s : List Symbol) (t : Tree) → Formed t → s ≡ spelling t → tree_in s ≡ Some t
unfolding tree_in
tree_is s t f e = ap (λ x. option_and_then (λ p. ended_tree p.1 p.0) x) (read_tree trees s t f e) ∙ ap Some (eval-trees t)
