-- What the private functions of the descent return.
use Rattle.std.specs.Prelude.{ℕ, zero, suc, ◌+◌, ◌*◌, length, List, [], ◌∷◌, Option, Some, None, option_map, option_and_then, Result, Ok, Err}
use Rattle.qasm_lex.specs.declared.symbol.Symbol.{Symbol}
use Rattle.qasm_lex.specs.declared.symbol.Symbol.TheVariants.{Whole, Real, Pi, Param, Function, Plus, Minus, Times, Over, Caret, Open, Close}
use Rattle.qasm_lex.specs.Expressions.{Algebra, Tree, whole, real, pi, param, plus, minus, times, over, opposite, raised, called, group}
use Rattle.qasm_lex.specs.declared.refusal.AngleRefusal.{AngleRefusal}
use Rattle.qasm_lex.specs.declared.refusal.AngleRefusal.TheVariants.{Malformed}
use Rattle.qasm_lex.specs.declared.value.Value.{Value}
use Rattle.qasm_lex.specs.Fractions.{Ratio}
use Rattle.qasm_lex.specs.Values.{Outcome, values, multiple_of}

-- what is asked for: a part of the grammar, or the rest of one after what was read
pub data Goal (X : Type 0) : Type 0 where
  expr : Goal X
  terms : X → Goal X
  term : Goal X
  factors : X → Goal X
  factor : Goal X
  power : Goal X
  raise : X → Goal X
  atom : Goal X

-- what was read, and the rest; or that nothing of the shape stands there
abbrev pub Found : Type 0 → Type 0
Found X = Option (X × List Symbol)

-- go on after what was read
abbrev pub next : {X : Type 0} → Found X → (X → List Symbol → Found X) → Found X
next read f = option_and_then (λ p. f p.0 p.1) read

-- a closing parenthesis after a value
abbrev pub close : {X : Type 0} → X → List Symbol → Found X
close v (Close ∷ s) = Some (v, s)
close v _ = None

-- one step of the descent, which reads parts by rec
abbrev pub step : {X : Type 0} → Algebra X → (Goal X → List Symbol → Found X) → Goal X → List Symbol → Found X
step o rec expr s = next (rec term s) (λ v r. rec (terms v) r)
step o rec (terms v) (Plus ∷ s) = next (rec term s) (λ w r. rec (terms (o.sum v w)) r)
step o rec (terms v) (Minus ∷ s) = next (rec term s) (λ w r. rec (terms (o.difference v w)) r)
step o rec (terms v) s = Some (v, s)
step o rec term s = next (rec factor s) (λ v r. rec (factors v) r)
step o rec (factors v) (Times ∷ s) = next (rec factor s) (λ w r. rec (factors (o.product v w)) r)
step o rec (factors v) (Over ∷ s) = next (rec factor s) (λ w r. rec (factors (o.quotient v w)) r)
step o rec (factors v) s = Some (v, s)
step o rec factor (Minus ∷ s) = next (rec factor s) (λ v r. Some (o.negative v, r))
step o rec factor s = rec power s
step o rec power s = next (rec atom s) (λ v r. rec (raise v) r)
step o rec (raise v) (Caret ∷ s) = next (rec factor s) (λ w r. Some (o.power v w, r))
step o rec (raise v) s = Some (v, s)
step o rec atom (Whole k ∷ s) = Some (o.of_whole k, s)
step o rec atom (Real ∷ s) = Some (o.of_real, s)
step o rec atom (Pi ∷ s) = Some (o.of_pi, s)
step o rec atom (Param n ∷ s) = Some (o.of_param n, s)
step o rec atom (Open ∷ s) = next (rec expr s) (λ v r. close (o.grouped v) r)
step o rec atom (Function ∷ Open ∷ s) = next (rec expr s) (λ v r. close (o.call v) r)
step o rec atom s = None

-- the descent, n deep at most
unfoldable pub parse : {X : Type 0} → Algebra X → ℕ → Goal X → List Symbol → Found X
parse o zero g s = None
parse o (suc n) g s = step o (parse o n) g s

-- what was read, and what is left
abbrev pub seen : Option Outcome → List Symbol → Found Outcome
seen value s = option_map (λ v. (v, s)) value

-- a depth that is enough
abbrev pub bound : {X : Type 0} → Goal X → ℕ
bound expr = 7
bound term = 5
bound factor = 3
bound power = 2
bound _ = 1

-- the descent, as deep as it goes, where the parameters have these values
unfoldable pub parsed : List Value → Goal Outcome → List Symbol → Found Outcome
parsed given g s = parse (values given) (8 * length s + bound g) g s

-- the value where the rest is empty
abbrev pub ended : List Symbol → Outcome → Option Outcome
ended [] v = Some v
ended (c ∷ s) v = None

-- the value where nothing is left
abbrev pub whole_of : Found Outcome → Option Outcome
whole_of read = option_and_then (λ p. ended p.1 p.0) read

-- the outcome of what was read
abbrev pub outcome_from : Option Outcome → Outcome
outcome_from None = Err Malformed
outcome_from (Some x) = x

-- that something was read
abbrev pub shape_from : Option Outcome → Result (Unit {0}) AngleRefusal
shape_from None = Err Malformed
shape_from (Some x) = Ok tt

-- the answer to what was read
abbrev pub answer_from : Option Outcome → Result Ratio AngleRefusal
answer_from None = Err Malformed
answer_from (Some x) = multiple_of x

-- the trees themselves
abbrev pub trees : Algebra Tree
trees = record { of_whole = whole; of_real = real; of_pi = pi; of_param = param; sum = plus; difference = minus; product = times; quotient = over; negative = opposite; power = raised; call = called; grouped = group }

abbrev pub ended_tree : List Symbol → Tree → Option Tree
ended_tree [] t = Some t
ended_tree (c ∷ s) t = None

-- the tree that symbols spell
unfoldable pub tree_in : List Symbol → Option Tree
tree_in s = option_and_then (λ p. ended_tree p.1 p.0) (parse trees (8 * length s + 7) expr s)
