-- Expressions of angles as trees, how a tree is spelled, and what it stands for. (OpenQASM 2.0's expressions)
use Rattle.std.specs.Prelude.{ℕ, ◌≤◌, List, [], ◌∷◌, ◌++◌, Option, ℤ}
use Rattle.qasm_lex.specs.declared.symbol.Symbol.{Symbol}
use Rattle.qasm_lex.specs.declared.symbol.Symbol.TheVariants.{Whole, Real, Pi, Param, Function, Plus, Minus, Times, Over, Caret, Open, Close}

-- sums, products, quotients, signs, powers, calls of a function, parentheses, and what these are made of: numbers, π and parameters, by their
-- numbers from 0
pub data Tree : Type 0 where
  whole : Option ℤ → Tree
  real : Tree
  pi : Tree
  param : ℕ → Tree
  plus : Tree → Tree → Tree
  minus : Tree → Tree → Tree
  times : Tree → Tree → Tree
  over : Tree → Tree → Tree
  opposite : Tree → Tree
  raised : Tree → Tree → Tree
  called : Tree → Tree
  group : Tree → Tree

-- the symbols that a tree is written as
abbrev pub spelling : Tree → List Symbol
spelling (whole n) = Whole n ∷ []
spelling real = Real ∷ []
spelling pi = Pi ∷ []
spelling (param n) = Param n ∷ []
spelling (plus l r) = spelling l ++ (Plus ∷ spelling r)
spelling (minus l r) = spelling l ++ (Minus ∷ spelling r)
spelling (times l r) = spelling l ++ (Times ∷ spelling r)
spelling (over l r) = spelling l ++ (Over ∷ spelling r)
spelling (opposite t) = Minus ∷ spelling t
spelling (raised l r) = spelling l ++ (Caret ∷ spelling r)
spelling (called t) = Function ∷ Open ∷ (spelling t ++ (Close ∷ []))
spelling (group t) = Open ∷ (spelling t ++ (Close ∷ []))

-- how tightly a tree holds together: a sum 0, a product 1, a sign 2, a power 3, an atom 4
abbrev pub rank : Tree → ℕ
rank (plus l r) = 0
rank (minus l r) = 0
rank (times l r) = 1
rank (over l r) = 1
rank (opposite t) = 2
rank (raised l r) = 3
rank _ = 4

-- the grammar: each operand holds together at least as tightly as its place asks for, and more tightly to the right
-- of an operator that is read from the left
abbrev pub Formed : Tree → Type 0
Formed (plus l r) = Formed l × Formed r × (1 ≤ rank r)
Formed (minus l r) = Formed l × Formed r × (1 ≤ rank r)
Formed (times l r) = Formed l × (1 ≤ rank l) × Formed r × (2 ≤ rank r)
Formed (over l r) = Formed l × (1 ≤ rank l) × Formed r × (2 ≤ rank r)
Formed (opposite t) = Formed t × (2 ≤ rank t)
Formed (raised l r) = Formed l × (4 ≤ rank l) × Formed r × (2 ≤ rank r)
Formed (called t) = Formed t
Formed (group t) = Formed t
Formed _ = Unit {0}

-- what the parts of an expression stand for
pub record Algebra (X : Type 0) : Type 0 where
  pub of_whole : Option ℤ → X
  pub of_real : X
  pub of_pi : X
  pub of_param : ℕ → X
  pub sum : X → X → X
  pub difference : X → X → X
  pub product : X → X → X
  pub quotient : X → X → X
  pub negative : X → X
  pub power : X → X → X
  pub call : X → X
  pub grouped : X → X

-- what an expression stands for
abbrev pub eval : {X : Type 0} → Algebra X → Tree → X
eval o (whole n) = o.of_whole n
eval o real = o.of_real
eval o pi = o.of_pi
eval o (param n) = o.of_param n
eval o (plus l r) = o.sum (eval o l) (eval o r)
eval o (minus l r) = o.difference (eval o l) (eval o r)
eval o (times l r) = o.product (eval o l) (eval o r)
eval o (over l r) = o.quotient (eval o l) (eval o r)
eval o (opposite t) = o.negative (eval o t)
eval o (raised l r) = o.power (eval o l) (eval o r)
eval o (called t) = o.call (eval o t)
eval o (group t) = o.grouped (eval o t)
