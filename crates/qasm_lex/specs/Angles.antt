-- The answer to the symbols of an angle, in three steps: its shape, its value, and the multiple of π that the value is.
use Rattle.std.specs.Prelude.{ℕ, ◌≡◌, ◌≤◌, ◌<◌, List, [], length, map, Result, Ok, Err}
use Rattle.std.specs.List.{slice_range}
use Rattle.std.specs.Result.{result_map_both}
use Rattle.qasm_lex.specs.declared.symbol.Symbol.{Symbol}
use Rattle.qasm_lex.specs.declared.refusal.AngleRefusal.{AngleRefusal}
use Rattle.qasm_lex.specs.declared.refusal.AngleRefusal.TheVariants.{TooLong, Malformed}
use Rattle.qasm_lex.specs.declared.pi_fraction.PiFraction.{PiFraction}
use Rattle.qasm_lex.specs.declared.value.Value.{Value}
use Rattle.qasm_lex.specs.declared.params.AngleValue.{AngleValue}
use Rattle.qasm_lex.specs.declared.params.Bound.{Bound}
use Rattle.qasm_lex.specs.Fractions.{Ratio}
use Rattle.qasm_lex.specs.Expressions.{Tree, Formed, spelling, eval}
use Rattle.qasm_lex.specs.Values.{Outcome, values, multiple_of}

-- the symbols are those of an expression
pub record IsExpression (symbols : List Symbol) (tree : Tree) : Type 0 where
  pub formed : Formed tree
  pub spelled : symbols ≡ spelling tree

-- the shape of an angle: an expression of at most 64 symbols. Their number is judged first
pub data IsShape (symbols : List Symbol) (shape : Result Tree AngleRefusal) : Type 0 where
  too_long : 64 < length symbols → shape ≡ Err TooLong → IsShape symbols shape
  malformed : length symbols ≤ 64 → ((tree : Tree) → IsExpression symbols tree → ⊥) → shape ≡ Err Malformed → IsShape symbols shape
  expression : length symbols ≤ 64 → (tree : Tree) → IsExpression symbols tree → shape ≡ Ok tree → IsShape symbols shape

-- the value of a shape, where the parameters have these values
abbrev pub value_in : List Value → Result Tree AngleRefusal → Outcome
value_in given (Ok tree) = eval (values given) tree
value_in given (Err e) = Err e

-- the value of an angle, where the parameters have these values, or the refusal that is met first
pub record IsOutcome (given : List Value) (symbols : List Symbol) (outcome : Outcome) : Type 0 where
  pub shape : Result Tree AngleRefusal
  pub is_shape : IsShape symbols shape
  pub value : outcome ≡ value_in given shape

-- the multiple of π that an angle without parameters is, or the refusal that is met first
pub record IsAnswer (symbols : List Symbol) (answer : Result Ratio AngleRefusal) : Type 0 where
  pub outcome : Outcome
  pub is_outcome : IsOutcome [] symbols outcome
  pub multiple : answer ≡ multiple_of outcome

-- the fraction by its numbers
abbrev pub ratio_of : PiFraction → Ratio
ratio_of f = record { num = f.num; den = f.den }

-- an answer by its numbers
abbrev pub answer_of : Result PiFraction AngleRefusal → Result Ratio AngleRefusal
answer_of answer = result_map_both ratio_of (λ e. e) answer

-- a value by its numbers
abbrev pub value_by : AngleValue → Value
value_by a = record { u = record { num = a.u_num; den = a.u_den }; v = record { num = a.v_num; den = a.v_den } }

-- an outcome by its numbers
abbrev pub outcome_by : Result AngleValue AngleRefusal → Outcome
outcome_by outcome = result_map_both value_by (λ e. e) outcome

-- the values of parameters
abbrev pub given_by : List Bound → List Value
given_by bound = map (λ b. value_by b.value) bound

-- the name of a parameter is a place of the text
pub record IsBound (text : List ℕ) (b : Bound) : Type 0 where
  pub forward : b.from ≤ b.to
  pub within : b.to ≤ length text

-- the names of parameters
abbrev pub names_of : List ℕ → List Bound → List (List ℕ)
names_of text bound = map (λ b. slice_range text b.from b.to) bound

-- the shape, told without its tree
abbrev pub told : Result Tree AngleRefusal → Result (Unit {0}) AngleRefusal
told shape = result_map_both (λ _. tt) (λ e. e) shape
