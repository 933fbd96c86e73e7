-- Gates that a text defines: what their bodies mean.
use Rattle.std.specs.Prelude.{ℕ, ◌+◌, List, [], ◌∷◌, ◌++◌, map, sum, max, Result, Ok, Err}
use Rattle.std.specs.Result.{result_map_both}
use Rattle.qasm_lex.specs.declared.refusal.AngleRefusal.{AngleRefusal}
use Rattle.qasm_lex.specs.declared.value.Value.{Value}
use Rattle.qasm_lex.specs.Expressions.{Tree, eval}
use Rattle.qasm_lex.specs.Values.{values}
use Rattle.qasm_gates.specs.Gates.{Named, Meaning, all_of, call_on}

-- a call in a body: the gate that is called, its angles, and the numbers of the formal arguments that it is called on
pub record Call : Type 0 where
  pub called : Named
  pub angles : List Tree
  pub on : List ℕ

-- one meaning after the other: the first refusal is told
abbrev pub joined : Meaning → Meaning → Meaning
joined (Ok calls) (Ok more) = Ok (calls ++ more)
joined (Ok calls) (Err e) = Err e
joined (Err e) more = Err e

-- what a gate means for values of its angles that may be refused
abbrev pub means_for : Named → Result (List Value) AngleRefusal → Meaning
means_for gate (Ok values) = gate.means values
means_for gate (Err e) = Err e

-- what a call in a body means, where the parameters have these values
abbrev pub call_means : List Value → Call → Meaning
call_means given c = result_map_both (map (call_on c.on)) (λ e. e) (means_for c.called (all_of (map (eval (values given)) c.angles)))

-- what a body means
abbrev pub body_means : List Value → List Call → Meaning
body_means given [] = Ok []
body_means given (c ∷ calls) = joined (call_means given c) (body_means given calls)

abbrev pub greatest : List ℕ → ℕ
greatest [] = 0
greatest (n ∷ ns) = max n (greatest ns)

-- the gate that so many parameters and formal arguments and this body define
abbrev pub defined : ℕ → ℕ → List Call → Named
defined params formals calls = record {
  arity = formals;
  angles = params;
  depth = 1 + greatest (map (λ c. c.called.depth) calls);
  items = sum (map (λ c. 1 + c.called.items) calls);
  means = λ given. body_means given calls;
}
