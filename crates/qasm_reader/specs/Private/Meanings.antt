-- What calls and bodies mean, as functions.
use Rattle.std.specs.Prelude.{ℕ, cond, nat_lt, List, [], ◌∷◌, length, map, Option, Some, None, option_map, option_and_then, unwrap_or, Result, Ok, Err}
use Rattle.std.specs.Option.{option_map_or}
use Rattle.qasm_lex.specs.declared.symbol.Symbol.{Symbol}
use Rattle.qasm_lex.specs.declared.value.Value.{Value}
use Rattle.qasm_lex.specs.declared.refusal.AngleRefusal.{AngleRefusal}
use Rattle.qasm_lex.specs.declared.refusal.AngleRefusal.TheVariants.{TooLong, Malformed}
use Rattle.qasm_lex.specs.Lexemes.{Lexeme}
use Rattle.qasm_lex.specs.Symbols.{symbols, symbols_in, param_of}
use Rattle.qasm_lex.specs.Expressions.{Tree, pi}
use Rattle.qasm_lex.specs.Values.{Outcome}
use Rattle.qasm_lex.specs.Angles.{value_in}
use Rattle.qasm_lex.specs.Private.Descent.{expr, parsed, whole_of, tree_in}
use Rattle.qasm_forms.specs.Statements.{Line, fence, calls}
use Rattle.qasm_gates.specs.Gates.{Named, Meaning, all_of, gate_in}
use Rattle.qasm_gates.specs.Bodies.{Call, means_for}
use Rattle.qasm_reader.specs.Calls.{listed}

-- the shape of symbols
unfoldable pub shape_in : List Symbol → Result Tree AngleRefusal
shape_in s = cond (nat_lt 64 (length s)) (Err TooLong) (option_map_or (λ _. Ok (unwrap_or (tree_in s) pi)) (whole_of (parsed [] expr s)) (Err Malformed))

-- the value of an angle without parameters
abbrev pub outcome_in : List Lexeme → Outcome
outcome_in a = value_in [] (shape_in (symbols a))

abbrev pub outcomes_in : List (List Lexeme) → Result (List Value) AngleRefusal
outcomes_in angles = all_of (map outcome_in angles)

-- what a call means by its angles
abbrev pub meaning_of : Named → List (List Lexeme) → Meaning
meaning_of gate angles = means_for gate (outcomes_in angles)

-- angles as expressions over parameters, or the first refusal
abbrev pub trees_in : List (List ℕ) → List (List Lexeme) → Result (List Tree) AngleRefusal
trees_in params angles = all_of (map (λ a. shape_in (symbols_in params a)) angles)

-- all of them, if each is there
abbrev pub all_there : {A : Type 0} → List (Option A) → Option (List A)
all_there [] = Some []
all_there (x ∷ xs) = option_and_then (λ a. option_map (λ more. a ∷ more) (all_there xs)) x

abbrev pub if_ok : {A E : Type 0} → Result A E → Option A
if_ok (Ok a) = Some a
if_ok (Err e) = None

-- the call that a line is, if it is one
abbrev pub call_by : Option Named → Option (List Tree) → Option (List ℕ) → Option Call
call_by (Some g) (Some trees) (Some on) = Some (record { called = g; angles = trees; on = on })
call_by _ _ _ = None

abbrev pub call_in : List (List ℕ × Named) → List (List ℕ) → List (List ℕ) → List ℕ → List (List Lexeme) → List (List ℕ) → Option Call
call_in definitions params formals name angles on = call_by (gate_in definitions name) (if_ok (trees_in params angles)) (all_there (map (param_of formals) on))

-- a call before others
abbrev pub with_call : Option Call → Option (List Call) → Option (List Call)
with_call (Some c) (Some cs) = Some (c ∷ cs)
with_call _ _ = None

-- the calls of a body
abbrev pub calls_in : List (List ℕ × Named) → List (List ℕ) → List (List ℕ) → List Line → Option (List Call)
calls_in definitions params formals [] = Some []
calls_in definitions params formals (fence on ∷ lines) = calls_in definitions params formals lines
calls_in definitions params formals (calls name angles on ∷ lines) = with_call (call_in definitions params formals name (listed angles) on) (calls_in definitions params formals lines)
