-- How the lexemes of a statement before its end are read, step by step.
use Prim.Native.Char.{code}
use Rattle.std.specs.Prelude.{ℕ, Bool, false, ◌&&◌, cond, List, [], ◌∷◌, ◌++◌, is_some, Option, Some, None, unwrap_or, option_map, option_and_then, codes}
use Rattle.std.specs.List.{list_any, onto_first, slice_split}
use Rattle.std.specs.Option.{option_map_or}
use Rattle.std.specs.Str.{bytes_eq}
use Rattle.qasm_forms.specs.declared.lexemes.Stop.TheVariants.{Comma, To, Open, Close}
use Rattle.qasm_lex.specs.Symbols.{functions}
use Rattle.qasm_lex.specs.Lexemes.{Lexeme, word, real, quoted}
use Rattle.qasm_forms.specs.Statements.{Argument, Statement, version, include, qubits, bits, barrier, measure, call, definition, left_out, Line, fence, calls, End, semicolon, brace, is_mark, is_name}
use Rattle.qasm_forms.specs.Private.Fronts.{and_then, name_at, mark_at, at_end, index_at, ends_angle, deeper}
use Rattle.qasm_forms.specs.Cutting.{is_nothing, is_stop, before_stop, has_stop, after_stop}

-- the end, or an index
abbrev pub indexed : List ℕ → List Lexeme → Option Argument
indexed name [] = Some (record { name = name; index = None })
indexed name (l ∷ ls) = and_then (index_at (l ∷ ls)) (λ d. Some (record { name = name; index = Some d }))

-- an argument and nothing more
abbrev pub argument_at : List Lexeme → Option Argument
argument_at ls = and_then (name_at ls) (λ n. indexed n.0 n.1)

-- all of them are arguments
abbrev pub gather : List (List Lexeme) → Option (List Argument)
gather [] = Some []
gather (p ∷ ps) = and_then (argument_at p) (λ a. and_then (gather ps) (λ more. Some (a ∷ more)))

-- arguments with a comma between two
abbrev pub arguments_at : List Lexeme → Option (List Argument)
arguments_at ls = gather (slice_split (is_stop Comma) ls)

-- the arguments that are left of a list
abbrev pub left_arguments : Bool → List Lexeme → List Argument
left_arguments done ls = cond done [] (unwrap_or (arguments_at ls) [])

-- angles up to the closing parenthesis, and what follows it
abbrev pub lead_angle : Lexeme → Option (List (List Lexeme) × List Lexeme) → Option (List (List Lexeme) × List Lexeme)
lead_angle l read = option_map (λ p. (onto_first l p.0, p.1)) read

abbrev pub next_angle : List Lexeme → Option (List (List Lexeme) × List Lexeme) → Option (List (List Lexeme) × List Lexeme)
next_angle a read = option_map (λ p. (a ∷ p.0, p.1)) read

abbrev pub scan : ℕ → List Lexeme → Option (List (List Lexeme) × List Lexeme)
scan depth [] = None
scan depth (l ∷ ls) = cond (ends_angle depth l) (cond (is_mark (code ")") l) (Some ([] ∷ [], ls)) (next_angle [] (scan 0 ls))) (lead_angle l (scan (deeper depth l) ls))

abbrev pub filled : Option (List (List Lexeme) × List Lexeme) → Option (List (List Lexeme) × List Lexeme)
filled read = option_and_then (λ p. cond (list_any is_nothing p.0) None (Some p)) read

-- what follows the angles that were read
abbrev pub behind_angles : Option (List (List Lexeme) × List Lexeme) → Option (List Lexeme)
behind_angles read = option_map (λ p. p.1) read

-- the angles that are left of a list
abbrev pub left_angles : Bool → List Lexeme → List (List Lexeme)
left_angles done ls = cond done [] (option_map_or (λ p. p.0) (filled (scan 0 ls)) [])

-- none or some angles after an opening parenthesis up to the closing one, and what follows it
abbrev pub angles_at : List Lexeme → Option (List (List Lexeme) × List Lexeme)
angles_at ls = option_map_or (λ rest. Some ([], rest)) (mark_at (code ")") ls) (filled (scan 0 ls))

-- a name with a size
abbrev pub declaration_at : List Lexeme → Option (List ℕ × List ℕ)
declaration_at ls = and_then (name_at ls) (λ n. and_then (index_at n.1) (λ d. Some (n.0, d)))

abbrev pub is_version : List Lexeme → Bool
is_version (real bytes ∷ ls) = bytes_eq bytes (codes "2.0") && is_nothing ls
is_version _ = false

abbrev pub included_at : List Lexeme → Option (List ℕ)
included_at (quoted bytes ∷ ls) = at_end bytes ls
included_at _ = None

abbrev pub measure_at : List Lexeme → Option Statement
measure_at ls = cond (has_stop To ls) (and_then (argument_at (before_stop To ls)) (λ a. and_then (argument_at (after_stop To ls)) (λ b. Some (measure a b)))) None

abbrev pub call_from : List ℕ → List Lexeme → Option (List Lexeme) → Option Statement
call_from name ls None = and_then (arguments_at ls) (λ all. Some (call name None all))
call_from name ls (Some inner) = and_then (angles_at inner) (λ p. and_then (arguments_at p.1) (λ all. Some (call name (Some p.0) all)))

abbrev pub call_at : List ℕ → List Lexeme → Option Statement
call_at name ls = call_from name ls (mark_at (code "(") ls)

-- names and nothing more
abbrev pub names_in : List Argument → Option (List (List ℕ))
names_in [] = Some []
names_in (a ∷ all) = cond (is_some a.index) None (and_then (names_in all) (λ names. Some (a.name ∷ names)))

abbrev pub names_at : List Lexeme → Option (List (List ℕ))
names_at ls = and_then (arguments_at ls) names_in

-- whether a name is one that a parameter can't have
abbrev pub is_function : List ℕ → Bool
is_function name = list_any (bytes_eq name) functions

abbrev pub param_names : List Lexeme → Option (List (List ℕ))
param_names ls = cond (is_nothing ls) (Some []) (and_then (names_at ls) (λ names. cond (list_any is_function names) None (Some names)))

-- parameters in parentheses, if there are some, and what follows them
abbrev pub params_from : List Lexeme → Option (List Lexeme) → Option (Option (List (List ℕ)) × List Lexeme)
params_from ls None = Some (None, ls)
params_from ls (Some inner) = cond (has_stop Close inner) (and_then (param_names (before_stop Close inner)) (λ names. Some (Some names, after_stop Close inner))) None

-- a line, without its `;`
abbrev pub line_call_from : List ℕ → List Lexeme → Option (List Lexeme) → Option Line
line_call_from name ls None = and_then (names_at ls) (λ on. Some (calls name None on))
line_call_from name ls (Some inner) = and_then (angles_at inner) (λ p. and_then (names_at p.1) (λ on. Some (calls name (Some p.0) on)))

abbrev pub line_after : List ℕ → List Lexeme → Option Line
line_after first ls =
    cond (bytes_eq first (codes "barrier")) (and_then (names_at ls) (λ on. Some (fence on)))
    (cond (is_name first) (line_call_from first ls (mark_at (code "(") ls)) None)

abbrev pub line_at : List Lexeme → Option Line
line_at (word first ∷ ls) = line_after first ls
line_at _ = None

-- lines with a `;` behind each, the first of which begins with these lexemes
abbrev pub lines_read : List Lexeme → List Lexeme → Option (List Line)
lines_read before [] = cond (is_nothing before) (Some []) None
lines_read before (l ∷ ls) =
    cond (is_mark (code ";") l) (and_then (line_at before) (λ line. and_then (lines_read [] ls) (λ lines. Some (line ∷ lines)))) (lines_read (before ++ l ∷ []) ls)

-- formal arguments up to `{`, and the lines behind it
abbrev pub body_at : List ℕ → Option (List (List ℕ)) → List Lexeme → Option Statement
body_at name params ls =
    cond (has_stop Open ls) (and_then (names_at (before_stop Open ls)) (λ formals. and_then (lines_read [] (after_stop Open ls)) (λ lines. Some (definition name params formals lines)))) None

abbrev pub definition_at : List Lexeme → Option Statement
definition_at ls = and_then (name_at ls) (λ n. and_then (params_from n.1 (mark_at (code "(") n.1)) (λ p. body_at n.0 p.0 p.1))

-- by the first word of a statement that `;` ends
unfoldable pub after_word : List ℕ → List Lexeme → Option Statement
after_word first ls =
    cond (bytes_eq first (codes "OPENQASM")) (cond (is_version ls) (Some version) None)
    (cond (bytes_eq first (codes "include")) (and_then (included_at ls) (λ t. Some (include t)))
    (cond (bytes_eq first (codes "qreg")) (and_then (declaration_at ls) (λ p. Some (qubits p.0 p.1)))
    (cond (bytes_eq first (codes "creg")) (and_then (declaration_at ls) (λ p. Some (bits p.0 p.1)))
    (cond (bytes_eq first (codes "barrier")) (and_then (arguments_at ls) (λ all. Some (barrier all)))
    (cond (bytes_eq first (codes "measure")) (measure_at ls)
    (cond (is_name first) (call_at first ls) None))))))

-- by what ends it
abbrev pub by_end : End → List ℕ → List Lexeme → Option Statement
by_end semicolon first ls = after_word first ls
by_end brace first ls = cond (bytes_eq first (codes "gate")) (definition_at ls) None

-- and whether it is left out
abbrev pub form_at : Bool → End → List ℕ → List Lexeme → Option Statement
form_at left end first ls = cond left (Some (left_out first ls end)) (by_end end first ls)

-- the statement that lexemes are
abbrev pub statement_at : Bool → End → List Lexeme → Option Statement
statement_at left end (word first ∷ ls) = form_at left end first ls
statement_at left end _ = None
