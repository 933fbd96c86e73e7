-- Formed statements are read as they are written.
use Rattle.std.proofs.Common.{◌≡◌, ◌∙◌, ap, refl, ℕ, true, cond, List, [], ◌∷◌, ◌++◌, Some, None, codes}
use Rattle.qasm_lex.specs.Lexemes.{Lexeme, word, whole, mark}
use Rattle.qasm_forms.specs.Statements.{Statement, version, include, qubits, bits, barrier, measure, call, definition, left_out, Formed, first_word, written_rest, written_angles, written_each, listed, is_name, is_left_out, end_of}
use Rattle.qasm_forms.specs.Private.Fronts.{and_then, index_at}
use Rattle.qasm_forms.specs.Private.Parsing.{declaration_at, call_at, after_word, statement_at}
use Rattle.qasm_forms.proofs.Written.{arguments_written, call_written, measure_written, past}
use Rattle.qasm_forms.proofs.Definitions.{definition_written}

after_call : (name : List ℕ) (ls : List Lexeme) → is_name name ≡ true → after_word name ls ≡ call_at name ls
unfolding after_word is_name
after_call name ls n =
    past name (codes "OPENQASM") _ _ n refl ∙ past name (codes "include") _ _ n refl ∙ past name (codes "qreg") _ _ n refl ∙ past name (codes "creg") _ _ n refl
    ∙ past name (codes "barrier") _ _ n refl ∙ past name (codes "measure") _ _ n refl ∙ ap (λ x. cond x (call_at name ls) None) n

declaration_written : (name size : List ℕ) → is_name name ≡ true → declaration_at (word name ∷ mark 91 ∷ whole size ∷ mark 93 ∷ []) ≡ Some (name, size)
declaration_written name size e =
    ap (λ x. and_then {A = List ℕ × List Lexeme} (cond x (Some (name, mark 91 ∷ whole size ∷ mark 93 ∷ [])) None) (λ n. and_then (index_at n.1) (λ d. Some (n.0, d)))) e

-- a formed statement is read as it is written
pub statement_written : (s : Statement) → Formed s → statement_at (is_left_out s) (end_of s) (word (first_word s) ∷ written_rest s) ≡ Some s
unfolding after_word
statement_written version f = refl
statement_written (include text) f = refl
statement_written (qubits name size) f = ap (λ x. and_then x (λ p. Some (qubits p.0 p.1))) (declaration_written name size f)
statement_written (bits name size) f = ap (λ x. and_then x (λ p. Some (bits p.0 p.1))) (declaration_written name size f)
statement_written (barrier all) f = ap (λ x. and_then x (λ all. Some (barrier all))) (arguments_written all f)
statement_written (measure a b) f = measure_written a b f.0 f.1
statement_written (call name angles all) f = after_call name (written_angles angles ++ listed (written_each all)) f.0 ∙ call_written name angles all f.1 f.2
statement_written (definition name params formals lines) f = definition_written name params formals lines f
statement_written (left_out name more end) f = refl
