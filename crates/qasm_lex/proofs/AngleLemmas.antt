-- The answer to symbols, and the tokens of a text as places of it.
use Rattle.std.proofs.Common.{◌≡◌, ◌∙◌, sym, ap, refl, ◌≤◌, ◌<◌, ℕ, ◌-◌, List, [], ◌∷◌, length, drop, Option, Some, None, Result, Ok, Err, IfSome, All, arith, subst, length-drop}
use Rattle.std.specs.List.{filter_map}
use Rattle.std.proofs.lemmas.List.{length-take-le}
use Rattle.std.proofs.lemmas.List.Elements.{All-nil, All-cons}
use Rattle.qasm_lex.specs.declared.token.Token.{Token}
use Rattle.qasm_lex.specs.declared.pieces.Form.{Form}
use Rattle.qasm_lex.specs.declared.pieces.Form.TheVariants.{Blank, Comment, Token as OfKind}
use Rattle.qasm_lex.specs.declared.symbol.Symbol.{Symbol}
use Rattle.qasm_lex.specs.declared.refusal.AngleRefusal.{AngleRefusal}
use Rattle.qasm_lex.specs.declared.refusal.AngleRefusal.TheVariants.{TooLong, Malformed}
use Rattle.qasm_lex.specs.Lexemes.{Piece, IsPiece, Cut, token_of, AreTokens, IsWithin, Lexeme, word, whole, real, quoted, arrow, equal, mark}
use Rattle.qasm_lex.specs.Symbols.{symbol_of, symbols, symbol_in, symbols_in}
use Rattle.qasm_lex.specs.Expressions.{Tree, Formed, spelling, eval}
use Rattle.qasm_lex.specs.declared.value.Value.{Value}
use Rattle.qasm_lex.specs.Values.{Outcome, values, multiple_of}
use Rattle.qasm_lex.specs.Angles.{IsExpression, IsShape, too_long, malformed, expression, told, IsOutcome, IsAnswer}
use Rattle.qasm_lex.specs.Private.Descent.{parsed, expr, whole_of, outcome_from, shape_from, answer_from}
use Rattle.qasm_lex.proofs.Cuts.{spelling_some}
use Rattle.qasm_lex.proofs.Whole.{found, only}

piece_within : (text : List ℕ) (p : Piece) → IsPiece text p → p.to ≤ length text
piece_within text p i =
    let f = i.forward in
    let w = i.begins.within in
    let some = spelling_some p.form _ i.begins.spelled in
    omega (arith, length-take-le (p.to - p.from) (drop p.from text) w, length-drop p.from text)

each_step : (text : List ℕ) (form : Form) (from to : ℕ) (pieces : List Piece) → IsPiece text (record { form = form; from = from; to = to })
    → All (IsWithin text) (filter_map token_of pieces) → All (IsWithin text) (filter_map token_of (record { form = form; from = from; to = to } ∷ pieces))
each_step text Blank from to pieces i h = h
each_step text Comment from to pieces i h = h
each_step text (OfKind kind) from to pieces i h =
    All-cons (IsWithin text) (record { kind = kind; from = from; to = to }) (filter_map token_of pieces) (record { forward = i.forward; within = piece_within text _ i }) h

each_token : (text : List ℕ) (place stop : ℕ) (pieces : List Piece) → Cut text place pieces stop → All (IsWithin text) (filter_map token_of pieces)
each_token text place stop [] c = All-nil (IsWithin text)
each_token text place stop (p ∷ pieces) c = each_step text p.form p.from p.to pieces c.1 (each_token text p.to stop pieces c.2)

-- the tokens of a text are places of it
pub tokens_within : (text : List ℕ) (tokens : List Token) (bad : Option ℕ) → AreTokens text tokens bad → All (IsWithin text) tokens
tokens_within text tokens bad a = subst (All (IsWithin text)) (sym a.tokens_are) (each_token text 0 a.stop a.pieces a.cut)

no_tree : (given : List Value) (s : List Symbol) → whole_of (parsed given expr s) ≡ None → (t : Tree) → IsExpression s t → ⊥
no_tree given s e t r = let f = only given s t r.formed r.spelled in absurd cc

outcome_step : (given : List Value) (s : List Symbol) → length s ≤ 64 → (x : Option Outcome) → whole_of (parsed given expr s) ≡ x → IfSome x (λ w. (t : Tree) × Formed t × (s ≡ spelling t) × (eval (values given) t ≡ w)) → IsOutcome given s (outcome_from x)
outcome_step given s h None e f = record { shape = Err Malformed; is_shape = malformed h (no_tree given s e) refl; value = refl }
outcome_step given s h (Some v) e f = record { shape = Ok f.0; is_shape = expression h f.0 (record { formed = f.1; spelled = f.2 }) refl; value = sym f.3 }

-- the value that is read, or the refusal
pub outcome_is : (given : List Value) (s : List Symbol) → length s ≤ 64 → IsOutcome given s (outcome_from (whole_of (parsed given expr s)))
outcome_is given s h = outcome_step given s h (whole_of (parsed given expr s)) refl (found given s)

-- or that there are too many symbols
pub long_outcome : (given : List Value) (s : List Symbol) → 64 < length s → IsOutcome given s (Err TooLong)
long_outcome given s h = record { shape = Err TooLong; is_shape = too_long h refl; value = refl }

answer_same : (x : Option Outcome) → answer_from x ≡ multiple_of (outcome_from x)
answer_same None = refl
answer_same (Some x) = refl

-- the answer that is read
pub answer_is : (s : List Symbol) → length s ≤ 64 → IsAnswer s (answer_from (whole_of (parsed [] expr s)))
answer_is s h = record { outcome = outcome_from (whole_of (parsed [] expr s)); is_outcome = outcome_is [] s h; multiple = answer_same (whole_of (parsed [] expr s)) }

pub long_is : (s : List Symbol) → 64 < length s → IsAnswer s (Err TooLong)
long_is s h = record { outcome = Err TooLong; is_outcome = long_outcome [] s h; multiple = refl }

shape_step : (given : List Value) (s : List Symbol) → length s ≤ 64 → (x : Option Outcome) → whole_of (parsed given expr s) ≡ x → IfSome x (λ w. (t : Tree) × Formed t × (s ≡ spelling t) × (eval (values given) t ≡ w))
    → (shape : Result Tree AngleRefusal) × IsShape s shape × (shape_from x ≡ told shape)
shape_step given s h None e f = (Err Malformed, malformed h (no_tree given s e) refl, refl)
shape_step given s h (Some v) e f = (Ok f.0, expression h f.0 (record { formed = f.1; spelled = f.2 }) refl, refl)

-- what is read has the shape of an expression, whatever the values
pub shape_is : (given : List Value) (s : List Symbol) → length s ≤ 64 → (shape : Result Tree AngleRefusal) × IsShape s shape × (shape_from (whole_of (parsed given expr s)) ≡ told shape)
shape_is given s h = shape_step given s h (whole_of (parsed given expr s)) refl (found given s)

symbol_bare : (l : Lexeme) → symbol_in [] l ≡ symbol_of l
symbol_bare (word bytes) = refl
symbol_bare (whole digits) = refl
symbol_bare (real bytes) = refl
symbol_bare (quoted bytes) = refl
symbol_bare arrow = refl
symbol_bare equal = refl
symbol_bare (mark b) = refl

-- where there are no parameters, lexemes stand for what they stand for
pub symbols_bare : (ls : List Lexeme) → symbols_in [] ls ≡ symbols ls
symbols_bare [] = refl
symbols_bare (l ∷ ls) = ap (λ x. x ∷ symbols_in [] ls) (symbol_bare l) ∙ ap (λ xs. symbol_of l ∷ xs) (symbols_bare ls)
