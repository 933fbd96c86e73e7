-- A text has at most as many tokens as bytes.
use Rattle.std.proofs.Common.{sym, subst, ◌≤◌, ◌<◌, ℕ, ◌+◌, ◌-◌, List, [], ◌∷◌, length, drop, Option, Some, None, arith}
use Rattle.std.specs.List.{filter_map}
use Rattle.std.proofs.lemmas.List.{length-take-le}
use Rattle.qasm_lex.specs.declared.token.Token.{Token}
use Rattle.qasm_lex.specs.declared.pieces.Form.{Form}
use Rattle.qasm_lex.specs.declared.pieces.Form.TheVariants.{Blank, Comment, Token as OfKind}
use Rattle.qasm_lex.specs.Lexemes.{Piece, IsPiece, Cut, token_of, Ends, AreTokens}
use Rattle.qasm_lex.proofs.Cuts.{spelling_some}

-- a piece has a byte
piece_some : (text : List ℕ) (p : Piece) → IsPiece text p → p.from < p.to
piece_some text p i =
    let w = i.begins.within in
    let some = spelling_some p.form _ i.begins.spelled in
    omega (arith, length-take-le (p.to - p.from) (drop p.from text) w)

-- so there are at most as many pieces as bytes
pieces_few : (text : List ℕ) (place stop : ℕ) (pieces : List Piece) → Cut text place pieces stop → place + length pieces ≤ stop
pieces_few text place stop [] c = omega arith
pieces_few text place stop (p ∷ pieces) c =
    let f = c.0 in
    let some = piece_some text p c.1 in
    let few = pieces_few text p.to stop pieces c.2 in
    omega arith

-- and at most as many tokens as pieces
tokens_step : (form : Form) (from to : ℕ) (pieces : List Piece) → length (filter_map token_of pieces) ≤ length pieces
    → length (filter_map token_of (record { form = form; from = from; to = to } ∷ pieces)) ≤ length (record { form = form; from = from; to = to } ∷ pieces)
tokens_step Blank from to pieces h = omega arith
tokens_step Comment from to pieces h = omega arith
tokens_step (OfKind kind) from to pieces h = omega arith

tokens_of_pieces : (pieces : List Piece) → length (filter_map token_of pieces) ≤ length pieces
tokens_of_pieces [] = omega arith
tokens_of_pieces (p ∷ pieces) = tokens_step p.form p.from p.to pieces (tokens_of_pieces pieces)

pub ends_within : (text : List ℕ) (stop : ℕ) (bad : Option ℕ) → Ends text stop bad → stop ≤ length text
ends_within text stop None e = omega arith
ends_within text stop (Some bad) e = let a = e.0 in let b = e.1 in omega arith

-- a text has at most as many tokens as bytes
pub tokens_few : (text : List ℕ) (list : List Token) (bad : Option ℕ) → AreTokens text list bad → length list ≤ length text
tokens_few text list bad a =
    let few = pieces_few text 0 a.stop a.pieces a.cut in
    let within = ends_within text a.stop bad a.ends in
    let kept = tokens_of_pieces a.pieces in
    subst (λ x. length x ≤ length text) (sym a.tokens_are) (omega arith)
