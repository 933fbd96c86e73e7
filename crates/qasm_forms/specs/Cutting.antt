-- Words of the calls on lexemes: their front, and what stands before and after a separator.
use Prim.Native.Char.{code}
use Rattle.std.specs.Prelude.{ℕ, Bool, true, false, ◌||◌, ◌&&◌, not, cond, List, [], ◌∷◌, Option, Some, None, option_map, option_copied}
use Rattle.std.specs.Option.{option_map_or}
use Rattle.std.specs.Borrow.{Bor}
use Rattle.qasm_lex.specs.Lexemes.{Lexeme, word, arrow}
use Rattle.qasm_forms.specs.declared.lexemes.Stop.{Stop}
use Rattle.qasm_forms.specs.declared.lexemes.Stop.TheVariants.{Semicolon, Comma, To, Open, Close}
use Rattle.qasm_forms.specs.Statements.{is_mark, End, semicolon, brace}

-- bytes, if there are some
abbrev pub seen_bytes : Option (Bor (List ℕ)) → Option (List ℕ)
seen_bytes bytes = option_copied bytes

-- whether none are left
abbrev pub is_nothing : List Lexeme → Bool
is_nothing [] = true
is_nothing (l ∷ ls) = false

-- the word that is first
abbrev pub word_at : List Lexeme → Option (List ℕ)
word_at (word bytes ∷ ls) = Some bytes
word_at _ = None

-- whether it is one that is left out
abbrev pub begins_left : (List ℕ → Bool) → List Lexeme → Bool
begins_left leaves ls = option_map_or leaves (word_at ls) false

-- what separates lexemes
abbrev pub is_stop : Stop → Lexeme → Bool
is_stop Semicolon l = is_mark (code ";") l
is_stop Comma l = is_mark (code ",") l
is_stop Open l = is_mark (code "{") l
is_stop Close l = is_mark (code ")") l
is_stop To arrow = true
is_stop To _ = false

-- the lexemes before the first separator, whether there is one, and those after it
abbrev pub before_stop : Stop → List Lexeme → List Lexeme
before_stop stop [] = []
before_stop stop (l ∷ ls) = cond (is_stop stop l) [] (l ∷ before_stop stop ls)

abbrev pub has_stop : Stop → List Lexeme → Bool
has_stop stop [] = false
has_stop stop (l ∷ ls) = cond (is_stop stop l) true (has_stop stop ls)

abbrev pub after_stop : Stop → List Lexeme → List Lexeme
after_stop stop [] = []
after_stop stop (l ∷ ls) = cond (is_stop stop l) ls (after_stop stop ls)

-- the end of a statement that a lexeme is, where a `{` stands before it or not
abbrev pub end_by : Bool → Lexeme → Option End
end_by opened l = cond (is_mark (code "}") l) (Some brace) (cond (is_mark (code ";") l && not opened) (Some semicolon) None)

-- whether a `{` stands before what follows
abbrev pub opens : Bool → Lexeme → Bool
opens opened l = opened || is_mark (code "{") l

-- the lexemes before the end of the first statement, that end, and those after it
abbrev pub led_end : Lexeme → Option (List Lexeme × End × List Lexeme) → Option (List Lexeme × End × List Lexeme)
led_end l read = option_map (λ p. (l ∷ p.0, p.1, p.2)) read

abbrev pub end_at : Bool → List Lexeme → Option (List Lexeme × End × List Lexeme)
end_at opened [] = None
end_at opened (l ∷ ls) = option_map_or (λ end. Some ([], end, ls)) (end_by opened l) (led_end l (end_at (opens opened l) ls))
