-- A text is cut into the lexemes of its tokens, and into no others.
use Rattle.std.proofs.Common.{◌≡◌, ◌∙◌, sym, ap, refl, ◌≤◌, ℕ, ◌-◌, List, [], ◌∷◌, ◌++◌, length, map, drop, take, Option, Some, None, arith, length-append, length-drop, subst}
use Rattle.std.specs.List.{filter_map, slice_range}
use Rattle.std.proofs.lemmas.List.{length-take-le, take_at, drop_at}
use Rattle.std.proofs.lemmas.List.Folds.{drop_split}
use Rattle.qasm_lex.specs.declared.token.Token.{Token}
use Rattle.qasm_lex.specs.declared.pieces.Form.{Form}
use Rattle.qasm_lex.specs.declared.pieces.Form.TheVariants.{Blank, Comment, Token as OfKind}
use Rattle.qasm_lex.specs.Lexemes.{Lexeme, Spells, SpellsForm, NoneLonger, BeginsNone, Cuts, Ends, AreLexemes, of_kind, Piece, Cut, token_of, AreTokens, lexemes_of}
use Rattle.qasm_lex.specs.Private.Scan.{piece_of}
use Rattle.qasm_lex.proofs.Forms.{piece_in, spells, form_of}
use Rattle.qasm_lex.proofs.Front.{begins_is}
use Rattle.qasm_lex.proofs.Cuts.{spelling_some, pair_same, ends_same}
use Rattle.qasm_lex.proofs.Counts.{ends_within}

-- what a piece of the text spells
abbrev piece_at : List ℕ → Piece → Option Lexeme
piece_at text p = piece_in p.form (slice_range text p.from p.to)

cuts_of : (text : List ℕ) (place stop : ℕ) (pieces : List Piece) → Cut text place pieces stop → Cuts (drop place text) (map (piece_at text) pieces) (drop stop text)
cuts_of text place stop [] c = ap (λ k. drop k text) c
cuts_of text place stop (p ∷ pieces) c =
    let b = (c.1).begins in
    let front = slice_range text p.from p.to in
    let size : length front ≡ p.to - p.from = length-take-le (p.to - p.from) (drop p.from text) b.within in
    subst (λ k. Cuts (drop k text) (map (piece_at text) (p ∷ pieces)) (drop stop text)) c.0 (
      front,
      drop p.to text,
      drop_split text p.from p.to (c.1).forward,
      spells p.form front b.spelled,
      subst (NoneLonger (drop p.from text)) (sym size) b.longest,
      cuts_of text p.to stop pieces c.2,
    )

lexemes_step : (text : List ℕ) (form : Form) (from to : ℕ) (pieces : List Piece) → lexemes_of text (filter_map token_of pieces) ≡ filter_map (λ piece. piece) (map (piece_at text) pieces)
    → lexemes_of text (filter_map token_of (record { form = form; from = from; to = to } ∷ pieces)) ≡ filter_map (λ piece. piece) (map (piece_at text) (record { form = form; from = from; to = to } ∷ pieces))
lexemes_step text Blank from to pieces h = h
lexemes_step text Comment from to pieces h = h
lexemes_step text (OfKind kind) from to pieces h = ap (λ l. of_kind kind (slice_range text from to) ∷ l) h

lexemes_in : (text : List ℕ) (pieces : List Piece) → lexemes_of text (filter_map token_of pieces) ≡ filter_map (λ piece. piece) (map (piece_at text) pieces)
lexemes_in text [] = refl
lexemes_in text (p ∷ pieces) = lexemes_step text p.form p.from p.to pieces (lexemes_in text pieces)

-- the text's tokens are its lexemes
pub are_lexemes : (text : List ℕ) (tokens : List Token) (bad : Option ℕ) → AreTokens text tokens bad → AreLexemes text (lexemes_of text tokens) bad
are_lexemes text tokens bad a = record {
  pieces = map (piece_at text) a.pieces;
  stop = a.stop;
  cuts = cuts_of text 0 a.stop a.pieces a.cut;
  lexemes_are = ap (lexemes_of text) a.tokens_are ∙ lexemes_in text a.pieces;
  ends = a.ends;
}

-- a front that is spelled and as long as can be
record IsFront (text : List ℕ) (piece : Option Lexeme) (front after : List ℕ) : Type 0 where
  parted : text ≡ front ++ after
  spelled : Spells piece front
  longest : NoneLonger text (length front)

taken : (text front after : List ℕ) → text ≡ front ++ after → take (length front) text ≡ front
taken text front after e = ap (take (length front)) e ∙ take_at front after (length front) refl

dropped : (text front after : List ℕ) → text ≡ front ++ after → drop (length front) text ≡ after
dropped text front after e = ap (drop (length front)) e ∙ drop_at front after (length front) refl

-- is what the scan finds
scanned : (text : List ℕ) (piece : Option Lexeme) (front after : List ℕ) → IsFront text piece front after → (form : Form) × (piece_of text ≡ Some (form, length front)) × (piece ≡ piece_in form front)
scanned text piece front after i =
    let f = form_of piece front i.spelled in
    let within : length front ≤ length text = omega (arith, ap length i.parted, length-append front after) in
    let there : SpellsForm f.0 (take (length front) text) = subst (SpellsForm f.0) (sym (taken text front after i.parted)) f.1 in
    (f.0, begins_is text f.0 (length front) (record { within = within; spelled = there; longest = i.longest }), f.2)

-- so there is one
front_same : (text : List ℕ) (p q : Option Lexeme) (f g a b : List ℕ) → IsFront text p f a → IsFront text q g b → (p ≡ q) × (a ≡ b)
front_same text p q f g a b i j =
    let x = scanned text p f a i in
    let y = scanned text q g b j in
    let one = pair_same (x.0, length f) (y.0, length g) (sym x.1 ∙ y.1) in
    let counts : length f ≡ length g = ap (λ z. z.1) one in
    let fronts : f ≡ g = sym (taken text f a i.parted) ∙ ap (λ n. take n text) counts ∙ taken text g b j.parted in (
      x.2 ∙ ap (λ z. piece_in z.0 f) one ∙ ap (piece_in y.0) fronts ∙ sym y.2,
      sym (dropped text f a i.parted) ∙ ap (λ n. drop n text) counts ∙ dropped text g b j.parted,
    )

ends_none : (text : List ℕ) (stop : ℕ) (bad : Option ℕ) → Ends text stop bad → BeginsNone (drop stop text)
ends_none text stop None e = λ piece front after s q.
    let f = form_of piece front s in
    let some = spelling_some f.0 front f.1 in
    absurd (omega (arith, ap length q, length-append front after, length-drop stop text))
ends_none text stop (Some bad) e = subst (λ k. BeginsNone (drop k text)) (sym e.0) e.2

cuts_same : (text : List ℕ) (ps qs : List (Option Lexeme)) (s t : List ℕ) → Cuts text ps s → BeginsNone s → Cuts text qs t → BeginsNone t → (ps ≡ qs) × (s ≡ t)
cuts_same text [] [] s t c n d m = (refl, sym c ∙ d)
cuts_same text [] (q ∷ qs) s t c n d m = absurd (n q d.0 d.1 d.3 (sym c ∙ d.2))
cuts_same text (p ∷ ps) [] s t c n d m = absurd (m p c.0 c.1 c.3 (sym d ∙ c.2))
cuts_same text (p ∷ ps) (q ∷ qs) s t c n d m =
    let one = front_same text p q c.0 d.0 c.1 d.1 (record { parted = c.2; spelled = c.3; longest = c.4 }) (record { parted = d.2; spelled = d.3; longest = d.4 }) in
    let rest = cuts_same c.1 ps qs s t c.5 n (subst (λ a. Cuts a qs t) (sym one.1) d.5) m in
    (ap (λ x. x ∷ ps) one.0 ∙ ap (λ l. q ∷ l) rest.0, rest.1)

-- a text has one list of lexemes and one bad place
pub lexemes_same : (text : List ℕ) (list more : List Lexeme) (bad worse : Option ℕ) → AreLexemes text list bad → AreLexemes text more worse → (list ≡ more) × (bad ≡ worse)
lexemes_same text list more bad worse a b =
    let same = cuts_same text a.pieces b.pieces (drop a.stop text) (drop b.stop text) a.cuts (ends_none text a.stop bad a.ends) b.cuts (ends_none text b.stop worse b.ends) in
    let stop : a.stop ≡ b.stop = omega (arith, ap length same.1, length-drop a.stop text, length-drop b.stop text, ends_within text a.stop bad a.ends, ends_within text b.stop worse b.ends) in (
      a.lexemes_are ∙ ap (filter_map (λ piece. piece)) same.0 ∙ sym b.lexemes_are,
      ends_same text b.stop bad worse (subst (λ k. Ends text k bad) stop a.ends) b.ends,
    )
