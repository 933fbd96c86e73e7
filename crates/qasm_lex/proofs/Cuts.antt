-- A text cut into pieces.
use Prim.Native.Char.{code}
use Rattle.std.proofs.Common.{◌≡◌, ◌∙◌, sym, ap, refl, ◌≤◌, ◌<◌, ◌⊎◌, inl, inr, ℕ, zero, suc, ◌+◌, ◌-◌, List, [], ◌∷◌, ◌++◌, length, drop, take, Option, Some, None, IfSome, IfNone, arith, length-append, length-drop, subst}
use Rattle.std.proofs.Math.Seq.{take-length}
use Rattle.std.proofs.Math.Nat.{eq-or-lt_of_le}
use Rattle.std.proofs.lemmas.List.{length-take-le, take-append-drop}
use Rattle.std.specs.List.{filter_map}
use Rattle.std.proofs.lemmas.List.Elements.{filter_map-append}
use Rattle.qasm_lex.specs.declared.token.Token.{Token}
use Rattle.qasm_lex.specs.declared.token.TokenKind.{TokenKind}
use Rattle.qasm_lex.specs.declared.token.TokenKind.TheVariants.{Word, Whole, Real, Text, Arrow, Equal, Mark}
use Rattle.qasm_lex.specs.declared.pieces.Form.{Form}
use Rattle.qasm_lex.specs.declared.pieces.Form.TheVariants.{Blank, Comment, Token as OfKind}
use Rattle.qasm_lex.specs.Private.Scan.{piece_of}
use Rattle.qasm_lex.specs.Lexemes.{Then, IsWhole, IsExponent, IsPointed, SpellsForm, Begins, BeginsNone, Piece, IsPiece, Cut, token_of, Ends, AreTokens}
use Rattle.qasm_lex.proofs.Forms.{piece_in, spells}
use Rattle.qasm_lex.proofs.Front.{begins, begins_none, begins_is, comment_front}

first_counts : (t : List ℕ) (b : ℕ) (more : List ℕ) → t ≡ b ∷ more → 0 < length t
first_counts t b more e = rw e (omega arith)

front_counts : (t front rest : List ℕ) → t ≡ front ++ rest → 0 < length front → 0 < length t
front_counts t front rest e h = omega (arith, ap length e, length-append front rest)

real_counts : (t : List ℕ) → IsPointed t ⊎ Then IsWhole IsExponent t → 0 < length t
real_counts t (inl s) = omega (arith, ap length s.3, length-append s.0 (code "." ∷ s.1 ++ s.2))
real_counts t (inr s) = front_counts t s.0 s.1 s.2 (s.3).0

-- a spelling has a byte
pub spelling_some : (form : Form) (t : List ℕ) → SpellsForm form t → 0 < length t
spelling_some Blank t s = first_counts t _ _ s.1
spelling_some Comment t s = first_counts t _ _ s.1
spelling_some (OfKind Word) t s = let w = s.1 in front_counts t w.0 w.1 w.2 (first_counts w.0 _ _ (w.3).1)
spelling_some (OfKind Whole) t s = (s.1).0
spelling_some (OfKind Real) t s = real_counts t s.1
spelling_some (OfKind Text) t s = first_counts t _ _ (s.1).1
spelling_some (OfKind Arrow) t s = first_counts t _ _ s
spelling_some (OfKind Equal) t s = first_counts t _ _ s
spelling_some (OfKind (Mark b)) t s = first_counts t _ _ s.0

pub begins_forward : (bs : List ℕ) (form : Form) (n : ℕ) → piece_of bs ≡ Some (form, n) → 0 < n
begins_forward bs form n e =
    let b = begins bs form n e in
    let some = spelling_some form (take n bs) b.spelled in
    let w = b.within in
    omega (arith, length-take-le n bs w)

-- the tokens so far, up to the place
pub record Done (text : List ℕ) (place : ℕ) (tokens : List Token) : Type 0 where
  pub pieces : List Piece
  pub cut : Cut text 0 pieces place
  pub tokens_are : tokens ≡ filter_map token_of pieces
  pub within : place ≤ length text

pub done_none : (text : List ℕ) → Done text 0 []
done_none text = record { pieces = []; cut = refl; tokens_are = refl; within = omega arith }

cut_more : (text : List ℕ) (a : ℕ) (ps : List Piece) (stop : ℕ) (p : Piece) → Cut text a ps stop → p.from ≡ stop → IsPiece text p → Cut text a (ps ++ (p ∷ [])) p.to
cut_more text a [] stop p c f i = (f ∙ sym c, i, refl)
cut_more text a (q ∷ ps) stop p c f i = (c.0, c.1, cut_more text q.to ps stop p c.2 f i)

piece_there : (text : List ℕ) (place n : ℕ) (form : Form) → Begins (drop place text) form n → IsPiece text (record { form = form; from = place; to = place + n })
piece_there text place n form b =
    let e : n ≡ place + n - place = omega arith in
    record { forward = omega arith; begins = subst (λ k. Begins (drop place text) form k) e b }

pub done_token : (text : List ℕ) (place n : ℕ) (kind : TokenKind) (tokens : List Token) → Done text place tokens → Begins (drop place text) (OfKind kind) n
    → Done text (place + n) (tokens ++ (record { kind = kind; from = place; to = place + n } ∷ []))
done_token text place n kind tokens d b =
    let p : Piece = record { form = OfKind kind; from = place; to = place + n } in
    let w = b.within in
    let h = d.within in
    record {
      pieces = d.pieces ++ (p ∷ []);
      cut = cut_more text 0 d.pieces place p d.cut refl (piece_there text place n (OfKind kind) b);
      tokens_are = ap (λ x. x ++ (record { kind = kind; from = place; to = place + n } ∷ [])) d.tokens_are ∙ sym (filter_map-append token_of d.pieces (p ∷ []));
      within = omega (arith, length-drop place text);
    }

append_none : (X : Type 0) (xs : List X) → xs ++ [] ≡ xs
append_none X [] = refl
append_none X (x ∷ xs) = ap (λ r. x ∷ r) (append_none X xs)

-- a blank or a comment adds no token
gap_gives : (form : Form) (a b : ℕ) → ((kind : TokenKind) → form ≡ OfKind kind → ⊥) → filter_map token_of (record { form = form; from = a; to = b } ∷ []) ≡ []
gap_gives Blank a b h = refl
gap_gives Comment a b h = refl
gap_gives (OfKind kind) a b h = absurd (h kind refl)

pub done_gap : (text : List ℕ) (place n : ℕ) (form : Form) (tokens : List Token) → Done text place tokens → Begins (drop place text) form n
    → ((kind : TokenKind) → form ≡ OfKind kind → ⊥) → Done text (place + n) tokens
done_gap text place n form tokens d b gap =
    let p : Piece = record { form = form; from = place; to = place + n } in
    let w = b.within in
    let h = d.within in
    record {
      pieces = d.pieces ++ (p ∷ []);
      cut = cut_more text 0 d.pieces place p d.cut refl (piece_there text place n form b);
      tokens_are = d.tokens_are ∙ sym (append_none Token (filter_map token_of d.pieces)) ∙ ap (λ x. filter_map token_of d.pieces ++ x) (sym (gap_gives form place (place + n) gap)) ∙ sym (filter_map-append token_of d.pieces (p ∷ []));
      within = omega (arith, length-drop place text);
    }

-- a text has one list of pieces
begins_not_end : (text : List ℕ) (a : ℕ) (bad : Option ℕ) (form : Form) (n : ℕ) → Ends text a bad → Begins (drop a text) form n → ⊥
begins_not_end text a None form n e b =
    let w = b.within in
    let some = spelling_some form (take n (drop a text)) b.spelled in
    omega (arith, length-take-le n (drop a text) w, length-drop a text)
begins_not_end text a (Some bad) form n e b =
    let h : BeginsNone (drop a text) = subst (λ k. BeginsNone (drop k text)) (sym e.0) e.2 in
    h (piece_in form (take n (drop a text))) (take n (drop a text)) (drop n (drop a text)) (spells form (take n (drop a text)) b.spelled) (sym (take-append-drop n (drop a text)))

pub pair_same : (x y : Form × ℕ) → Some x ≡ Some y → x ≡ y
pair_same x y e = cc e

piece_eq : (p q : Piece) → p.form ≡ q.form → p.from ≡ q.from → p.to ≡ q.to → p ≡ q
piece_eq p q f a b =
    ap (λ x. record { form = x; from = p.from; to = p.to }) f
    ∙ ap (λ x. record { form = q.form; from = x; to = p.to }) a
    ∙ ap (λ x. record { form = q.form; from = q.from; to = x }) b

piece_same : (text : List ℕ) (p q : Piece) → p.from ≡ q.from → IsPiece text p → IsPiece text q → p ≡ q
piece_same text p q e i j =
    let f = begins_is (drop p.from text) p.form (p.to - p.from) i.begins in
    let g = begins_is (drop q.from text) q.form (q.to - q.from) j.begins in
    let same : Some (p.form, p.to - p.from) ≡ Some (q.form, q.to - q.from) = sym f ∙ ap (λ k. piece_of (drop k text)) e ∙ g in
    let pair : (p.form, p.to - p.from) ≡ (q.form, q.to - q.from) = pair_same _ _ same in
    let forms : p.form ≡ q.form = ap (λ x. x.0) pair in
    let counts : p.to - p.from ≡ q.to - q.from = ap (λ x. x.1) pair in
    let hi = i.forward in
    let hj = j.forward in
    let ends : p.to ≡ q.to = omega arith in
    piece_eq p q forms e ends

pub cut_same : (text : List ℕ) (a : ℕ) (ps qs : List Piece) (s t : ℕ) (b c : Option ℕ) → Cut text a ps s → Ends text s b → Cut text a qs t → Ends text t c → (ps ≡ qs) × (s ≡ t)
cut_same text a [] [] s t b c f e g h = (refl, sym f ∙ g)
cut_same text a [] (q ∷ qs) s t b c f e g h =
    absurd (begins_not_end text q.from b q.form (q.to - q.from) (subst (λ k. Ends text k b) (sym f ∙ sym g.0) e) (g.1).begins)
cut_same text a (p ∷ ps) [] s t b c f e g h =
    absurd (begins_not_end text p.from c p.form (p.to - p.from) (subst (λ k. Ends text k c) (sym g ∙ sym f.0) h) (f.1).begins)
cut_same text a (p ∷ ps) (q ∷ qs) s t b c f e g h =
    let one : p ≡ q = piece_same text p q (f.0 ∙ sym g.0) f.1 g.1 in
    let rest = cut_same text p.to ps qs s t b c f.2 e (subst (λ k. Cut text k qs t) (ap (λ x. x.to) (sym one)) g.2) h in
    (ap (λ x. x ∷ ps) one ∙ ap (λ x. q ∷ x) rest.0, rest.1)

pub ends_same : (text : List ℕ) (s : ℕ) (b c : Option ℕ) → Ends text s b → Ends text s c → b ≡ c
ends_same text s None None e h = refl
ends_same text s None (Some c) e h = let l = h.1 in let q = h.0 in absurd (omega arith)
ends_same text s (Some b) None e h = let l = e.1 in let q = e.0 in absurd (omega arith)
ends_same text s (Some b) (Some c) e h = ap Some (sym e.0 ∙ h.0)

-- a text has one list of tokens and one bad place
pub tokens_same : (text : List ℕ) (list more : List Token) (bad worse : Option ℕ) → AreTokens text list bad → AreTokens text more worse → (list ≡ more) × (bad ≡ worse)
tokens_same text list more bad worse a b =
    let same = cut_same text 0 a.pieces b.pieces a.stop b.stop bad worse a.cut a.ends b.cut b.ends in (
      a.tokens_are ∙ ap (λ x. filter_map token_of x) same.0 ∙ sym b.tokens_are,
      ends_same text b.stop bad worse (subst (λ k. Ends text k bad) same.1 a.ends) b.ends,
    )

pub done_ends : (text : List ℕ) (place : ℕ) (list : List Token) (bad : Option ℕ) → Done text place list → Ends text place bad → AreTokens text list bad
done_ends text place list bad d e = record { pieces = d.pieces; stop = place; cut = d.cut; tokens_are = d.tokens_are; ends = e }

pub front_forward : (text : List ℕ) (place : ℕ) (r : Option (Form × ℕ)) → place ≤ length text → piece_of (drop place text) ≡ r → IfSome r (λ p. (0 < p.1) × (place + p.1 ≤ length text))
front_forward text place None h e = tt
front_forward text place (Some p) h e =
    let w = (begins (drop place text) p.0 p.1 e).within in
    (begins_forward (drop place text) p.0 p.1 e, omega (arith, length-drop place text))

pub front_none : (text : List ℕ) (place : ℕ) (r : Option (Form × ℕ)) → piece_of (drop place text) ≡ r → IfNone r (BeginsNone (drop place text))
front_none text place None e = begins_none (drop place text) e
front_none text place (Some p) e = tt

pub front_some : (text : List ℕ) (place : ℕ) (r : Option (Form × ℕ)) → piece_of (drop place text) ≡ r → IfSome r (λ p. Begins (drop place text) p.0 p.1)
front_some text place None e = tt
front_some text place (Some p) e = begins (drop place text) p.0 p.1 e

-- a part of a slice that goes to its end
pub to_end : (text : List ℕ) (place : ℕ) → take (length text - place) (drop place text) ≡ drop place text
to_end text place = ap (λ k. take k (drop place text)) (sym (length-drop place text)) ∙ take-length (drop place text)

-- a text has a list of tokens
abbrev HasTokens : List ℕ → Type 0
HasTokens text = (list : List Token) × (bad : Option ℕ) × AreTokens text list bad

exist_next : (text : List ℕ) (place m : ℕ) (form : Form) (list : List Token) → Done text place list → Begins (drop place text) form m → ((more : List Token) → Done text (place + m) more → HasTokens text) → HasTokens text
exist_next text place m Blank list d b go = go list (done_gap text place m Blank list d b (λ kind e. cc))
exist_next text place m Comment list d b go = go list (done_gap text place m Comment list d b (λ kind e. cc))
exist_next text place m (OfKind kind) list d b go = go _ (done_token text place m kind list d b)

exist_here : (text : List ℕ) (place : ℕ) (list : List Token) → Done text place list → place < length text
    → ((further : ℕ) (more : List Token) → place < further → Done text further more → HasTokens text) → (r : Option (Form × ℕ)) → piece_of (drop place text) ≡ r → HasTokens text
exist_here text place list d lt go None e = (list, Some place, done_ends text place list (Some place) d (refl, lt, begins_none (drop place text) e))
exist_here text place list d lt go (Some p) e =
    let some = begins_forward (drop place text) p.0 p.1 e in
    exist_next text place p.1 p.0 list d (begins (drop place text) p.0 p.1 e) (λ more done. go (place + p.1) more (omega arith) done)

exist_from : (n : ℕ) (text : List ℕ) (place : ℕ) (list : List Token) → length text ≤ place + n → Done text place list → HasTokens text
exist_from zero text place list h d = let w = d.within in (list, None, done_ends text place list None d (omega arith))
exist_from (suc n) text place list h d =
    elim (eq-or-lt_of_le (d.within)) [
      | inl e ↦ (list, None, done_ends text place list None d e)
      | inr lt ↦ exist_here text place list d lt (λ further more above done. exist_from n text further more (omega arith) done) (piece_of (drop place text)) refl
    ]

pub tokens_exist : (text : List ℕ) → (list : List Token) × (bad : Option ℕ) × AreTokens text list bad
tokens_exist text = exist_from (length text) text 0 [] (omega arith) (done_none text)

-- two slashes begin a comment
pub slashes : (more : List ℕ) (form : Form) (n : ℕ) → Begins (47 ∷ 47 ∷ more) form n → form ≡ Comment
slashes more form n b = ap (λ x. x.0) (pair_same _ _ (sym (begins_is (47 ∷ 47 ∷ more) form n b) ∙ comment_front more))
