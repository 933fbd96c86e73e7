-- The piece at the front: what the scan finds begins the bytes, and nothing longer does.
use Prim.Native.Char.{code}
use Rattle.std.proofs.Common.{◌≡◌, ◌∙◌, sym, ap, refl, ◌≤◌, ◌⊎◌, inl, inr, ℕ, suc, ◌+◌, true, List, [], ◌∷◌, ◌++◌, length, drop, take, Option, Some, None, codes, arith, add-one, append_assoc, length-append, subst}
use Rattle.std.proofs.Math.Seq.{drop-append_seam}
use Rattle.std.proofs.lemmas.Bool.Decides.{nat_tests}
use Rattle.std.proofs.lemmas.List.{length-take-le, take-append-drop}
use Rattle.qasm_lex.specs.declared.bytes.Class.{Class}
use Rattle.qasm_lex.specs.declared.bytes.Class.TheVariants.{Letter, LetterE, Digit, Underscore, Point, Quote, Plus, Minus, Greater, Equals, Slash, LineFeed, Blank as BlankClass, Mark as MarkClass, Other}
use Rattle.qasm_lex.specs.declared.token.TokenKind.TheVariants.{Word, Whole, Real, Text, Arrow, Equal, Mark}
use Rattle.qasm_lex.specs.declared.pieces.Form.{Form}
use Rattle.qasm_lex.specs.declared.pieces.Form.TheVariants.{Blank, Comment, Token}
use Rattle.qasm_lex.specs.Bytes.{none_of, is_letter, is_digit, in_word, is_mark, is_blank}
use Rattle.qasm_lex.specs.Private.Classes.{class_of}
use Rattle.qasm_lex.specs.Private.Scan.{front_class, run, number, quoted, closed, after_minus, after_equals, after_slash, piece_at, piece_of}
use Rattle.qasm_lex.specs.Lexemes.{IsRun, Then, IsWhole, IsExponent, IsPointed, Lexeme, Spells, SpellsForm, Begins, BeginsNone}
use Rattle.qasm_lex.proofs.Classes.{Means, means, digit_class}
use Rattle.qasm_lex.proofs.Forms.{piece_in, spells, form_of}
use Rattle.qasm_lex.proofs.Runs.{run_is, run_reaches, run_exact, run_within, run_parts}
use Rattle.qasm_lex.proofs.Numbers.{Sound, Reaches, reaches_same, number_digit, number_point, number_whole, number_pointed, number_scaled, room, split_at}

word_sound : (b : ℕ) (after : List ℕ) → is_letter b ≡ true → Sound (b ∷ after) (Some (Token Word, run in_word after + 1))
word_sound b after h =
    let within = run_within in_word after in
    (omega arith, rw add-one (refl, (b ∷ [], take (run in_word after) after, refl, (b, refl, h), run_is in_word after)))

mark_sound : (b : ℕ) (after : List ℕ) → is_mark b ≡ true → Sound (b ∷ after) (Some (Token (Mark b), 1))
mark_sound b after h = (omega arith, (refl, h))

blank_sound : (b : ℕ) (after : List ℕ) → is_blank b ≡ true → Sound (b ∷ after) (Some (Blank, 1))
blank_sound b after h = (omega arith, (b, refl, h))

quoted_end : (after : List ℕ) (c : ℕ) (rest : List ℕ) → drop (run (none_of (codes "\"\n")) after) after ≡ c ∷ rest → (k : Class) → class_of c ≡ k
    → Sound (code "\"" ∷ after) (closed (run (none_of (codes "\"\n")) after) k)
quoted_end after c rest d Quote q =
    let n = run (none_of (codes "\"\n")) after in
    let within = run_within (none_of (codes "\"\n")) after in
    let r = room after (c ∷ rest) n within d in
    let count : n + 2 ≡ suc (n + 1) = omega arith in
    (omega arith, rw (count, split_at after (c ∷ rest) n 1 d, means c Quote q) (refl, (take n after, refl, run_is (none_of (codes "\"\n")) after)))
quoted_end after c rest d _ q = tt

quoted_step : (after r : List ℕ) → drop (run (none_of (codes "\"\n")) after) after ≡ r → Sound (code "\"" ∷ after) (closed (run (none_of (codes "\"\n")) after) (front_class r))
quoted_step after [] d = tt
quoted_step after (c ∷ rest) d = quoted_end after c rest d (class_of c) refl

quoted_sound : (after : List ℕ) → Sound (code "\"" ∷ after) (quoted after)
unfolding quoted
quoted_sound after = quoted_step after _ refl

minus_end : (c : ℕ) (after : List ℕ) (k : Class) → class_of c ≡ k → Sound (code "-" ∷ c ∷ after) (after_minus k (code "-"))
minus_end c after Greater q = (omega arith, ap (λ x. code "-" ∷ x ∷ []) (means c Greater q))
minus_end c after _ q = mark_sound (code "-") (c ∷ after) refl

minus_sound : (after : List ℕ) → Sound (code "-" ∷ after) (after_minus (front_class after) (code "-"))
minus_sound [] = mark_sound (code "-") [] refl
minus_sound (c ∷ after) = minus_end c after (class_of c) refl

equals_end : (c : ℕ) (after : List ℕ) (k : Class) → class_of c ≡ k → Sound (code "=" ∷ c ∷ after) (after_equals k)
equals_end c after Equals q = (omega arith, ap (λ x. code "=" ∷ x ∷ []) (means c Equals q))
equals_end c after _ q = tt

equals_sound : (after : List ℕ) → Sound (code "=" ∷ after) (after_equals (front_class after))
equals_sound [] = tt
equals_sound (c ∷ after) = equals_end c after (class_of c) refl

slash_end : (c : ℕ) (after : List ℕ) (k : Class) → class_of c ≡ k → Sound (code "/" ∷ c ∷ after) (after_slash k (c ∷ after) (code "/"))
slash_end c after Slash q =
    let within = run_within (none_of (codes "\n")) after in
    let count : run (none_of (codes "\n")) after + 2 ≡ suc (suc (run (none_of (codes "\n")) after)) = omega arith in
    (omega arith, rw count (take (run (none_of (codes "\n")) after) after, ap (λ x. code "/" ∷ x ∷ take (run (none_of (codes "\n")) after) after) (means c Slash q), run_is (none_of (codes "\n")) after))
slash_end c after _ q = mark_sound (code "/") (c ∷ after) refl

slash_sound : (after : List ℕ) → Sound (code "/" ∷ after) (after_slash (front_class after) after (code "/"))
slash_sound [] = mark_sound (code "/") [] refl
slash_sound (c ∷ after) = slash_end c after (class_of c) refl

piece_sound : (b : ℕ) (after : List ℕ) (c : Class) → class_of b ≡ c → Means c b → Sound (b ∷ after) (piece_at c b after)
piece_sound b after Letter e h = word_sound b after h
piece_sound b after LetterE e h = word_sound b after h
piece_sound b after Digit e h = number_digit b after e
piece_sound b after Underscore e h = tt
piece_sound b after Point e h = number_point b after e
piece_sound b after Quote e h = rw h (quoted_sound after)
piece_sound b after Plus e h = mark_sound b after h
piece_sound b after Minus e h = rw h (minus_sound after)
piece_sound b after Greater e h = tt
piece_sound b after Equals e h = rw h (equals_sound after)
piece_sound b after Slash e h = rw h (slash_sound after)
piece_sound b after LineFeed e h = blank_sound b after h
piece_sound b after BlankClass e h = blank_sound b after h
piece_sound b after MarkClass e h = mark_sound b after h
piece_sound b after Other e h = tt

pub sound : (bs : List ℕ) → Sound bs (piece_of bs)
unfolding piece_of
sound [] = tt
sound (b ∷ after) = piece_sound b after (class_of b) refl (means b (class_of b) refl)

-- nothing longer: the scan of bytes that begin with a spelling finds that spelling, or a longer one
starts : (b : ℕ) (after : List ℕ) (c : Class) → class_of b ≡ c → piece_of (b ∷ after) ≡ piece_at c b after
unfolding piece_of
starts b after c e = rw e refl

word_reaches : (b m : ℕ) (u : List ℕ) (c : Class) → class_of b ≡ c → is_letter b ≡ true → m ≤ run in_word u → Reaches (suc m) (Token Word) (piece_at c b u)
unfolding class_of
word_reaches b m u Letter e h l = reaches_same _ _ (Token Word) (omega arith)
word_reaches b m u LetterE e h l = reaches_same _ _ (Token Word) (omega arith)
word_reaches b m u _ e h l = absurd (grind (arith, nat_tests))

blank_reaches : (b : ℕ) (u : List ℕ) (c : Class) → class_of b ≡ c → is_blank b ≡ true → Reaches 1 Blank (piece_at c b u)
unfolding class_of
blank_reaches b u LineFeed e h = inr (refl, refl)
blank_reaches b u BlankClass e h = inr (refl, refl)
blank_reaches b u _ e h = absurd (grind (arith, nat_tests))

minus_choice : (b : ℕ) (k : Class) → Reaches 1 (Token (Mark b)) (after_minus k b)
minus_choice b Greater = inl (omega arith)
minus_choice b _ = inr (refl, refl)

slash_choice : (b : ℕ) (u : List ℕ) (k : Class) → Reaches 1 (Token (Mark b)) (after_slash k u b)
slash_choice b u Slash = inl (omega arith)
slash_choice b u _ = inr (refl, refl)

mark_reaches : (b : ℕ) (u : List ℕ) (c : Class) → class_of b ≡ c → is_mark b ≡ true → Reaches 1 (Token (Mark b)) (piece_at c b u)
unfolding class_of
mark_reaches b u Plus e h = inr (refl, refl)
mark_reaches b u Minus e h = minus_choice b (front_class u)
mark_reaches b u Slash e h = slash_choice b u (front_class u)
mark_reaches b u MarkClass e h = inr (refl, refl)
mark_reaches b u _ e h = absurd (grind (arith, nat_tests))

-- spellings by their first bytes
digit_front : (b : ℕ) (u : List ℕ) → is_digit b ≡ true → piece_of (b ∷ u) ≡ number (b ∷ u)
digit_front b u h = starts b u Digit (digit_class b h)

point_front : (u : List ℕ) → piece_of (code "." ∷ u) ≡ number (code "." ∷ u)
unfolding class_of
point_front u = starts (code ".") u Point refl

quote_front : (u : List ℕ) → piece_of (code "\"" ∷ u) ≡ quoted u
unfolding class_of
quote_front u = starts (code "\"") u Quote refl

pub comment_front : (u : List ℕ) → piece_of (codes "//" ++ u) ≡ Some (Comment, run (none_of (codes "\n")) u + 2)
unfolding class_of piece_of
comment_front u = refl

arrow_front : (u : List ℕ) → piece_of (codes "->" ++ u) ≡ Some (Token Arrow, 2)
unfolding class_of piece_of
arrow_front u = refl

equal_front : (u : List ℕ) → piece_of (codes "==" ++ u) ≡ Some (Token Equal, 2)
unfolding class_of piece_of
equal_front u = refl

closed_front : (u : List ℕ) (n : ℕ) → closed n (front_class (code "\"" ∷ u)) ≡ Some (Token Text, n + 2)
unfolding class_of
closed_front u n = refl

text_reaches : (inside u : List ℕ) → IsRun (none_of (codes "\"\n")) inside → piece_of (code "\"" ∷ (inside ++ (code "\"" ∷ u))) ≡ Some (Token Text, length inside + 2)
unfolding quoted
text_reaches inside u h =
    quote_front (inside ++ (code "\"" ∷ u))
    ∙ ap (λ n. closed n (front_class (drop n (inside ++ (code "\"" ∷ u))))) (run_exact (none_of (codes "\"\n")) inside (code "\"" ∷ u) h refl)
    ∙ ap (λ r. closed (length inside) (front_class r)) (drop-append_seam inside (code "\"" ∷ u))
    ∙ closed_front u (length inside)

pointed_front : (w r : List ℕ) → IsRun is_digit w → piece_of (w ++ (code "." ∷ r)) ≡ number (w ++ (code "." ∷ r))
pointed_front [] r h = point_front r
pointed_front (d ∷ w) r h = digit_front d (w ++ (code "." ∷ r)) h.0

whole_front : (d u : List ℕ) → IsWhole d → piece_of (d ++ u) ≡ number (d ++ u)
whole_front [] u w = absurd (omega (arith, w.0))
whole_front (b ∷ d) u w = digit_front b (d ++ u) (w.1).0

number_pointed_front : (t u : List ℕ) → IsPointed t → piece_of (t ++ u) ≡ number (t ++ u)
number_pointed_front t u n =
    rw (n.3, append_assoc n.0 (code "." ∷ n.1 ++ n.2) u) (pointed_front n.0 ((n.1 ++ n.2) ++ u) (run_parts is_digit n.0 n.1 (n.4).1).0)

number_scaled_front : (t u : List ℕ) → Then IsWhole IsExponent t → piece_of (t ++ u) ≡ number (t ++ u)
number_scaled_front t u n = rw (n.2, append_assoc n.0 n.1 u) (whole_front n.0 (n.1 ++ u) n.3)

real_reaches : (t u : List ℕ) → IsPointed t ⊎ Then IsWhole IsExponent t → Reaches (length t) (Token Real) (piece_of (t ++ u))
real_reaches t u (inl s) = rw (number_pointed_front t u s) (number_pointed t u s)
real_reaches t u (inr s) = rw (number_scaled_front t u s) (number_scaled t u s)

pub reaches : (form : Form) (t u : List ℕ) → SpellsForm form t → Reaches (length t) form (piece_of (t ++ u))
reaches Blank t u s = rw (s.1, starts s.0 u (class_of s.0) refl) (blank_reaches s.0 u (class_of s.0) refl s.2)
reaches Comment t u s =
    let r = run_reaches (none_of (codes "\n")) s.0 u s.2 in
    rw (s.1, comment_front (s.0 ++ u)) (reaches_same _ _ Comment (omega arith))
reaches (Token Word) t u s =
    let w = s.1 in
    let first = (w.3).0 in
    rw (w.2, (w.3).1, starts first (w.1 ++ u) (class_of first) refl) (word_reaches first (length w.1) (w.1 ++ u) (class_of first) refl (w.3).2 (run_reaches in_word w.1 u w.4))
reaches (Token Whole) t u s = rw (whole_front t u s.1) (number_whole t u s.1)
reaches (Token Real) t u s = real_reaches t u s.1
reaches (Token Text) t u s =
    let q = s.1 in
    let size = length-append q.0 (code "\"" ∷ []) in
    rw (q.1, append_assoc q.0 (code "\"" ∷ []) u, text_reaches q.0 u q.2) (reaches_same _ _ (Token Text) (omega arith))
reaches (Token Arrow) t u s = rw (s, arrow_front u) (inr (refl, refl))
reaches (Token Equal) t u s = rw (s, equal_front u) (inr (refl, refl))
reaches (Token (Mark b)) t u s = rw (s.0, starts b u (class_of b) refl) (mark_reaches b u (class_of b) refl s.1)

-- so does a spelling of a lexeme, or of none
piece_reaches : (piece : Option Lexeme) (t u : List ℕ) → Spells piece t → (form : Form) × Reaches (length t) form (piece_of (t ++ u))
piece_reaches piece t u s = let f = form_of piece t s in (f.0, reaches f.0 t u f.1)

-- what the scan finds begins the bytes
longest_end : (m : ℕ) (other form : Form) (n : ℕ) → Reaches m other (Some (form, n)) → m ≤ n
longest_end m other form n (inl l) = omega arith
longest_end m other form n (inr e) = let q = e.0 in omega arith

pub begins : (bs : List ℕ) (form : Form) (n : ℕ) → piece_of bs ≡ Some (form, n) → Begins bs form n
begins bs form n e =
    let s : Sound bs (Some (form, n)) = subst (λ p. Sound bs p) e (sound bs) in
    record {
      within = s.0;
      spelled = s.1;
      longest = λ piece longer after h q. let r = piece_reaches piece longer after h in longest_end (length longer) r.0 form n
          (subst (λ p. Reaches (length longer) r.0 p) (ap piece_of (sym q) ∙ e) r.1);
    }

pub begins_none : (bs : List ℕ) → piece_of bs ≡ None → BeginsNone bs
begins_none bs e piece t u s q = let r = piece_reaches piece t u s in subst (λ p. Reaches (length t) r.0 p) (ap piece_of (sym q) ∙ e) r.1

-- what begins the bytes is what the scan finds: so it is the only one
reached_is : (bs : List ℕ) (form : Form) (n : ℕ) → Begins bs form n → (found : Option (Form × ℕ)) → piece_of bs ≡ found → Reaches n form found → found ≡ Some (form, n)
reached_is bs form n b None e r = absurd r
reached_is bs form n b (Some p) e (inl l) =
    let f = begins bs p.0 p.1 e in
    let w = f.within in
    let size = length-take-le p.1 bs w in
    let most = b.longest (piece_in p.0 (take p.1 bs)) (take p.1 bs) (drop p.1 bs) (spells p.0 (take p.1 bs) f.spelled) (sym (take-append-drop p.1 bs)) in
    absurd (omega arith)
reached_is bs form n b (Some p) e (inr q) = ap Some (ap (λ k. (p.0, k)) q.0 ∙ ap (λ f. (f, n)) q.1)

pub begins_is : (bs : List ℕ) (form : Form) (n : ℕ) → Begins bs form n → piece_of bs ≡ Some (form, n)
begins_is bs form n b =
    let r = reaches form (take n bs) (drop n bs) b.spelled in
    reached_is bs form n b (piece_of bs) refl
    (subst (λ m. Reaches m form (piece_of bs)) (length-take-le n bs b.within)
    (subst (λ l. Reaches (length (take n bs)) form (piece_of l)) (take-append-drop n bs) r))
