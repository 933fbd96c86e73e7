-- Parts of the tokens of a text, and their lexemes.
use Rattle.std.proofs.Common.{◌≡◌, ◌∙◌, sym, ap, refl, ℕ, suc, ◌+◌, ◌-◌, Bool, true, false, ◌&&◌, ◌||◌, cond, nat_eq, nat_lt, List, [], ◌∷◌, length, take, drop, arith, Option, Some, None, not}
use Rattle.std.specs.List.{position_or_len}
use Rattle.qasm_lex.specs.declared.token.Token.{Token}
use Rattle.qasm_lex.specs.declared.token.TokenKind.{TokenKind}
use Rattle.qasm_lex.specs.declared.token.TokenKind.TheVariants.{Arrow, Mark}
use Rattle.std.proofs.lemmas.Bool.Decides.{nat_tests}
use Rattle.qasm_lex.specs.Lexemes.{Lexeme, lexeme_of, lexemes_of, of_kind}
use Rattle.qasm_forms.specs.declared.lexemes.Stop.{Stop}
use Rattle.qasm_forms.specs.declared.lexemes.Stop.TheVariants.{Semicolon, Comma, To, Open, Close}
use Rattle.std.specs.Option.{option_map_or}
use Rattle.qasm_forms.specs.Statements.{is_mark, End}
use Rattle.qasm_forms.specs.Private.Fronts.{ends_angle, deeper, plus, angle_place, angle_at, led_by, end_place}
use Rattle.qasm_forms.specs.Cutting.{is_stop, before_stop, has_stop, after_stop, end_by, opens, led_end, end_at}

-- how many tokens stand before the first separator
abbrev pub stop_place : Stop → List Token → ℕ
stop_place stop tokens = position_or_len (λ t. is_stop stop (of_kind t.kind [])) tokens

-- marks and separators are told by their kinds
mark_by_kind : (b : ℕ) (kind : TokenKind) (bytes : List ℕ) → is_mark b (of_kind kind []) ≡ is_mark b (of_kind kind bytes)
mark_by_kind b (Mark m) bytes = refl
mark_by_kind b _ bytes = refl

stop_by_kind : (stop : Stop) (kind : TokenKind) (bytes : List ℕ) → is_stop stop (of_kind kind []) ≡ is_stop stop (of_kind kind bytes)
stop_by_kind Semicolon kind bytes = mark_by_kind 59 kind bytes
stop_by_kind Comma kind bytes = mark_by_kind 44 kind bytes
stop_by_kind Open kind bytes = mark_by_kind 123 kind bytes
stop_by_kind Close kind bytes = mark_by_kind 41 kind bytes
stop_by_kind To Arrow bytes = refl
stop_by_kind To _ bytes = refl

less_zero : (n : ℕ) → nat_lt 0 (suc n) ≡ true
less_zero n = grind (arith, nat_tests)

less_step : (a b : ℕ) → nat_lt (suc a) (suc b) ≡ nat_lt a b
less_step a b = grind (arith, nat_tests)

-- cutting lexemes is cutting tokens
pub record CutAt (stop : Stop) (text : List ℕ) (tokens : List Token) : Type 0 where
  pub front : before_stop stop (lexemes_of text tokens) ≡ lexemes_of text (take (stop_place stop tokens) tokens)
  pub found : has_stop stop (lexemes_of text tokens) ≡ nat_lt (stop_place stop tokens) (length tokens)
  pub rest : after_stop stop (lexemes_of text tokens) ≡ lexemes_of text (drop (suc (stop_place stop tokens)) tokens)

cut_step : (stop : Stop) (text : List ℕ) (t : Token) (tokens : List Token) → CutAt stop text tokens → (x : Bool) → is_stop stop (of_kind t.kind []) ≡ x → is_stop stop (lexeme_of text t) ≡ x → CutAt stop text (t ∷ tokens)
cut_step stop text t tokens c true e f =
    let place : stop_place stop (t ∷ tokens) ≡ 0 = ap (λ x. cond (not x) (1 + stop_place stop tokens) 0) e in
    record {
      front = ap (λ x. cond x [] (lexeme_of text t ∷ before_stop stop (lexemes_of text tokens))) f ∙ sym (ap (λ n. lexemes_of text (take n (t ∷ tokens))) place);
      found = ap (λ x. cond x true (has_stop stop (lexemes_of text tokens))) f ∙ sym (ap (λ n. nat_lt n (suc (length tokens))) place ∙ less_zero (length tokens));
      rest = ap (λ x. cond x (lexemes_of text tokens) (after_stop stop (lexemes_of text tokens))) f ∙ sym (ap (λ n. lexemes_of text (drop (suc n) (t ∷ tokens))) place);
    }
cut_step stop text t tokens c false e f =
    let place : stop_place stop (t ∷ tokens) ≡ suc (stop_place stop tokens) = ap (λ x. cond (not x) (1 + stop_place stop tokens) 0) e ∙ omega arith in
    record {
      front = ap (λ x. cond x [] (lexeme_of text t ∷ before_stop stop (lexemes_of text tokens))) f ∙ ap (λ x. lexeme_of text t ∷ x) c.front ∙ sym (ap (λ n. lexemes_of text (take n (t ∷ tokens))) place);
      found = ap (λ x. cond x true (has_stop stop (lexemes_of text tokens))) f ∙ c.found ∙ sym (ap (λ n. nat_lt n (suc (length tokens))) place ∙ less_step (stop_place stop tokens) (length tokens));
      rest = ap (λ x. cond x (lexemes_of text tokens) (after_stop stop (lexemes_of text tokens))) f ∙ c.rest ∙ sym (ap (λ n. lexemes_of text (drop (suc n) (t ∷ tokens))) place);
    }

pub cut_at : (stop : Stop) (text : List ℕ) (tokens : List Token) → CutAt stop text tokens
cut_at stop text [] = record { front = refl; found = refl; rest = refl }
cut_at stop text (t ∷ tokens) = cut_step stop text t tokens (cut_at stop text tokens) (is_stop stop (of_kind t.kind [])) refl (sym (stop_by_kind stop t.kind _))

deeper_by_kind : (depth : ℕ) (kind : TokenKind) (bytes : List ℕ) → deeper depth (of_kind kind []) ≡ deeper depth (of_kind kind bytes)
deeper_by_kind depth kind bytes =
    ap (λ x. cond x (depth + 1) (cond (is_mark 41 (of_kind kind [])) (depth - 1) depth)) (mark_by_kind 40 kind bytes)
    ∙ ap (λ x. cond (is_mark 40 (of_kind kind bytes)) (depth + 1) (cond x (depth - 1) depth)) (mark_by_kind 41 kind bytes)

ends_by_kind : (depth : ℕ) (kind : TokenKind) (bytes : List ℕ) → ends_angle depth (of_kind kind []) ≡ ends_angle depth (of_kind kind bytes)
ends_by_kind depth kind bytes =
    ap (λ x. nat_eq depth 0 && (x || is_mark 44 (of_kind kind []))) (mark_by_kind 41 kind bytes)
    ∙ ap (λ x. nat_eq depth 0 && (is_mark 41 (of_kind kind bytes) || x)) (mark_by_kind 44 kind bytes)

-- what stands before the end of an angle and after it, by its place
abbrev pub angle_parts : List ℕ → List Token → Option (ℕ × Bool) → Option (List Lexeme × Bool × List Lexeme)
angle_parts text tokens None = None
angle_parts text tokens (Some p) = Some (lexemes_of text (take p.0 tokens), p.1, lexemes_of text (drop (suc p.0) tokens))

parts_later : (text : List ℕ) (t : Token) (tokens : List Token) (x : Option (ℕ × Bool)) → angle_parts text (t ∷ tokens) (plus 1 x) ≡ led_by (lexeme_of text t) (angle_parts text tokens x)
parts_later text t tokens None = refl
parts_later text t tokens (Some p) =
    let e : 1 + p.0 ≡ suc p.0 = omega arith in
    ap (λ n. Some (lexemes_of text (take n (t ∷ tokens)), p.1, lexemes_of text (drop (suc n) (t ∷ tokens)))) e

pub angle_in_tokens : (depth : ℕ) (text : List ℕ) (tokens : List Token) → angle_at depth (lexemes_of text tokens) ≡ angle_parts text tokens (angle_place depth tokens)
angle_in_tokens depth text [] = refl
angle_in_tokens depth text (t ∷ tokens) =
    by (ends_angle depth (of_kind t.kind [])) refl (ap (λ d. angle_at d (lexemes_of text tokens)) (sym (deeper_by_kind depth t.kind _)) ∙ angle_in_tokens (deeper depth (of_kind t.kind [])) text tokens)
  where
    by : (x : Bool) → ends_angle depth (of_kind t.kind []) ≡ x → angle_at (deeper depth (lexeme_of text t)) (lexemes_of text tokens) ≡ angle_parts text tokens (angle_place (deeper depth (of_kind t.kind [])) tokens)
        → angle_at depth (lexemes_of text (t ∷ tokens)) ≡ angle_parts text (t ∷ tokens) (angle_place depth (t ∷ tokens))
    by true e more =
        ap (λ x. cond x (Some ([], is_mark 41 (lexeme_of text t), lexemes_of text tokens)) (led_by (lexeme_of text t) (angle_at (deeper depth (lexeme_of text t)) (lexemes_of text tokens)))) (sym (ends_by_kind depth t.kind _) ∙ e)
        ∙ ap (λ b. Some ([], b, lexemes_of text tokens)) (sym (mark_by_kind 41 t.kind _))
        ∙ sym (ap (λ x. angle_parts text (t ∷ tokens) (cond x (Some (0, is_mark 41 (of_kind t.kind []))) (plus 1 (angle_place (deeper depth (of_kind t.kind [])) tokens)))) e)
    by false e more =
        ap (λ x. cond x (Some ([], is_mark 41 (lexeme_of text t), lexemes_of text tokens)) (led_by (lexeme_of text t) (angle_at (deeper depth (lexeme_of text t)) (lexemes_of text tokens)))) (sym (ends_by_kind depth t.kind _) ∙ e)
        ∙ ap (led_by (lexeme_of text t)) more ∙ sym (parts_later text t tokens (angle_place (deeper depth (of_kind t.kind [])) tokens))
        ∙ sym (ap (λ x. angle_parts text (t ∷ tokens) (cond x (Some (0, is_mark 41 (of_kind t.kind []))) (plus 1 (angle_place (deeper depth (of_kind t.kind [])) tokens)))) e)

end_by_kind : (opened : Bool) (kind : TokenKind) (bytes : List ℕ) → end_by opened (of_kind kind []) ≡ end_by opened (of_kind kind bytes)
end_by_kind opened (Mark m) bytes = refl
end_by_kind opened _ bytes = refl

opens_by_kind : (opened : Bool) (kind : TokenKind) (bytes : List ℕ) → opens opened (of_kind kind []) ≡ opens opened (of_kind kind bytes)
opens_by_kind opened (Mark m) bytes = refl
opens_by_kind opened _ bytes = refl

-- what stands before the end of a statement and after it, by its place
abbrev pub end_parts : List ℕ → List Token → Option (ℕ × End) → Option (List Lexeme × End × List Lexeme)
end_parts text tokens None = None
end_parts text tokens (Some p) = Some (lexemes_of text (take p.0 tokens), p.1, lexemes_of text (drop (suc p.0) tokens))

end_later : (text : List ℕ) (t : Token) (tokens : List Token) (x : Option (ℕ × End)) → end_parts text (t ∷ tokens) (plus 1 x) ≡ led_end (lexeme_of text t) (end_parts text tokens x)
end_later text t tokens None = refl
end_later text t tokens (Some p) =
    let e : 1 + p.0 ≡ suc p.0 = omega arith in
    ap (λ n. Some (lexemes_of text (take n (t ∷ tokens)), p.1, lexemes_of text (drop (suc n) (t ∷ tokens)))) e

end_step : (opened : Bool) (text : List ℕ) (t : Token) (tokens : List Token) (x : Option End) → end_by opened (of_kind t.kind []) ≡ x
    → end_at (opens opened (lexeme_of text t)) (lexemes_of text tokens) ≡ end_parts text tokens (end_place (opens opened (of_kind t.kind [])) tokens)
    → end_at opened (lexemes_of text (t ∷ tokens)) ≡ end_parts text (t ∷ tokens) (end_place opened (t ∷ tokens))
end_step opened text t tokens x e more =
    ap (λ y. option_map_or (λ end. Some ([], end, lexemes_of text tokens)) y (led_end (lexeme_of text t) (end_at (opens opened (lexeme_of text t)) (lexemes_of text tokens)))) (sym (end_by_kind opened t.kind _) ∙ e)
    ∙ by x ∙ sym (ap (λ y. end_parts text (t ∷ tokens) (option_map_or (λ end. Some (0, end)) y (plus 1 (end_place (opens opened (of_kind t.kind [])) tokens)))) e)
  where
    by : (x : Option End) → option_map_or (λ end. Some ([], end, lexemes_of text tokens)) x (led_end (lexeme_of text t) (end_at (opens opened (lexeme_of text t)) (lexemes_of text tokens)))
        ≡ end_parts text (t ∷ tokens) (option_map_or (λ end. Some (0, end)) x (plus 1 (end_place (opens opened (of_kind t.kind [])) tokens)))
    by (Some end) = refl
    by None = ap (led_end (lexeme_of text t)) more ∙ sym (end_later text t tokens (end_place (opens opened (of_kind t.kind [])) tokens))

-- the end of a statement among lexemes is that among tokens
pub end_in_tokens : (opened : Bool) (text : List ℕ) (tokens : List Token) → end_at opened (lexemes_of text tokens) ≡ end_parts text tokens (end_place opened tokens)
end_in_tokens opened text [] = refl
end_in_tokens opened text (t ∷ tokens) =
    end_step opened text t tokens (end_by opened (of_kind t.kind [])) refl
    (ap (λ d. end_at d (lexemes_of text tokens)) (sym (opens_by_kind opened t.kind _)) ∙ end_in_tokens (opens opened (of_kind t.kind [])) text tokens)

pub plus_more : {A : Type 0} (n : ℕ) (x : Option (ℕ × A)) → plus n (plus 1 x) ≡ plus (n + 1) x
plus_more n None = refl
plus_more n (Some p) = let e : n + (1 + p.0) ≡ (n + 1) + p.0 = omega arith in ap (λ m. Some (m, p.1)) e
