-- Reading a statement is exact both ways.
use Rattle.std.proofs.Common.{◌≡◌, ◌∙◌, sym, ap, refl, ℕ, Bool, true, false, List, [], ◌∷◌, ◌++◌, Option, Some, None, IfSome}
use Rattle.std.proofs.lemmas.Option.{same_Some}
use Rattle.qasm_lex.specs.Lexemes.{Lexeme, word}
use Rattle.qasm_forms.specs.Statements.{Statement, first_word, written_rest, End, semicolon, brace, end_mark, end_of, is_mark, is_left_out, ended, written, IsStatement}
use Rattle.qasm_forms.specs.declared.statement.Form.{Form}
use Rattle.qasm_forms.specs.Cutting.{begins_left}
use Rattle.qasm_forms.specs.Private.Parsing.{statement_at}
use Rattle.qasm_forms.specs.Shown.{shown, shown_if}
use Rattle.qasm_forms.proofs.Forms.{statement_found}
use Rattle.qasm_forms.proofs.WrittenStatements.{statement_written}

cons_same : {A : Type 0} (x y : A) (xs ys : List A) → x ∷ xs ≡ y ∷ ys → (x ≡ y) × (xs ≡ ys)
cons_same x y xs ys e = (cc e, cc e)

-- lists with one element more behind them
snoc_same : {A : Type 0} (xs ys : List A) (a b : A) → xs ++ a ∷ [] ≡ ys ++ b ∷ [] → (xs ≡ ys) × (a ≡ b)
snoc_same [] [] a b e = (refl, (cons_same a b [] [] e).0)
snoc_same [] (y ∷ []) a b e = absurd (let q : [] ≡ b ∷ [] = (cons_same a y [] (b ∷ []) e).1 in cc)
snoc_same [] (y ∷ z ∷ ys) a b e = absurd (let q : [] ≡ z ∷ (ys ++ b ∷ []) = (cons_same a y [] (z ∷ (ys ++ b ∷ [])) e).1 in cc)
snoc_same (x ∷ []) [] a b e = absurd (let q : a ∷ [] ≡ [] = (cons_same x b (a ∷ []) [] e).1 in cc)
snoc_same (x ∷ z ∷ xs) [] a b e = absurd (let q : z ∷ (xs ++ a ∷ []) ≡ [] = (cons_same x b (z ∷ (xs ++ a ∷ [])) [] e).1 in cc)
snoc_same (x ∷ xs) (y ∷ ys) a b e =
    let p = cons_same x y (xs ++ a ∷ []) (ys ++ b ∷ []) e in
    let q = snoc_same xs ys a b p.1 in
    (ap (λ l. l ∷ xs) p.0 ∙ ap (λ l. y ∷ l) q.0, q.1)

end_same : (a b : End) → end_mark a ≡ end_mark b → a ≡ b
end_same semicolon semicolon e = refl
end_same semicolon brace e = absurd (let q : true ≡ false = ap (is_mark 59) e in cc)
end_same brace semicolon e = absurd (let q : true ≡ false = ap (is_mark 125) e in cc)
end_same brace brace e = refl

-- what stands before the end of a statement, and its end
pub end_off : (ls : List Lexeme) (end : End) (s : Statement) → ended ls end ≡ written s → (ls ≡ word (first_word s) ∷ written_rest s) × (end ≡ end_of s)
end_off ls end s e =
    let p = snoc_same ls (word (first_word s) ∷ written_rest s) (end_mark end) (end_mark (end_of s)) e in
    (p.0, end_same end (end_of s) p.1)

module _ (leaves : List ℕ → Bool) where
  -- a statement is read as it is written
  pub read_as : (ls : List Lexeme) (end : End) (s : Statement) → IsStatement leaves s → ended ls end ≡ written s → statement_at (begins_left leaves ls) end ls ≡ Some s
  read_as ls end s i e =
      let w = end_off ls end s e in
      ap (λ x. statement_at (begins_left leaves x) end x) w.0 ∙ ap (λ b. statement_at b end (word (first_word s) ∷ written_rest s)) i.tried
      ∙ ap (λ x. statement_at (is_left_out s) x (word (first_word s) ∷ written_rest s)) w.1 ∙ statement_written s i.formed

  -- and what is read is a statement that is written so
  pub found_exact : (left : Bool) (end : End) (ls : List Lexeme) (x : Option Form) → shown_if x ≡ statement_at left end ls → left ≡ begins_left leaves ls
      → IfSome x (λ form. IsStatement leaves (shown form) × (ended ls end ≡ written (shown form)))
  found_exact left end ls None e f = tt
  found_exact left end ls (Some form) e f =
      let r = statement_found left end ls (shown form) (sym e) in (
        record { formed = r.formed; tried = sym (ap (begins_left leaves) r.spelled) ∙ sym f ∙ r.tried },
        ap (λ x. ended x end) r.spelled ∙ ap (ended (word (first_word (shown form)) ∷ written_rest (shown form))) (sym r.ends),
      )

  -- no two statements are written alike
  pub statements_same : (s t : Statement) → IsStatement leaves s → IsStatement leaves t → written s ≡ written t → s ≡ t
  statements_same s t f g e =
      same_Some s t (sym (read_as (word (first_word s) ∷ written_rest s) (end_of s) s f refl) ∙ read_as (word (first_word s) ∷ written_rest s) (end_of s) t g e)
