-- What is read is written so.
use Rattle.std.proofs.Common.{◌≡◌, ◌∙◌, sym, ap, refl, subst, ◌<◌, ℕ, Bool, true, false, cond, nat_eq, List, [], ◌∷◌, length, arith, Option, Some, None}
use Rattle.std.specs.List.{AllByRecursion, onto_first}
use Rattle.qasm_forms.specs.declared.lexemes.Stop.TheVariants.{Comma}
use Rattle.qasm_lex.specs.Lexemes.{Lexeme, word, whole, mark}
use Rattle.qasm_forms.specs.Statements.{Argument, IsArgument, AreArguments, written_argument, written_index, written_each, listed, is_name}
use Rattle.qasm_forms.specs.Private.Fronts.{and_then, name_at, digits_at, mark_at, at_end, index_at}
use Rattle.qasm_forms.specs.Cutting.{is_stop, before_stop, has_stop, after_stop}
use Rattle.qasm_forms.specs.Private.Parsing.{indexed, argument_at, gather, arguments_at, declaration_at}
use Rattle.qasm_forms.proofs.Listed.{split, split_cut}
use Rattle.qasm_forms.proofs.Nesting.{mark_is, listed_led}
use Rattle.std.proofs.lemmas.Bool.{eqb-true}
use Rattle.std.proofs.lemmas.Option.{cond_some, same_Some}

-- a step that was taken
pub and_then_some : {A B : Type 0} (o : Option A) (f : A → Option B) (b : B) → and_then o f ≡ Some b → (a : A) × (o ≡ Some a) × (f a ≡ Some b)
and_then_some None f b e = absurd cc
and_then_some (Some a) f b e = (a, refl, e)

pub name_found : (ls : List Lexeme) (p : List ℕ × List Lexeme) → name_at ls ≡ Some p → (ls ≡ word p.0 ∷ p.1) × (is_name p.0 ≡ true)
name_found (word b ∷ ls) p e =
    let c = cond_some (is_name b) (b, ls) p e in
    (ap (λ (q : List ℕ × List Lexeme). word q.0 ∷ q.1) c.1, ap is_name (ap (λ (q : List ℕ × List Lexeme). q.0) (sym c.1)) ∙ c.0)
name_found _ p e = absurd cc

pub digits_found : (ls : List Lexeme) (p : List ℕ × List Lexeme) → digits_at ls ≡ Some p → ls ≡ whole p.0 ∷ p.1
digits_found (whole b ∷ ls) p e = ap (λ (q : List ℕ × List Lexeme). whole q.0 ∷ q.1) (same_Some (b, ls) p e)
digits_found _ p e = absurd cc

pub mark_found : (b : ℕ) (ls r : List Lexeme) → mark_at b ls ≡ Some r → ls ≡ mark b ∷ r
mark_found b (mark c ∷ ls) r e = let p = cond_some (nat_eq c b) ls r e in let q : c ≡ b = eqb-true c b p.0 in cc
mark_found b _ r e = absurd cc

pub end_found : {A : Type 0} (x y : A) (ls : List Lexeme) → at_end x ls ≡ Some y → (ls ≡ []) × (x ≡ y)
end_found x y [] e = (refl, cc)
end_found x y (l ∷ ls) e = absurd cc

pub index_found : (ls : List Lexeme) (d : List ℕ) → index_at ls ≡ Some d → ls ≡ mark 91 ∷ whole d ∷ mark 93 ∷ []
index_found ls d e =
    let s = and_then_some (mark_at 91 ls) (λ r. and_then (digits_at r) (λ d. and_then (mark_at 93 d.1) (at_end d.0))) d e in
    let t = and_then_some (digits_at s.0) (λ d. and_then (mark_at 93 d.1) (at_end d.0)) d s.2 in
    let u = and_then_some (mark_at 93 t.0.1) (at_end t.0.0) d t.2 in
    let v = end_found t.0.0 d u.0 u.2 in
    mark_found 91 ls s.0 s.1 ∙ ap (λ r. mark 91 ∷ r) (digits_found s.0 t.0 t.1 ∙ ap (λ r. whole t.0.0 ∷ r) (mark_found 93 t.0.1 u.0 u.1 ∙ ap (λ r. mark 93 ∷ r) v.0))
    ∙ ap (λ x. mark 91 ∷ whole x ∷ mark 93 ∷ []) v.1

pub declaration_found : (ls : List Lexeme) (p : List ℕ × List ℕ) → declaration_at ls ≡ Some p → (ls ≡ word p.0 ∷ mark 91 ∷ whole p.1 ∷ mark 93 ∷ []) × (is_name p.0 ≡ true)
declaration_found ls p e =
    let s = and_then_some (name_at ls) (λ n. and_then (index_at n.1) (λ d. Some (n.0, d))) p e in
    let t = and_then_some (index_at s.0.1) (λ d. Some (s.0.0, d)) p s.2 in
    let n = name_found ls s.0 s.1 in
    let q : (s.0.0, t.0) ≡ p = same_Some (s.0.0, t.0) p t.2 in (
      n.0 ∙ ap (λ r. word s.0.0 ∷ r) (index_found s.0.1 t.0 t.1) ∙ ap (λ (r : List ℕ × List ℕ). word r.0 ∷ mark 91 ∷ whole r.1 ∷ mark 93 ∷ []) q,
      ap is_name (ap (λ (r : List ℕ × List ℕ). r.0) (sym q)) ∙ n.1,
    )

indexed_found : (name : List ℕ) (ls : List Lexeme) (a : Argument) → indexed name ls ≡ Some a → (a.name ≡ name) × (ls ≡ written_index a.index)
indexed_found name [] a e = let q : record { name = name; index = None } ≡ a = same_Some _ a e in (sym (ap (λ (r : Argument). r.name) q), ap (λ (r : Argument). written_index r.index) q)
indexed_found name (l ∷ ls) a e =
    let s = and_then_some (index_at (l ∷ ls)) (λ d. Some (record { name = name; index = Some d })) a e in
    let q : record { name = name; index = Some s.0 } ≡ a = same_Some _ a s.2 in
    (sym (ap (λ (r : Argument). r.name) q), index_found (l ∷ ls) s.0 s.1 ∙ ap (λ (r : Argument). written_index r.index) q)

pub argument_found : (ls : List Lexeme) (a : Argument) → argument_at ls ≡ Some a → (ls ≡ written_argument a) × IsArgument a
argument_found ls a e =
    let s = and_then_some (name_at ls) (λ n. indexed n.0 n.1) a e in
    let n = name_found ls s.0 s.1 in
    let i = indexed_found s.0.0 s.0.1 a s.2 in
    (n.0 ∙ ap (λ x. word x ∷ s.0.1) (sym i.0) ∙ ap (λ r. word a.name ∷ r) i.1, ap is_name i.0 ∙ n.1)

gather_found : (ps : List (List Lexeme)) (all : List Argument) → gather ps ≡ Some all → (ps ≡ written_each all) × AllByRecursion IsArgument all
gather_found [] [] e = (refl, tt)
gather_found [] (a ∷ all) e = absurd cc
gather_found (p ∷ ps) all e =
    let s = and_then_some (argument_at p) (λ a. and_then (gather ps) (λ more. Some (a ∷ more))) all e in
    let t = and_then_some (gather ps) (λ more. Some (s.0 ∷ more)) all s.2 in
    let a = argument_found p s.0 s.1 in
    let m = gather_found ps t.0 t.1 in
    let q : s.0 ∷ t.0 ≡ all = same_Some _ all t.2 in
    subst (λ (all : List Argument). (p ∷ ps ≡ written_each all) × AllByRecursion IsArgument all) q
    (ap (λ x. x ∷ ps) a.0 ∙ ap (λ r. written_argument s.0 ∷ r) m.0, (a.1, m.1))

-- some part, and others
record Begun (ps : List (List Lexeme)) : Type 0 where
  first : List Lexeme
  more : List (List Lexeme)
  are : ps ≡ first ∷ more

split_begun : (ls : List Lexeme) → Begun (split ls)
split_begun ls = record { first = before_stop Comma ls; more = cond (has_stop Comma ls) (split (after_stop Comma ls)) []; are = split_cut ls }

-- the parts with commas between them
pub split_joined : (ls : List Lexeme) → listed (split ls) ≡ ls
split_joined [] = refl
split_joined (l ∷ ls) = by (is_stop Comma l) refl (split_begun ls) (split_joined ls)
  where
    by : (x : Bool) → is_stop Comma l ≡ x → Begun (split ls) → listed (split ls) ≡ ls → listed (split (l ∷ ls)) ≡ l ∷ ls
    by true e b more =
        ap (λ x. listed (cond x ([] ∷ split ls) (onto_first l (split ls)))) e ∙ ap (λ r. listed ([] ∷ r)) b.are
        ∙ ap (λ r. mark 44 ∷ r) (sym (ap listed b.are) ∙ more) ∙ ap (λ x. x ∷ ls) (sym (mark_is 44 l e))
    by false e b more =
        ap (λ x. listed (cond x ([] ∷ split ls) (onto_first l (split ls)))) e ∙ ap (λ r. listed (onto_first l r)) b.are
        ∙ listed_led l b.first b.more ∙ ap (λ r. l ∷ r) (sym (ap listed b.are) ∙ more)

each_some : (all : List Argument) (x : List Lexeme) (xs : List (List Lexeme)) → x ∷ xs ≡ written_each all → 0 < length all
each_some [] x xs e = absurd cc
each_some (a ∷ all) x xs e = omega arith

pub arguments_found : (ls : List Lexeme) (all : List Argument) → arguments_at ls ≡ Some all → (ls ≡ listed (written_each all)) × AreArguments all
arguments_found ls all e =
    let g = gather_found (split ls) all e in
    let b = split_begun ls in
    (sym (split_joined ls) ∙ ap listed g.0, record { some = each_some all b.first b.more (sym b.are ∙ g.0); each = g.1 })
