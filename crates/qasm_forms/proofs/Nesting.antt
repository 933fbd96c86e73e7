-- Parentheses of angles: the scan of an angle ends where its parentheses balance.
use Rattle.std.proofs.Common.{◌≡◌, ◌∙◌, sym, ap, refl, subst, ◌≤◌, ◌<◌, ℕ, zero, suc, ◌+◌, ◌-◌, Bool, true, false, cond, ◌||◌, ◌&&◌, nat_eq, List, [], ◌∷◌, ◌++◌, length, filter, arith, Option, Some, None}
use Rattle.std.specs.List.{AllByRecursion, onto_first}
use Rattle.std.proofs.lemmas.Bool.{eqb-true, and_parts, false_from_ne_true}
use Rattle.qasm_lex.specs.Lexemes.{Lexeme, mark}
use Rattle.qasm_forms.specs.Statements.{is_mark}
use Rattle.qasm_forms.specs.Statements.{listed, opening, closing}
use Rattle.qasm_forms.specs.Private.Fronts.{ends_angle, deeper}
use Rattle.qasm_forms.specs.Private.Parsing.{lead_angle, next_angle, scan}

-- a part of an angle, where so many parentheses are open before it
pub record IsPart (depth : ℕ) (a : List Lexeme) : Type 0 where
  pub closed : closing a ≡ depth + opening a
  pub nested : (before after : List Lexeme) → a ≡ before ++ after → closing before ≤ depth + opening before
  pub inside : (before after : List Lexeme) → a ≡ before ++ (mark 44 ∷ after) → closing before < depth + opening before

count_skip : (p : Lexeme → Bool) (l : Lexeme) (a : List Lexeme) → p l ≡ false → length (filter p (l ∷ a)) ≡ length (filter p a)
count_skip p l a e = ap (λ x. length (cond x (l ∷ filter p a) (filter p a))) e

pub mark_is : (b : ℕ) (l : Lexeme) → is_mark b l ≡ true → l ≡ mark b
mark_is b (mark c) e = ap mark (eqb-true c b e)
mark_is b _ e = absurd cc

-- how a lexeme changes the depth
record Levels (depth : ℕ) (l : Lexeme) : Type 0 where
  up : ℕ
  down : ℕ
  opens : (a : List Lexeme) → opening (l ∷ a) ≡ up + opening a
  closes : (a : List Lexeme) → closing (l ∷ a) ≡ down + closing a
  level : deeper depth l + down ≡ depth + up

not_zero : (d : ℕ) → nat_eq d 0 ≡ false → 0 < d
not_zero zero e = absurd cc
not_zero (suc d) e = omega arith

levels_open : (depth : ℕ) (l : Lexeme) → l ≡ mark 40 → Levels depth l
levels_open depth l e = subst (Levels depth) (sym e) (record { up = 1; down = 0; opens = λ a. omega arith; closes = λ a. omega arith; level = omega arith })

levels_close : (depth : ℕ) (l : Lexeme) → l ≡ mark 41 → 0 < depth → Levels depth l
levels_close depth l e h = subst (Levels depth) (sym e) (record { up = 0; down = 1; opens = λ a. omega arith; closes = λ a. omega arith; level = omega arith })

levels_other : (depth : ℕ) (l : Lexeme) → is_mark 40 l ≡ false → is_mark 41 l ≡ false → Levels depth l
levels_other depth l e f = record {
  up = 0;
  down = 0;
  opens = λ a. let q = count_skip (is_mark 40) l a e in omega arith;
  closes = λ a. let q = count_skip (is_mark 41) l a f in omega arith;
  level = let q = ap (λ x. cond x (depth + 1) (cond (is_mark 41 l) (depth - 1) depth)) e ∙ ap (λ x. cond x (depth - 1) depth) f in omega arith;
}

left_false : (x y : Bool) → y ≡ true → x && y ≡ false → x ≡ false
left_false true y e h = absurd (let q : true ≡ false = sym e ∙ h in cc)
left_false false y e h = refl

levels : (depth : ℕ) (l : Lexeme) → ends_angle depth l ≡ false → Levels depth l
levels depth l e = by (is_mark 40 l) refl (is_mark 41 l) refl
  where
    by : (x : Bool) → is_mark 40 l ≡ x → (y : Bool) → is_mark 41 l ≡ y → Levels depth l
    by true h y g = levels_open depth l (mark_is 40 l h)
    by false h true g = levels_close depth l (mark_is 41 l g) (not_zero depth (left_false (nat_eq depth 0) _ (ap (λ x. x || is_mark 44 l) g) e))
    by false h false g = levels_other depth l h g

part_none : IsPart 0 []
part_none = record { closed = refl; nested = nested; inside = inside }
  where
    nested : (before after : List Lexeme) → [] ≡ before ++ after → closing before ≤ 0 + opening before
    nested [] after e = omega arith
    nested (b ∷ bs) after e = absurd cc

    inside : (before after : List Lexeme) → [] ≡ before ++ (mark 44 ∷ after) → closing before < 0 + opening before
    inside [] after e = absurd cc
    inside (b ∷ bs) after e = absurd cc

comma_inside : (depth : ℕ) (l : Lexeme) → ends_angle depth l ≡ false → l ≡ mark 44 → 0 < depth
comma_inside depth l e f = not_zero depth (left_false (nat_eq depth 0) true refl (subst (λ l. ends_angle depth l ≡ false) f e))

part_lead : (depth : ℕ) (l : Lexeme) (a : List Lexeme) → ends_angle depth l ≡ false → IsPart (deeper depth l) a → IsPart depth (l ∷ a)
part_lead depth l a e p = record { closed = closed; nested = nested; inside = inside }
  where
    v : Levels depth l
    v = levels depth l e

    closed : closing (l ∷ a) ≡ depth + opening (l ∷ a)
    closed = let c = (v).closes a in let o = (v).opens a in let h = (v).level in let q = p.closed in omega arith

    nested : (before after : List Lexeme) → l ∷ a ≡ before ++ after → closing before ≤ depth + opening before
    nested [] after h = omega arith
    nested (b ∷ bs) after h =
        let lb : l ≡ b = cc in let r : a ≡ bs ++ after = cc in
        let n = p.nested bs after r in
        subst (λ x. closing (x ∷ bs) ≤ depth + opening (x ∷ bs)) lb (let c = (v).closes bs in let o = (v).opens bs in let k = (v).level in omega arith)

    inside : (before after : List Lexeme) → l ∷ a ≡ before ++ (mark 44 ∷ after) → closing before < depth + opening before
    inside [] after h = let lb : l ≡ mark 44 = cc in let d = comma_inside depth l e lb in omega arith
    inside (b ∷ bs) after h =
        let lb : l ≡ b = cc in let r : a ≡ bs ++ (mark 44 ∷ after) = cc in
        let n = p.inside bs after r in
        subst (λ x. closing (x ∷ bs) < depth + opening (x ∷ bs)) lb (let c = (v).closes bs in let o = (v).opens bs in let k = (v).level in omega arith)

-- what a scan has found
pub record Scans (depth : ℕ) (ls : List Lexeme) (p : List (List Lexeme) × List Lexeme) : Type 0 where
  pub first : List Lexeme
  pub more : List (List Lexeme)
  pub are : p.0 ≡ first ∷ more
  pub part : IsPart depth first
  pub rest : AllByRecursion (IsPart 0) more
  pub joined : ls ≡ listed (first ∷ more) ++ (mark 41 ∷ p.1)

scans_end : (l : Lexeme) (ls : List Lexeme) (p : List (List Lexeme) × List Lexeme) → l ≡ mark 41 → Some ([] ∷ [], ls) ≡ Some p → Scans 0 (l ∷ ls) p
scans_end l ls p e h =
    let q : ([] ∷ [], ls) ≡ p = cc in
    subst (Scans 0 (l ∷ ls)) q (record { first = []; more = []; are = refl; part = part_none; rest = tt; joined = ap (λ x. x ∷ ls) e })

scans_comma : (l : Lexeme) (ls : List Lexeme) (p : List (List Lexeme) × List Lexeme) (x : Option (List (List Lexeme) × List Lexeme)) → scan 0 ls ≡ x
    → ((q : List (List Lexeme) × List Lexeme) → scan 0 ls ≡ Some q → Scans 0 ls q) → l ≡ mark 44 → next_angle [] x ≡ Some p → Scans 0 (l ∷ ls) p
scans_comma l ls p None s more e h = absurd cc
scans_comma l ls p (Some q) s more e h =
    let f = more q s in
    let g : ([] ∷ q.0, q.1) ≡ p = cc in
    subst (Scans 0 (l ∷ ls)) g (record {
      first = [];
      more = f.first ∷ f.more;
      are = ap (λ r. [] ∷ r) f.are;
      part = part_none;
      rest = (f.part, f.rest);
      joined = ap (λ x. x ∷ ls) e ∙ ap (λ r. mark 44 ∷ r) f.joined;
    })

pub listed_led : (l : Lexeme) (x : List Lexeme) (xs : List (List Lexeme)) → listed ((l ∷ x) ∷ xs) ≡ l ∷ listed (x ∷ xs)
listed_led l x [] = refl
listed_led l x (y ∷ ys) = refl

scans_lead : (depth : ℕ) (l : Lexeme) (ls : List Lexeme) (p : List (List Lexeme) × List Lexeme) (x : Option (List (List Lexeme) × List Lexeme)) → scan (deeper depth l) ls ≡ x
    → ((q : List (List Lexeme) × List Lexeme) → scan (deeper depth l) ls ≡ Some q → Scans (deeper depth l) ls q) → ends_angle depth l ≡ false → lead_angle l x ≡ Some p → Scans depth (l ∷ ls) p
scans_lead depth l ls p None s more e h = absurd cc
scans_lead depth l ls p (Some q) s more e h =
    let f = more q s in
    let g : (onto_first l q.0, q.1) ≡ p = cc in
    subst (Scans depth (l ∷ ls)) g (record {
      first = l ∷ f.first;
      more = f.more;
      are = ap (onto_first l) f.are;
      part = part_lead depth l f.first e f.part;
      rest = f.rest;
      joined = ap (λ r. l ∷ r) f.joined ∙ ap (λ r. r ++ (mark 41 ∷ q.1)) (sym (listed_led l f.first f.more));
    })

-- the two ends of an angle
end_parts : (depth : ℕ) (l : Lexeme) → ends_angle depth l ≡ true → (depth ≡ 0) × (is_mark 41 l || is_mark 44 l ≡ true)
end_parts depth l e = let p = and_parts (nat_eq depth 0) (is_mark 41 l || is_mark 44 l) e in (eqb-true depth 0 p.0, p.1)

pub scan_found : (depth : ℕ) (ls : List Lexeme) (p : List (List Lexeme) × List Lexeme) → scan depth ls ≡ Some p → Scans depth ls p
scan_found depth [] p e = absurd cc
scan_found depth (l ∷ ls) p e = by (ends_angle depth l) refl (is_mark 41 l) refl (scan_found 0 ls) (scan_found (deeper depth l) ls)
  where
    by : (x : Bool) → ends_angle depth l ≡ x → (y : Bool) → is_mark 41 l ≡ y → ((q : List (List Lexeme) × List Lexeme) → scan 0 ls ≡ Some q → Scans 0 ls q)
        → ((q : List (List Lexeme) × List Lexeme) → scan (deeper depth l) ls ≡ Some q → Scans (deeper depth l) ls q) → Scans depth (l ∷ ls) p
    by true h true g next deep =
        let e' = sym (ap (λ x. cond x (cond (is_mark 41 l) (Some ([] ∷ [], ls)) (next_angle [] (scan 0 ls))) (lead_angle l (scan (deeper depth l) ls))) h ∙ ap (λ y. cond y (Some ([] ∷ [], ls)) (next_angle [] (scan 0 ls))) g) ∙ e in
        subst (λ d. Scans d (l ∷ ls) p) (sym (end_parts depth l h).0) (scans_end l ls p (mark_is 41 l g) e')
    by true h false g next deep =
        let e' = sym (ap (λ x. cond x (cond (is_mark 41 l) (Some ([] ∷ [], ls)) (next_angle [] (scan 0 ls))) (lead_angle l (scan (deeper depth l) ls))) h ∙ ap (λ y. cond y (Some ([] ∷ [], ls)) (next_angle [] (scan 0 ls))) g) ∙ e in
        let comma : is_mark 44 l ≡ true = ap (λ y. y || is_mark 44 l) (sym g) ∙ (end_parts depth l h).1 in
        subst (λ d. Scans d (l ∷ ls) p) (sym (end_parts depth l h).0) (scans_comma l ls p (scan 0 ls) refl next (mark_is 44 l comma) e')
    by false h y g next deep =
        let e' = sym (ap (λ x. cond x (cond (is_mark 41 l) (Some ([] ∷ [], ls)) (next_angle [] (scan 0 ls))) (lead_angle l (scan (deeper depth l) ls))) h) ∙ e in
        scans_lead depth l ls p (scan (deeper depth l) ls) refl deep h e'

-- a part goes on after its first lexeme, which doesn't end it
starts_inside : (depth : ℕ) (l : Lexeme) (a : List Lexeme) → IsPart depth (l ∷ a) → ends_angle depth l ≡ false
starts_inside depth l a p = false_from_ne_true (ends_angle depth l) (λ h. let e = end_parts depth l h in which e.0 (is_mark 41 l) refl e.1)
  where
    close : depth ≡ 0 → l ≡ mark 41 → ⊥
    close d e = let q : closing (l ∷ []) ≤ depth + opening (l ∷ []) = p.nested (l ∷ []) a refl in let r : 1 ≤ depth + 0 = subst (λ l. closing (l ∷ []) ≤ depth + opening (l ∷ [])) e q in omega arith

    comma : depth ≡ 0 → l ≡ mark 44 → ⊥
    comma d e = let q : 0 < depth + 0 = p.inside [] a (ap (λ l. l ∷ a) e) in omega arith

    which : depth ≡ 0 → (x : Bool) → is_mark 41 l ≡ x → x || is_mark 44 l ≡ true → ⊥
    which d true h e = close d (mark_is 41 l h)
    which d false h e = comma d (mark_is 44 l e)

pub part_rest : (depth : ℕ) (l : Lexeme) (a : List Lexeme) → IsPart depth (l ∷ a) → (ends_angle depth l ≡ false) × IsPart (deeper depth l) a
part_rest depth l a p = (
  starts_inside depth l a p,
  record {
    closed = let v = levels depth l (starts_inside depth l a p) in let c = v.closes a in let o = v.opens a in let k = v.level in let q = p.closed in omega arith;
    nested = λ before after h. let v = levels depth l (starts_inside depth l a p) in let c = v.closes before in let o = v.opens before in let k = v.level in
        let q = p.nested (l ∷ before) after (ap (λ r. l ∷ r) h) in omega arith;
    inside = λ before after h. let v = levels depth l (starts_inside depth l a p) in let c = v.closes before in let o = v.opens before in let k = v.level in
        let q = p.inside (l ∷ before) after (ap (λ r. l ∷ r) h) in omega arith;
  },
)
