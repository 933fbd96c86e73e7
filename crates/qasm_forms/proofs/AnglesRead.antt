-- Angles that were read are written so.
use Rattle.std.proofs.Common.{◌≡◌, ◌∙◌, sym, ap, refl, subst, Bool, true, false, cond, ◌||◌, List, [], ◌∷◌, ◌++◌, arith, Option, Some, None, append_assoc}
use Rattle.std.specs.List.{AllByRecursion, list_any}
use Rattle.std.specs.Option.{option_map_or}
use Rattle.std.proofs.lemmas.Option.{same_Some}
use Rattle.qasm_lex.specs.Lexemes.{Lexeme, mark}
use Rattle.qasm_forms.specs.Statements.{AreAngles, IsAngle, written_angles, listed}
use Rattle.qasm_forms.specs.Private.Fronts.{mark_at}
use Rattle.qasm_forms.specs.Cutting.{is_nothing}
use Rattle.qasm_forms.specs.Private.Parsing.{scan, filled}
use Rattle.qasm_forms.proofs.Found.{mark_found}
use Rattle.qasm_forms.proofs.Nesting.{IsPart, scan_found}

-- a part with nothing open before it is an angle, if it has lexemes
angle_of : (a : List Lexeme) → IsPart 0 a → is_nothing a ≡ false → IsAngle a
angle_of [] p e = absurd cc
angle_of (l ∷ a) p e = record {
  some = omega arith;
  balanced = let q = p.closed in omega arith;
  nested = λ before after h. let q = p.nested before after h in omega arith;
  inside = λ before after h. let q = p.inside before after h in omega arith;
}

angles_of : (all : List (List Lexeme)) → AllByRecursion (IsPart 0) all → list_any is_nothing all ≡ false → AllByRecursion IsAngle all
angles_of [] p e = tt
angles_of (a ∷ all) p e = by (is_nothing a) refl (angles_of all p.1)
  where
    by : (x : Bool) → is_nothing a ≡ x → (list_any is_nothing all ≡ false → AllByRecursion IsAngle all) → AllByRecursion IsAngle (a ∷ all)
    by true h more = absurd (let q : true ≡ false = sym (ap (λ b. b || list_any is_nothing all) h) ∙ e in cc)
    by false h more = (angle_of a p.0 h, more (sym (ap (λ b. b || list_any is_nothing all) h) ∙ e))

-- angles that were read
pub record ReadsAngles (ls : List Lexeme) (p : List (List Lexeme) × List Lexeme) : Type 0 where
  pub spelled : mark 40 ∷ ls ≡ written_angles (Some p.0) ++ p.1
  pub formed : AreAngles (Some p.0)

filled_found : (ls : List Lexeme) (p : List (List Lexeme) × List Lexeme) (x : Option (List (List Lexeme) × List Lexeme)) → scan 0 ls ≡ x → filled x ≡ Some p → ReadsAngles ls p
filled_found ls p None s e = absurd cc
filled_found ls p (Some q) s e = by (list_any is_nothing q.0) refl
  where
    by : (b : Bool) → list_any is_nothing q.0 ≡ b → ReadsAngles ls p
    by true h = absurd (let r : None ≡ Some p = sym (ap (λ b. cond b None (Some q)) h) ∙ e in cc)
    by false h =
        let r : q ≡ p = same_Some q p (sym (ap (λ b. cond b None (Some q)) h) ∙ e) in
        let f = scan_found 0 ls q s in
        let some : list_any is_nothing (f.first ∷ f.more) ≡ false = sym (ap (list_any is_nothing) f.are) ∙ h in
        subst (ReadsAngles ls) r (record {
          spelled = ap (λ r. mark 40 ∷ r) (f.joined ∙ ap (λ r. listed r ++ (mark 41 ∷ q.1)) (sym f.are) ∙ sym (append_assoc (listed q.0) (mark 41 ∷ []) q.1));
          formed = subst (AllByRecursion IsAngle) (sym f.are) (angles_of (f.first ∷ f.more) (f.part, f.rest) some);
        })

pub angles_found : (ls : List Lexeme) (p : List (List Lexeme) × List Lexeme) (x : Option (List Lexeme)) → mark_at 41 ls ≡ x → option_map_or (λ rest. Some ([], rest)) x (filled (scan 0 ls)) ≡ Some p → ReadsAngles ls p
angles_found ls p None m e = filled_found ls p (scan 0 ls) refl e
angles_found ls p (Some rest) m e =
    let r : ([], rest) ≡ p = same_Some ([], rest) p e in
    subst (ReadsAngles ls) r (record { spelled = ap (λ r. mark 40 ∷ r) (mark_found 41 ls rest m); formed = tt })
