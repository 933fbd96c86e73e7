-- The number of quarter turns, or of eighths of a turn, that a fraction is, as a function.
use Rattle.std.proofs.Common.{◌≡◌, ◌∙◌, sym, ap, refl, subst, ◌<◌, ℕ, Bool, true, false, cond, nat_eq, Option, Some, None, IfSome, arith, ℤ, pos, negsuc, ◌≤ℤ◌, ◌+ℤ◌, ◌*ℤ◌, int_div, unsigned_abs}
use Rattle.std.specs.Prelude.{int_rem}
use Rattle.std.specs.Int.{int_rem_euclid}
use Rattle.std.proofs.lemmas.Bool.{eqb-true}
use Rattle.std.proofs.lemmas.Option.{same_Some}
use Rattle.std.proofs.lemmas.Int.{ints, quot-rem}
use Rattle.qasm_lex.specs.Fractions.{Ratio}
use Rattle.qasm_lex.specs.Quarters.{IsQuarters, IsEighths}
use Rattle.qasm_lex.proofs.QuarterLemmas.{quotient_of, modulo_eight, modulo_eight_natural}
use Rattle.qasm_gates.specs.Private.Counts.{whole_turns}

abs_none : (z : ℤ) → unsigned_abs z ≡ 0 → z ≡ pos 0
abs_none (pos n) e = ap pos e
abs_none (negsuc n) e = absurd (omega arith)

abs_zero : (z : ℤ) → nat_eq (unsigned_abs z) 0 ≡ true → z ≡ pos 0
abs_zero z e = abs_none z (eqb-true (unsigned_abs z) 0 e)

below_eight : (z : ℤ) → unsigned_abs (int_rem_euclid z (pos 8)) < 8
below_eight (pos a) = omega arith
below_eight (negsuc a) = omega arith

divided : (q r x : ℤ) → q +ℤ r ≡ x → r ≡ pos 0 → x ≡ q
divided q r x e h = omega (arith, ints)

-- k times the fraction is m, but for a multiple of 8
record Is (k : ℕ) (f : Ratio) (m : ℕ) : Type 0 where
  below : m < 8
  times : ℤ
  same : f.num *ℤ pos k ≡ (pos m +ℤ (times *ℤ pos 8)) *ℤ f.den

turns_fit : (k : ℕ) (f : Ratio) (q : ℤ) → f.num *ℤ pos k ≡ q *ℤ f.den → Is k f (unsigned_abs (int_rem_euclid q (pos 8)))
turns_fit k f q e =
    let m = modulo_eight q in
    record {
      below = below_eight q;
      times = m.0;
      same = e ∙ ap (λ z. z *ℤ f.den) (m.1 ∙ ap (λ z. z +ℤ (m.0 *ℤ pos 8)) (sym (modulo_eight_natural q)));
    }

-- an answer that is such a number, and the only one
turns_are : (k : ℕ) (f : Ratio) (r : Option ℕ) → pos 1 ≤ℤ f.den → ((m : ℕ) → Is k f m → r ≡ Some m) → IfSome r (Is k f) → r ≡ whole_turns k f
unfolding whole_turns
turns_are k f r p only found = by (nat_eq (unsigned_abs (int_rem (f.num *ℤ pos k) f.den)) 0) refl r only found
  where
    by : (x : Bool) → nat_eq (unsigned_abs (int_rem (f.num *ℤ pos k) f.den)) 0 ≡ x → (r : Option ℕ) → ((m : ℕ) → Is k f m → r ≡ Some m) → IfSome r (Is k f)
        → r ≡ cond (nat_eq (unsigned_abs (int_rem (f.num *ℤ pos k) f.den)) 0) (Some (unsigned_abs (int_rem_euclid (int_div (f.num *ℤ pos k) f.den) (pos 8)))) None
    by true e r only found =
        rw e (only _ (turns_fit k f (int_div (f.num *ℤ pos k) f.den) (divided _ _ _ (quot-rem (f.num *ℤ pos k) f.den) (abs_zero _ e))))
    by false e None only found = rw e refl
    by false e (Some m) only found =
        let q = quotient_of (f.num *ℤ pos k) (pos m +ℤ (found.times *ℤ pos 8)) f.den p found.same in
        absurd (let z : true ≡ false = sym (ap (λ z. nat_eq (unsigned_abs z) 0) q.1) ∙ e in cc)

quarters_some : (f : Ratio) (r : Option ℕ) → IfSome r (IsQuarters f) → IfSome r (Is 2 f)
quarters_some f None h = tt
quarters_some f (Some m) h = record { below = h.below; times = h.times; same = h.same }

eighths_some : (f : Ratio) (r : Option ℕ) → IfSome r (IsEighths f) → IfSome r (Is 4 f)
eighths_some f None h = tt
eighths_some f (Some m) h = record { below = h.below; times = h.times; same = h.same }

pub quarters_are : (f : Ratio) (r : Option ℕ) → pos 1 ≤ℤ f.den → ((m : ℕ) → IsQuarters f m → r ≡ Some m) → IfSome r (IsQuarters f) → r ≡ whole_turns 2 f
quarters_are f r p only found = turns_are 2 f r p (λ m h. only m (record { below = h.below; times = h.times; same = h.same })) (quarters_some f r found)

pub eighths_are : (f : Ratio) (r : Option ℕ) → pos 1 ≤ℤ f.den → ((m : ℕ) → IsEighths f m → r ≡ Some m) → IfSome r (IsEighths f) → r ≡ whole_turns 4 f
eighths_are f r p only found = turns_are 4 f r p (λ m h. only m (record { below = h.below; times = h.times; same = h.same })) (eighths_some f r found)

pub turns_below : (k : ℕ) (f : Ratio) (m : ℕ) → whole_turns k f ≡ Some m → m < 8
unfolding whole_turns
turns_below k f m e = by (nat_eq (unsigned_abs (int_rem (f.num *ℤ pos k) f.den)) 0) e
  where
    by : (x : Bool) → cond x (Some (unsigned_abs (int_rem_euclid (int_div (f.num *ℤ pos k) f.den) (pos 8)))) None ≡ Some m → m < 8
    by true e = let s = same_Some (unsigned_abs (int_rem_euclid (int_div (f.num *ℤ pos k) f.den) (pos 8))) m e in let b = below_eight (int_div (f.num *ℤ pos k) f.den) in omega arith
    by false e = absurd cc

same_eighth : (m r : ℕ) (t k : ℤ) → m < 8 → r < 8 → pos m +ℤ (t *ℤ pos 8) ≡ pos r +ℤ (k *ℤ pos 8) → r ≡ m
same_eighth m r t k a b e = omega (arith, ints)

-- the function tells such a number
turns_found : (k : ℕ) (f : Ratio) (m : ℕ) → whole_turns k f ≡ Some m → Is k f m
unfolding whole_turns
turns_found k f m e = by (nat_eq (unsigned_abs (int_rem (f.num *ℤ pos k) f.den)) 0) refl e
  where
    by : (x : Bool) → nat_eq (unsigned_abs (int_rem (f.num *ℤ pos k) f.den)) 0 ≡ x → cond x (Some (unsigned_abs (int_rem_euclid (int_div (f.num *ℤ pos k) f.den) (pos 8)))) None ≡ Some m → Is k f m
    by true h e =
        subst (Is k f) (same_Some (unsigned_abs (int_rem_euclid (int_div (f.num *ℤ pos k) f.den) (pos 8))) m e)
        (turns_fit k f (int_div (f.num *ℤ pos k) f.den) (divided _ _ _ (quot-rem (f.num *ℤ pos k) f.den) (abs_zero _ h)))
    by false h e = absurd cc

-- and each such number
turns_only : (k : ℕ) (f : Ratio) (m : ℕ) → pos 1 ≤ℤ f.den → Is k f m → whole_turns k f ≡ Some m
unfolding whole_turns
turns_only k f m p i =
    let turned = pos m +ℤ (i.times *ℤ pos 8) in
    let q = quotient_of (f.num *ℤ pos k) turned f.den p i.same in
    let left = modulo_eight turned in
    let whole : turned ≡ pos (unsigned_abs (int_rem_euclid turned (pos 8))) +ℤ (left.0 *ℤ pos 8) = left.1 ∙ ap (λ z. z +ℤ (left.0 *ℤ pos 8)) (sym (modulo_eight_natural turned)) in
    ap (λ z. cond (nat_eq (unsigned_abs z) 0) (Some (unsigned_abs (int_rem_euclid (int_div (f.num *ℤ pos k) f.den) (pos 8)))) None) q.1
    ∙ ap (λ z. Some (unsigned_abs (int_rem_euclid z (pos 8)))) q.0
    ∙ ap Some (same_eighth m (unsigned_abs (int_rem_euclid turned (pos 8))) i.times left.0 i.below (below_eight turned) whole)

pub quarters_found : (f : Ratio) (m : ℕ) → whole_turns 2 f ≡ Some m → IsQuarters f m
quarters_found f m e = let i = turns_found 2 f m e in record { below = i.below; times = i.times; same = i.same }

pub eighths_found : (f : Ratio) (m : ℕ) → whole_turns 4 f ≡ Some m → IsEighths f m
eighths_found f m e = let i = turns_found 4 f m e in record { below = i.below; times = i.times; same = i.same }

pub quarters_only : (f : Ratio) (m : ℕ) → pos 1 ≤ℤ f.den → IsQuarters f m → whole_turns 2 f ≡ Some m
quarters_only f m p i = turns_only 2 f m p (record { below = i.below; times = i.times; same = i.same })

pub eighths_only : (f : Ratio) (m : ℕ) → pos 1 ≤ℤ f.den → IsEighths f m → whole_turns 4 f ≡ Some m
eighths_only f m p i = turns_only 4 f m p (record { below = i.below; times = i.times; same = i.same })
