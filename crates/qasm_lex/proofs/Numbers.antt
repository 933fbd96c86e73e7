-- Numbers: what the scan finds is spelled so, and nothing longer is.
use Prim.Native.Char.{code}
use Rattle.std.proofs.Common.{◌≡◌, ◌≢◌, ◌∙◌, sym, ap, refl, ◌≤◌, ◌<◌, ◌⊎◌, inl, inr, ℕ, suc, ◌+◌, Bool, true, false, cond, List, [], ◌∷◌, ◌++◌, length, drop, take, Option, Some, None, nat_eq, codes, arith, append_assoc, length-append, length-drop}
use Rattle.std.proofs.lemmas.List.{length-take-le}
use Rattle.std.proofs.Math.Seq.{take-add, drop-append_seam}
use Rattle.std.proofs.Math.Nat.{eq-or-lt_of_le}
use Rattle.std.proofs.lemmas.Bool.{cases_eq, eqb-true, eq-eqb}
use Rattle.qasm_lex.specs.declared.bytes.Class.{Class}
use Rattle.qasm_lex.specs.declared.bytes.Class.TheVariants.{Digit, Point}
use Rattle.qasm_lex.specs.declared.token.TokenKind.TheVariants.{Whole, Real}
use Rattle.qasm_lex.specs.declared.pieces.Form.{Form}
use Rattle.qasm_lex.specs.declared.pieces.Form.TheVariants.{Token}
use Rattle.qasm_lex.specs.Bytes.{one_of, is_digit}
use Rattle.qasm_lex.specs.Private.Classes.{class_of, is_e, is_sign}
use Rattle.qasm_lex.specs.Private.Scan.{front_class, run, sign, exponent, number, at_point, with_point, without_point}
use Rattle.qasm_lex.specs.Lexemes.{IsRun, IsOne, Then, Maybe, IsWhole, IsExponent, IsPointed, SpellsForm}
use Rattle.qasm_lex.proofs.Classes.{digit_class, e_class, e_decides, e_stops, sign_decides, means}
use Rattle.qasm_lex.proofs.Runs.{run_is, run_reaches, run_exact, run_within, run_more, run_append, run_parts, Stops}

-- what a scan of the bytes answers is spelled so
abbrev pub Sound : List ℕ → Option (Form × ℕ) → Type 0
Sound bs None = Unit {0}
Sound bs (Some p) = (p.1 ≤ length bs) × SpellsForm p.0 (take p.1 bs)

-- a scan finds m bytes of the form, or more bytes
abbrev pub Reaches : ℕ → Form → Option (Form × ℕ) → Type 0
Reaches m form None = ⊥
Reaches m form (Some p) = (m < p.1) ⊎ ((p.1 ≡ m) × (p.0 ≡ form))

pub reaches_same : (m n : ℕ) (form : Form) → m ≤ n → Reaches m form (Some (form, n))
reaches_same m n form h = elim (eq-or-lt_of_le h) [ inl e ↦ inr (sym e, refl) | inr l ↦ inl l ]

sign_step : (b : ℕ) (bs : List ℕ) (t : Bool) → is_sign (class_of b) ≡ t → Maybe (IsOne (one_of (codes "+-"))) (take (cond t 1 0) (b ∷ bs))
sign_step b bs true e = inr (b, refl, sym (sign_decides b) ∙ e)
sign_step b bs false e = inl refl

pub sign_is : (bs : List ℕ) → Maybe (IsOne (one_of (codes "+-"))) (take (sign bs) bs)
unfolding sign
sign_is [] = inl refl
sign_is (b ∷ bs) = sign_step b bs (is_sign (class_of b)) refl

sign_within_step : (b : ℕ) (bs : List ℕ) (t : Bool) → cond t 1 0 ≤ suc (length bs)
sign_within_step b bs true = omega arith
sign_within_step b bs false = omega arith

pub sign_within : (bs : List ℕ) → sign bs ≤ length bs
unfolding sign
sign_within [] = omega arith
sign_within (b ∷ bs) = sign_within_step b bs (is_sign (class_of b))

pub sign_exact : (g : List ℕ) (d : ℕ) (u : List ℕ) → Maybe (IsOne (one_of (codes "+-"))) g → is_digit d ≡ true → sign (g ++ d ∷ u) ≡ length g
unfolding sign
sign_exact g d u (inl z) h = rw (z, digit_class d h) refl
sign_exact g d u (inr s) h = rw (s.1, sign_decides s.0, s.2) refl

pub whole_is : (bs : List ℕ) → run is_digit bs ≢ 0 → IsWhole (take (run is_digit bs) bs)
whole_is bs ne = (omega (arith, length-take-le (run is_digit bs) bs (run_within is_digit bs)), run_is is_digit bs)

-- exponents
exponent_end : (b : ℕ) (after : List ℕ) → is_e (class_of b) ≡ true → (t : Bool) → nat_eq (run is_digit (drop (sign after) after)) 0 ≡ t
    → cond t 0 (1 + sign after + run is_digit (drop (sign after) after)) ≢ 0
    → IsExponent (take (cond t 0 (1 + sign after + run is_digit (drop (sign after) after))) (b ∷ after))
exponent_end b after e true z ne = absurd (ne refl)
exponent_end b after e false z ne =
    let n = run is_digit (drop (sign after) after) in
    let some : n ≢ 0 = λ q. let t = eq-eqb n 0 q in cc in
    let count : 1 + sign after + n ≡ suc (sign after + n) = omega arith in
    rw (count, take-add (sign after) n after) (
      b ∷ [],
      take (sign after) after ++ take n (drop (sign after) after),
      refl,
      (b, refl, sym (e_decides b) ∙ e),
      (take (sign after) after, take n (drop (sign after) after), refl, sign_is after, whole_is (drop (sign after) after) some),
    )

exponent_step : (b : ℕ) (after : List ℕ) (t : Bool) → is_e (class_of b) ≡ t
    → cond t (cond (nat_eq (run is_digit (drop (sign after) after)) 0) 0 (1 + sign after + run is_digit (drop (sign after) after))) 0 ≢ 0
    → IsExponent (take (cond t (cond (nat_eq (run is_digit (drop (sign after) after)) 0) 0 (1 + sign after + run is_digit (drop (sign after) after))) 0) (b ∷ after))
exponent_step b after true e ne = exponent_end b after e (nat_eq (run is_digit (drop (sign after) after)) 0) refl ne
exponent_step b after false e ne = absurd (ne refl)

pub exponent_is : (bs : List ℕ) → exponent bs ≢ 0 → IsExponent (take (exponent bs) bs)
unfolding exponent
exponent_is [] ne = absurd (ne refl)
exponent_is (b ∷ after) ne = exponent_step b after (is_e (class_of b)) refl ne

-- the sign and the digits of an exponent are found
exponent_more : (g d u : List ℕ) → Maybe (IsOne (one_of (codes "+-"))) g → IsWhole d → (sign (g ++ (d ++ u)) ≡ length g) × (length d ≤ run is_digit (drop (length g) (g ++ (d ++ u))))
exponent_more g [] u s w = absurd (omega (arith, w.0))
exponent_more g (c ∷ d) u s w = (sign_exact g c (d ++ u) s (w.1).0, rw drop-append_seam (run_reaches is_digit (c ∷ d) u w.1))

exponent_count : (n g m : ℕ) → 0 < m → m ≤ n → (t : Bool) → nat_eq n 0 ≡ t → 1 + g + m ≤ cond t 0 (1 + g + n)
exponent_count n g m p h true e = let z = eqb-true n 0 e in absurd (omega arith)
exponent_count n g m p h false e = omega arith

counted : ℕ → ℕ → ℕ
counted s n = cond (nat_eq n 0) 0 (1 + s + n)

exponent_at : (b : ℕ) (after : List ℕ) → one_of (codes "eE") b ≡ true → exponent (b ∷ after) ≡ counted (sign after) (run is_digit (drop (sign after) after))
unfolding exponent counted
exponent_at b after e = rw (e_decides b, e) refl

counted_reaches : (n g m : ℕ) → 0 < m → m ≤ n → 1 + g + m ≤ counted g n
unfolding counted
counted_reaches n g m p h = exponent_count n g m p h (nat_eq n 0) refl

exponent_from : (b : ℕ) (g d u : List ℕ) → one_of (codes "eE") b ≡ true → Maybe (IsOne (one_of (codes "+-"))) g → IsWhole d → 1 + length g + length d ≤ exponent (b ∷ g ++ (d ++ u))
exponent_from b g d u e s w =
    let f = exponent_more g d u s w in
    rw (exponent_at b (g ++ (d ++ u)) e, f.0) (counted_reaches (run is_digit (drop (length g) (g ++ (d ++ u)))) (length g) (length d) w.0 f.1)

-- an exponent begins with its letter
begun : (x : List ℕ) (e : IsExponent x) → x ≡ (e.3).0 ∷ (e.4).0 ++ (e.4).1
begun x e = e.2 ∙ ap (λ l. l ++ e.1) (e.3).1 ∙ ap (λ r. (e.3).0 ∷ r) (e.4).2

pub exponent_reaches : (x u : List ℕ) → IsExponent x → (length x ≤ exponent (x ++ u)) × (0 < length x)
exponent_reaches x u e =
    let g = (e.4).0 in
    let d = (e.4).1 in
    rw (begun x e) (
      rw (append_assoc g d u) (let c = exponent_from (e.3).0 g d u (e.3).2 (e.4).3 (e.4).4 in omega (arith, c, length-append g d)),
      omega arith,
    )

exponent_within_step : (b : ℕ) (after : List ℕ) (t s : Bool) → cond t (cond s 0 (1 + sign after + run is_digit (drop (sign after) after))) 0 ≤ suc (length after)
exponent_within_step b after true true = omega arith
exponent_within_step b after true false = omega (arith, run_within is_digit (drop (sign after) after), sign_within after, length-drop (sign after) after)
exponent_within_step b after false s = omega arith

pub exponent_within : (bs : List ℕ) → exponent bs ≤ length bs
unfolding exponent
exponent_within [] = omega arith
exponent_within (b ∷ after) = exponent_within_step b after (is_e (class_of b)) (nat_eq (run is_digit (drop (sign after) after)) 0)

-- numbers
exponent_stops : (x u : List ℕ) → IsExponent x → Stops is_digit (x ++ u)
exponent_stops x u e = rw (begun x e) (e_stops (e.3).0 (e.3).2)

power_is : (bs : List ℕ) → Maybe IsExponent (take (exponent bs) bs)
power_is bs = elim (cases_eq (exponent bs) 0) [
  | inl z ↦ inl (ap (λ k. take k bs) z)
  | inr ne ↦ inr (exponent_is bs ne)
]

-- where digits end and a rest begins
pub split_at : (bs rest : List ℕ) (n m : ℕ) → drop n bs ≡ rest → take (n + m) bs ≡ take n bs ++ take m rest
split_at bs rest n m e = take-add n m bs ∙ ap (λ r. take n bs ++ take m r) e

-- the lengths of the parts
pub room : (bs rest : List ℕ) (n : ℕ) → n ≤ length bs → drop n bs ≡ rest → n + length rest ≡ length bs
room bs rest n h e = omega (arith, length-drop n bs, ap length e)

with_point_sound_end : (bs after : List ℕ) → (t : Bool) → nat_eq (run is_digit bs + run is_digit after) 0 ≡ t
    → (b : ℕ) → drop (run is_digit bs) bs ≡ b ∷ after → class_of b ≡ Point
    → Sound bs (cond t None (Some (Token Real, run is_digit bs + 1 + run is_digit after + exponent (drop (run is_digit after) after))))
with_point_sound_end bs after true z b d e = tt
with_point_sound_end bs after false z b d e =
    let whole = run is_digit bs in
    let part = run is_digit after in
    let rest = drop part after in
    let count : whole + 1 + part + exponent rest ≡ whole + suc (part + exponent rest) = omega arith in
    let whole_within : whole ≤ length bs = run_within is_digit bs in
    let part_within : part ≤ length after = run_within is_digit after in
    let power_within : exponent rest ≤ length rest = exponent_within rest in
    let r1 = room bs (b ∷ after) whole whole_within d in
    let r2 = room after rest part part_within refl in
    let some : whole + part ≢ 0 = λ q. let f = eq-eqb (whole + part) 0 q in cc in
    let l1 = length-take-le whole bs whole_within in
    let l2 = length-take-le part after part_within in (
      omega arith,
      rw (count, split_at bs (b ∷ after) whole (suc (part + exponent rest)) d, means b Point e) (
        refl,
        inl (
          take whole bs,
          take part after,
          take (exponent rest) rest,
          ap (λ r. take whole bs ++ (code "." ∷ r)) (take-add part (exponent rest) after),
          (omega (arith, length-append (take whole bs) (take part after)), run_append is_digit (take whole bs) (take part after) (run_is is_digit bs) (run_is is_digit after)),
          power_is rest,
        ),
      ),
    )

with_point_sound : (bs : List ℕ) (b : ℕ) (after : List ℕ) → drop (run is_digit bs) bs ≡ b ∷ after → class_of b ≡ Point → Sound bs (with_point (run is_digit bs) after)
with_point_sound bs b after d e = with_point_sound_end bs after (nat_eq (run is_digit bs + run is_digit after) 0) refl b d e

without_point_sound_end : (bs after : List ℕ) → (t : Bool) → nat_eq (exponent after) 0 ≡ t → drop (run is_digit bs) bs ≡ after → run is_digit bs ≢ 0
    → Sound bs (cond t (Some (Token Whole, run is_digit bs)) (Some (Token Real, run is_digit bs + exponent after)))
without_point_sound_end bs after true z d ne = (run_within is_digit bs, (refl, whole_is bs ne))
without_point_sound_end bs after false z d ne =
    let whole = run is_digit bs in
    let whole_within : whole ≤ length bs = run_within is_digit bs in
    let power_within : exponent after ≤ length after = exponent_within after in
    let r1 = room bs after whole whole_within d in
    let some : exponent after ≢ 0 = λ q. let f = eq-eqb (exponent after) 0 q in cc in (
      omega arith,
      rw (split_at bs after whole (exponent after) d)
          (refl, inr (take whole bs, take (exponent after) after, refl, whole_is bs ne, exponent_is after some)),
    )

without_point_sound : (bs after : List ℕ) → drop (run is_digit bs) bs ≡ after → run is_digit bs ≢ 0 → Sound bs (without_point (run is_digit bs) after)
without_point_sound bs after d ne = without_point_sound_end bs after (nat_eq (exponent after) 0) refl d ne

number_sound_end : (bs : List ℕ) (b : ℕ) (after : List ℕ) → drop (run is_digit bs) bs ≡ b ∷ after → (run is_digit bs ≡ 0 → class_of b ≡ Point)
    → (k : Class) → class_of b ≡ k → Sound bs (at_point (run is_digit bs) k (b ∷ after))
number_sound_end bs b after d p Point e = with_point_sound bs b after d e
number_sound_end bs b after d p _ e = without_point_sound bs (b ∷ after) d (λ z. let q = p z in absurd (cc))

number_sound_step : (bs r : List ℕ) → drop (run is_digit bs) bs ≡ r → (run is_digit bs ≡ 0 → front_class r ≡ Point) → Sound bs (at_point (run is_digit bs) (front_class r) r)
number_sound_step bs [] d p = without_point_sound bs [] d (λ z. let q = p z in absurd (cc))
number_sound_step bs (b ∷ after) d p = number_sound_end bs b after d p (class_of b) refl

pub number_digit : (b : ℕ) (after : List ℕ) → class_of b ≡ Digit → Sound (b ∷ after) (number (b ∷ after))
unfolding number
number_digit b after e =
    let more = run_more is_digit b after (means b Digit e) in
    number_sound_step (b ∷ after) _ refl (λ z. absurd (omega arith))

pub number_point : (b : ℕ) (after : List ℕ) → class_of b ≡ Point → Sound (b ∷ after) (number (b ∷ after))
unfolding number
number_point b after e = number_sound_step (b ∷ after) _ refl (λ z. rw z e)

-- nothing longer
with_point_more_end : (m : ℕ) (form : Form) (whole : ℕ) (after : List ℕ) → 0 < whole + run is_digit after → (t : Bool) → nat_eq (whole + run is_digit after) 0 ≡ t
    → Reaches m form (Some (Token Real, whole + 1 + run is_digit after + exponent (drop (run is_digit after) after)))
    → Reaches m form (cond t None (Some (Token Real, whole + 1 + run is_digit after + exponent (drop (run is_digit after) after))))
with_point_more_end m form whole after h true e r = let z = eqb-true (whole + run is_digit after) 0 e in absurd (omega arith)
with_point_more_end m form whole after h false e r = r

with_point_more : (m : ℕ) (form : Form) (whole : ℕ) (after : List ℕ) → 0 < whole + run is_digit after
    → Reaches m form (Some (Token Real, whole + 1 + run is_digit after + exponent (drop (run is_digit after) after)))
    → Reaches m form (with_point whole after)
with_point_more m form whole after h r = with_point_more_end m form whole after h (nat_eq (whole + run is_digit after) 0) refl r

without_point_whole_end : (m whole more : ℕ) → m ≤ whole → (t : Bool) → nat_eq more 0 ≡ t
    → Reaches m (Token Whole) (cond t (Some (Token Whole, whole)) (Some (Token Real, whole + more)))
without_point_whole_end m whole more h true e = reaches_same m whole (Token Whole) h
without_point_whole_end m whole more h false e =
    let some : more ≢ 0 = λ q. let f = eq-eqb more 0 q in cc in
    inl (omega arith)

without_point_whole : (m whole : ℕ) (after : List ℕ) → m ≤ whole → Reaches m (Token Whole) (without_point whole after)
without_point_whole m whole after h = without_point_whole_end m whole (exponent after) h (nat_eq (exponent after) 0) refl

number_whole_step : (m whole : ℕ) (k : Class) (r : List ℕ) → m ≤ whole → 0 < m → Reaches m (Token Whole) (at_point whole k r)
number_whole_step m whole Point r h p = with_point_more m (Token Whole) whole (drop 1 r) (omega arith) (inl (omega arith))
number_whole_step m whole _ r h p = without_point_whole m whole r h

pub number_whole : (d u : List ℕ) → IsWhole d → Reaches (length d) (Token Whole) (number (d ++ u))
unfolding number
number_whole d u w = number_whole_step (length d) (run is_digit (d ++ u)) (front_class (drop (run is_digit (d ++ u)) (d ++ u))) (drop (run is_digit (d ++ u)) (d ++ u)) (run_reaches is_digit d u w.1) w.0

-- a number whose run of digits ends before a rest
number_at : (w r : List ℕ) → IsRun is_digit w → Stops is_digit r → number (w ++ r) ≡ at_point (length w) (front_class r) r
unfolding number
number_at w r h s = rw (run_exact is_digit w r h s) (ap (λ x. at_point (length w) (front_class x) x) (drop-append_seam w r))

part_reaches : (part power u : List ℕ) → IsRun is_digit part → Maybe IsExponent power
    → length part + length power ≤ run is_digit (part ++ (power ++ u)) + exponent (drop (run is_digit (part ++ (power ++ u))) (part ++ (power ++ u)))
part_reaches part power u h (inl z) = rw z (omega (arith, run_reaches is_digit part u h))
part_reaches part power u h (inr e) =
    rw (run_exact is_digit part (power ++ u) h (exponent_stops power u e), drop-append_seam)
    (omega (arith, (exponent_reaches power u e).0))

-- a point after digits
point_at : (w r : List ℕ) → IsRun is_digit w → number (w ++ (code "." ∷ r)) ≡ with_point (length w) r
unfolding class_of
point_at w r h = number_at w (code "." ∷ r) h refl

pub number_pointed : (t u : List ℕ) → IsPointed t → Reaches (length t) (Token Real) (number (t ++ u))
number_pointed t u n =
    let whole = n.0 in
    let part = n.1 in
    let power = n.2 in
    let digits = run_parts is_digit whole part (n.4).1 in
    let rest = part ++ (power ++ u) in
    let regrouped : t ++ u ≡ whole ++ (code "." ∷ rest) =
    ap (λ x. x ++ u) n.3 ∙ append_assoc whole (code "." ∷ part ++ power) u ∙ ap (λ x. whole ++ (code "." ∷ x)) (append_assoc part power u) in
    let far = part_reaches part power u digits.1 n.5 in
    let near = run_reaches is_digit part (power ++ u) digits.1 in
    let size : length t ≡ length whole + suc (length part + length power) = omega (arith, ap length n.3, length-append whole (code "." ∷ part ++ power), length-append part power) in
    let some : 0 < length whole + length part = omega (arith, (n.4).0, length-append whole part) in
    rw (regrouped, point_at whole rest digits.0)
    (with_point_more (length t) (Token Real) (length whole) rest (omega arith)
    (reaches_same (length t) _ (Token Real) (omega arith)))

scaled_more : (m whole more : ℕ) → m ≤ more → 0 < m → (t : Bool) → nat_eq more 0 ≡ t
    → Reaches (whole + m) (Token Real) (cond t (Some (Token Whole, whole)) (Some (Token Real, whole + more)))
scaled_more m whole more h p true e = let z = eqb-true more 0 e in absurd (omega arith)
scaled_more m whole more h p false e = reaches_same (whole + m) (whole + more) (Token Real) (omega arith)

scaled_end : (m whole b : ℕ) (after : List ℕ) → one_of (codes "eE") b ≡ true → m ≤ exponent (b ∷ after) → 0 < m
    → Reaches (whole + m) (Token Real) (at_point whole (class_of b) (b ∷ after))
scaled_end m whole b after e h p = rw (e_class b e) (scaled_more m whole (exponent (b ∷ after)) h p (nat_eq (exponent (b ∷ after)) 0) refl)

pub number_scaled : (t u : List ℕ) → Then IsWhole IsExponent t → Reaches (length t) (Token Real) (number (t ++ u))
number_scaled t u n =
    let whole = n.0 in
    let power = n.1 in
    let e = n.4 in
    let rest = ((e.4).0 ++ (e.4).1) ++ u in
    let regrouped : t ++ u ≡ whole ++ (power ++ u) = ap (λ x. x ++ u) n.2 ∙ append_assoc whole power u in
    let power_is : power ++ u ≡ (e.3).0 ∷ rest = ap (λ x. x ++ u) (begun power e) in
    let reached = exponent_reaches power u e in
    let found : length power ≤ exponent ((e.3).0 ∷ rest) = omega (arith, reached.0, ap exponent power_is) in
    let size : length t ≡ length whole + length power = omega (arith, ap length n.2, length-append whole power) in
    rw (size, regrouped, number_at whole (power ++ u) (n.3).1 (exponent_stops power u e), power_is)
    (scaled_end (length power) (length whole) (e.3).0 rest (e.3).2 found reached.1)
