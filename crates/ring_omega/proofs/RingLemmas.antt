-- The ring's operations as linear maps, and the root of two as an injective one.
use Rattle.std.proofs.Common.{◌≡◌, ◌∙◌, ap, ℤ, pos, ◌+ℤ◌, ◌-ℤ◌, neg_ℤ, FitsSigned, arith, Option, Some, None}
use Rattle.std.specs.Option.{SomeIff}
use Rattle.std.specs.Int.{w128}
use Rattle.std.proofs.lemmas.Int.{ints}
use Rattle.ring_omega.specs.declared.quad.Quad.{Quad}
use Rattle.ring_omega.specs.Ring.{quad, zero_quad, product_of, times_power, omega_unit, root_of_two, is_zero, Fits}
use Rattle.std.proofs.lemmas.Bool.Decides.{Decides-like, Decides-and, Decides-int_eq}
use Rattle.std.specs.Bool.{Decides}
use Rattle.ring_omega.specs.Private.{all_of}

pub quad_eq : (p q : Quad) → p.a ≡ q.a → p.b ≡ q.b → p.c ≡ q.c → p.d ≡ q.d → p ≡ q
quad_eq p q ea eb ec ed = λ i. record { a = ea i; b = eb i; c = ec i; d = ed i }

pub times_omega-is : (q : Quad) → product_of q omega_unit ≡ quad q.b q.c q.d (neg_ℤ q.a)
unfolding product_of
times_omega-is q = quad_eq _ _ (omega (arith, ints)) (omega (arith, ints)) (omega (arith, ints)) (omega (arith, ints))

pub times_root-is : (q : Quad) → product_of q root_of_two ≡ quad (q.b -ℤ q.d) (q.a +ℤ q.c) (q.b +ℤ q.d) (q.c -ℤ q.a)
unfolding product_of
times_root-is q = quad_eq _ _ (omega (arith, ints)) (omega (arith, ints)) (omega (arith, ints)) (omega (arith, ints))

pub all_of-SomeIff : (v : Quad) (x y z u : Option ℤ) → SomeIff x (FitsSigned w128 v.a) v.a → SomeIff y (FitsSigned w128 v.b) v.b → SomeIff z (FitsSigned w128 v.c) v.c → SomeIff u (FitsSigned w128 v.d) v.d → SomeIff (all_of x y z u) (Fits v) v
all_of-SomeIff v (Some x) (Some y) (Some z) (Some u) ea eb ec ed = (record { a_fits = ea.0; b_fits = eb.0; c_fits = ec.0; d_fits = ed.0 }, quad_eq _ _ ea.1 eb.1 ec.1 ed.1)
all_of-SomeIff v None y z u ea eb ec ed = λ f. ea f.a_fits
all_of-SomeIff v (Some x) None z u ea eb ec ed = λ f. eb f.b_fits
all_of-SomeIff v (Some x) (Some y) None u ea eb ec ed = λ f. ec f.c_fits
all_of-SomeIff v (Some x) (Some y) (Some z) None ea eb ec ed = λ f. ed f.d_fits

pub neg_neg : (x : ℤ) → neg_ℤ (neg_ℤ x) ≡ x
neg_neg x = omega (arith, ints)

pub turned-1 : (q : Quad) → times_power omega_unit 1 q ≡ quad q.b q.c q.d (neg_ℤ q.a)
turned-1 q = times_omega-is q

pub turned-2 : (q : Quad) → times_power omega_unit 2 q ≡ quad q.c q.d (neg_ℤ q.a) (neg_ℤ q.b)
turned-2 q = ap (λ r. product_of r omega_unit) (turned-1 q) ∙ times_omega-is _

pub turned-3 : (q : Quad) → times_power omega_unit 3 q ≡ quad q.d (neg_ℤ q.a) (neg_ℤ q.b) (neg_ℤ q.c)
turned-3 q = ap (λ r. product_of r omega_unit) (turned-2 q) ∙ times_omega-is _

pub turned-4 : (q : Quad) → times_power omega_unit 4 q ≡ quad (neg_ℤ q.a) (neg_ℤ q.b) (neg_ℤ q.c) (neg_ℤ q.d)
turned-4 q = ap (λ r. product_of r omega_unit) (turned-3 q) ∙ times_omega-is _

pub turned-5 : (q : Quad) → times_power omega_unit 5 q ≡ quad (neg_ℤ q.b) (neg_ℤ q.c) (neg_ℤ q.d) q.a
turned-5 q = ap (λ r. product_of r omega_unit) (turned-4 q) ∙ times_omega-is _ ∙ ap (quad _ _ _) (neg_neg q.a)

pub turned-6 : (q : Quad) → times_power omega_unit 6 q ≡ quad (neg_ℤ q.c) (neg_ℤ q.d) q.a q.b
turned-6 q = ap (λ r. product_of r omega_unit) (turned-5 q) ∙ times_omega-is _ ∙ ap (quad _ _ _) (neg_neg q.b)

pub turned-7 : (q : Quad) → times_power omega_unit 7 q ≡ quad (neg_ℤ q.d) q.a q.b q.c
turned-7 q = ap (λ r. product_of r omega_unit) (turned-6 q) ∙ times_omega-is _ ∙ ap (quad _ _ _) (neg_neg q.c)

pub Decides-is_zero : (q : Quad) → Decides (is_zero q) (q ≡ zero_quad)
unfolding is_zero
Decides-is_zero q =
    let test = λ (x : ℤ). Decides-int_eq x (pos 0) in
    Decides-like {P = (q.a ≡ pos 0) × ((q.b ≡ pos 0) × ((q.c ≡ pos 0) × (q.d ≡ pos 0)))} (is_zero q)
    (λ h. quad_eq q zero_quad h.0 h.1.0 h.1.1.0 h.1.1.1)
    (λ e. (ap (λ (r : Quad). r.a) e, (ap (λ (r : Quad). r.b) e, (ap (λ (r : Quad). r.c) e, ap (λ (r : Quad). r.d) e))))
    (Decides-and _ _ (test q.a) (Decides-and _ _ (test q.b) (Decides-and _ _ (test q.c) (test q.d))))
