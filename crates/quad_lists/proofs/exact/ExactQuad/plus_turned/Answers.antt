use Rattle.std.proofs.Common.{rules, ◌≡◌, ◌+◌, ◌^◌, subst, sym, ◌∙◌, ap, ℕ, ◌+ℤ◌, neg_ℤ, FitsSigned, arith}
use Rattle.std.specs.Int.{w128}
use Rattle.std.proofs.lemmas.Int.{ints}
use Rattle.ring_omega.specs.declared.quad.Quad.{Quad}
use Rattle.ring_omega.specs.Ring.{quad, sum_of, times_power, omega_unit}
use Rattle.ring_omega.specs.Bounds.{IsWithin}
use Rattle.ring_omega.proofs.BoundLemmas.{IsWithin-sum_of, IsWithin-turned}
use Rattle.ring_omega.proofs.RingLemmas.{quad_eq, turned-1, turned-2, turned-3, turned-4, turned-5, turned-6, turned-7}
use Rattle.quad_lists.specs.Sums.{quad_value}
use Rattle.quad_lists.proofs.exact.ExactQuad.plus_turned.Goals as goal

-- a number added coordinate by coordinate
added : (s r t : Quad) → r.a ≡ s.a +ℤ t.a → r.b ≡ s.b +ℤ t.b → r.c ≡ s.c +ℤ t.c → r.d ≡ s.d +ℤ t.d → r ≡ sum_of s t
unfolding sum_of
added s r t ea eb ec ed = quad_eq r (quad (s.a +ℤ t.a) (s.b +ℤ t.b) (s.c +ℤ t.c) (s.d +ℤ t.d)) ea eb ec ed

-- the summand's coordinates are signed numbers of 128 bits
bounded_sum : (j : ℕ) (s r q : Quad) → FitsSigned w128 q.a → FitsSigned w128 q.b → FitsSigned w128 q.c → FitsSigned w128 q.d
    → r ≡ sum_of s (times_power omega_unit j q) → (m : ℕ) → IsWithin m s → IsWithin (m + 2 ^ 127) r
bounded_sum j s r q fa fb fc fd e m f =
    let small : IsWithin (2 ^ 127) q = record { a_within = omega (arith, ints); b_within = omega (arith, ints); c_within = omega (arith, ints); d_within = omega (arith, ints) } in
    subst (IsWithin (m + 2 ^ 127)) (sym e) (IsWithin-sum_of m (2 ^ 127) s _ f (IsWithin-turned (2 ^ 127) j q small))

pub returns-in-0 : goal.returns-in-0
returns-in-0 c =
    let q = c.args.q in
    let s = quad_value c.args.self in
    let fa : FitsSigned w128 q.a = search rules in
    let fb : FitsSigned w128 q.b = search rules in
    let fc : FitsSigned w128 q.c = search rules in
    let fd : FitsSigned w128 q.d = search rules in
    let j : c.args.j ≡ 0 = c.in-0.is in
    let e : quad_value c.gathered.result ≡ sum_of s (times_power omega_unit c.args.j q) =
    c.gathered.ensures
    ∙ added s (quad _ _ _ _) q (omega (arith, ints, c.plus.ensures)) (omega (arith, ints, c.plus-in-0.ensures)) (omega (arith, ints, c.plus-in-0-2.ensures)) (omega (arith, ints, c.plus-in-0-3.ensures))
    ∙ ap (λ (k : ℕ). sum_of s (times_power omega_unit k q)) (sym j) in
    record { value = e; bounded = bounded_sum c.args.j s _ q fa fb fc fd e }

pub returns-in-1 : goal.returns-in-1
returns-in-1 c =
    let q = c.args.q in
    let s = quad_value c.args.self in
    let fa : FitsSigned w128 q.a = search rules in
    let fb : FitsSigned w128 q.b = search rules in
    let fc : FitsSigned w128 q.c = search rules in
    let fd : FitsSigned w128 q.d = search rules in
    let j : c.args.j ≡ 1 = c.in-1.is in
    let e : quad_value c.gathered-in-1.result ≡ sum_of s (times_power omega_unit c.args.j q) =
    c.gathered-in-1.ensures
    ∙ added s (quad _ _ _ _) (quad q.b q.c q.d (neg_ℤ q.a)) (omega (arith, ints, c.plus-in-1.ensures)) (omega (arith, ints, c.plus-in-1-2.ensures)) (omega (arith, ints, c.plus-in-1-3.ensures)) (omega (arith, ints, c.minus.ensures)) ∙ ap (sum_of s) (sym (turned-1 q))
    ∙ ap (λ (k : ℕ). sum_of s (times_power omega_unit k q)) (sym j) in
    record { value = e; bounded = bounded_sum c.args.j s _ q fa fb fc fd e }

pub returns-in-2 : goal.returns-in-2
returns-in-2 c =
    let q = c.args.q in
    let s = quad_value c.args.self in
    let fa : FitsSigned w128 q.a = search rules in
    let fb : FitsSigned w128 q.b = search rules in
    let fc : FitsSigned w128 q.c = search rules in
    let fd : FitsSigned w128 q.d = search rules in
    let j : c.args.j ≡ 2 = c.in-2.is in
    let e : quad_value c.gathered-in-2.result ≡ sum_of s (times_power omega_unit c.args.j q) =
    c.gathered-in-2.ensures
    ∙ added s (quad _ _ _ _) (quad q.c q.d (neg_ℤ q.a) (neg_ℤ q.b)) (omega (arith, ints, c.plus-in-2.ensures)) (omega (arith, ints, c.plus-in-2-2.ensures)) (omega (arith, ints, c.minus-in-2.ensures)) (omega (arith, ints, c.minus-in-2-2.ensures)) ∙ ap (sum_of s) (sym (turned-2 q))
    ∙ ap (λ (k : ℕ). sum_of s (times_power omega_unit k q)) (sym j) in
    record { value = e; bounded = bounded_sum c.args.j s _ q fa fb fc fd e }

pub returns-in-3 : goal.returns-in-3
returns-in-3 c =
    let q = c.args.q in
    let s = quad_value c.args.self in
    let fa : FitsSigned w128 q.a = search rules in
    let fb : FitsSigned w128 q.b = search rules in
    let fc : FitsSigned w128 q.c = search rules in
    let fd : FitsSigned w128 q.d = search rules in
    let j : c.args.j ≡ 3 = c.in-3.is in
    let e : quad_value c.gathered-in-3.result ≡ sum_of s (times_power omega_unit c.args.j q) =
    c.gathered-in-3.ensures
    ∙ added s (quad _ _ _ _) (quad q.d (neg_ℤ q.a) (neg_ℤ q.b) (neg_ℤ q.c)) (omega (arith, ints, c.plus-in-3.ensures)) (omega (arith, ints, c.minus-in-3.ensures)) (omega (arith, ints, c.minus-in-3-2.ensures)) (omega (arith, ints, c.minus-in-3-3.ensures)) ∙ ap (sum_of s) (sym (turned-3 q))
    ∙ ap (λ (k : ℕ). sum_of s (times_power omega_unit k q)) (sym j) in
    record { value = e; bounded = bounded_sum c.args.j s _ q fa fb fc fd e }

pub returns-in-4 : goal.returns-in-4
returns-in-4 c =
    let q = c.args.q in
    let s = quad_value c.args.self in
    let fa : FitsSigned w128 q.a = search rules in
    let fb : FitsSigned w128 q.b = search rules in
    let fc : FitsSigned w128 q.c = search rules in
    let fd : FitsSigned w128 q.d = search rules in
    let j : c.args.j ≡ 4 = c.in-4.is in
    let e : quad_value c.gathered-in-4.result ≡ sum_of s (times_power omega_unit c.args.j q) =
    c.gathered-in-4.ensures
    ∙ added s (quad _ _ _ _) (quad (neg_ℤ q.a) (neg_ℤ q.b) (neg_ℤ q.c) (neg_ℤ q.d)) (omega (arith, ints, c.minus-in-4.ensures)) (omega (arith, ints, c.minus-in-4-2.ensures)) (omega (arith, ints, c.minus-in-4-3.ensures)) (omega (arith, ints, c.minus-in-4-4.ensures)) ∙ ap (sum_of s) (sym (turned-4 q))
    ∙ ap (λ (k : ℕ). sum_of s (times_power omega_unit k q)) (sym j) in
    record { value = e; bounded = bounded_sum c.args.j s _ q fa fb fc fd e }

pub returns-in-5 : goal.returns-in-5
returns-in-5 c =
    let q = c.args.q in
    let s = quad_value c.args.self in
    let fa : FitsSigned w128 q.a = search rules in
    let fb : FitsSigned w128 q.b = search rules in
    let fc : FitsSigned w128 q.c = search rules in
    let fd : FitsSigned w128 q.d = search rules in
    let j : c.args.j ≡ 5 = c.in-5.is in
    let e : quad_value c.gathered-in-5.result ≡ sum_of s (times_power omega_unit c.args.j q) =
    c.gathered-in-5.ensures
    ∙ added s (quad _ _ _ _) (quad (neg_ℤ q.b) (neg_ℤ q.c) (neg_ℤ q.d) q.a) (omega (arith, ints, c.minus-in-5.ensures)) (omega (arith, ints, c.minus-in-5-2.ensures)) (omega (arith, ints, c.minus-in-5-3.ensures)) (omega (arith, ints, c.plus-in-5.ensures)) ∙ ap (sum_of s) (sym (turned-5 q))
    ∙ ap (λ (k : ℕ). sum_of s (times_power omega_unit k q)) (sym j) in
    record { value = e; bounded = bounded_sum c.args.j s _ q fa fb fc fd e }

pub returns-in-6 : goal.returns-in-6
returns-in-6 c =
    let q = c.args.q in
    let s = quad_value c.args.self in
    let fa : FitsSigned w128 q.a = search rules in
    let fb : FitsSigned w128 q.b = search rules in
    let fc : FitsSigned w128 q.c = search rules in
    let fd : FitsSigned w128 q.d = search rules in
    let j : c.args.j ≡ 6 = c.in-6.is in
    let e : quad_value c.gathered-in-6.result ≡ sum_of s (times_power omega_unit c.args.j q) =
    c.gathered-in-6.ensures
    ∙ added s (quad _ _ _ _) (quad (neg_ℤ q.c) (neg_ℤ q.d) q.a q.b) (omega (arith, ints, c.minus-in-6.ensures)) (omega (arith, ints, c.minus-in-6-2.ensures)) (omega (arith, ints, c.plus-in-6.ensures)) (omega (arith, ints, c.plus-in-6-2.ensures)) ∙ ap (sum_of s) (sym (turned-6 q))
    ∙ ap (λ (k : ℕ). sum_of s (times_power omega_unit k q)) (sym j) in
    record { value = e; bounded = bounded_sum c.args.j s _ q fa fb fc fd e }

pub returns-in_default : goal.returns-in_default
returns-in_default c =
    let q = c.args.q in
    let s = quad_value c.args.self in
    let fa : FitsSigned w128 q.a = search rules in
    let fb : FitsSigned w128 q.b = search rules in
    let fc : FitsSigned w128 q.c = search rules in
    let fd : FitsSigned w128 q.d = search rules in
    let j : c.args.j ≡ 7 = omega arith in
    let e : quad_value c.gathered-in_default.result ≡ sum_of s (times_power omega_unit c.args.j q) =
    c.gathered-in_default.ensures
    ∙ added s (quad _ _ _ _) (quad (neg_ℤ q.d) q.a q.b q.c) (omega (arith, ints, c.minus-in_default.ensures)) (omega (arith, ints, c.plus-in_default.ensures)) (omega (arith, ints, c.plus-in_default-2.ensures)) (omega (arith, ints, c.plus-in_default-3.ensures)) ∙ ap (sum_of s) (sym (turned-7 q))
    ∙ ap (λ (k : ℕ). sum_of s (times_power omega_unit k q)) (sym j) in
    record { value = e; bounded = bounded_sum c.args.j s _ q fa fb fc fd e }
