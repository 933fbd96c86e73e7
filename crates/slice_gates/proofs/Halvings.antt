-- A vector is halved in one way.
use Rattle.std.proofs.Common.{◌≡◌, inl, inr, ℕ, ◌+◌, ◌-◌, ◌<◌, Bool, List, length, sym, ◌∙◌, ap, arith}
use Rattle.std.proofs.lemmas.Bool.{cases_lt}
use Rattle.ring_omega.specs.declared.quad.Quad.{Quad}
use Rattle.circuit_model.specs.Working.{Scaled, IsHalved}
use Rattle.slice_gates.proofs.Doubles.{doubled_quad, two-is, times_power-two, doubled_quad-add, doubled_quad-same}

-- only the entries at lists of n bits count
pub halved-of_same : (n : ℕ) (v u : List Bool → Quad) (k : ℕ) (w : Scaled) → ((x : List Bool) → length x ≡ n → u x ≡ v x) → IsHalved n v k w → IsHalved n u k w
halved-of_same n v u k w same h = record { times = h.times; exponent_left = h.exponent_left; taken_out = λ x len. same x len ∙ h.taken_out x len; ended = h.ended }

-- two factors are the same where as many were taken out
same_entries : (n : ℕ) (v : List Bool → Quad) (k : ℕ) (w u : Scaled) (a : IsHalved n v k w) (b : IsHalved n v k u) → a.times ≡ b.times → (x : List Bool) → length x ≡ n → w.entries x ≡ u.entries x
same_entries n v k w u a b e x len =
    let left : v x ≡ doubled_quad a.times (w.entries x) = a.taken_out x len ∙ times_power-two a.times (w.entries x) in
    let right : v x ≡ doubled_quad b.times (u.entries x) = b.taken_out x len ∙ times_power-two b.times (u.entries x) in
    doubled_quad-same a.times (w.entries x) (u.entries x) (sym left ∙ right ∙ ap (λ t. doubled_quad t (u.entries x)) (sym e))

-- the one that took out fewer hadn't ended
not_fewer : (n : ℕ) (v : List Bool → Quad) (k : ℕ) (w u : Scaled) (a : IsHalved n v k w) (b : IsHalved n v k u) → a.times < b.times → ⊥
not_fewer n v k w u a b less =
    a.ended (omega (arith, less, a.exponent_left, b.exponent_left))
    (λ x len.
    let m = b.times - a.times - 1 in
    let split : m + (1 + a.times) ≡ b.times = omega (arith, less) in
    let left : v x ≡ doubled_quad a.times (w.entries x) = a.taken_out x len ∙ times_power-two a.times (w.entries x) in
    let right : v x ≡ doubled_quad b.times (u.entries x) = b.taken_out x len ∙ times_power-two b.times (u.entries x) in
    let q = doubled_quad m (u.entries x) in
    let twice : doubled_quad b.times (u.entries x) ≡ doubled_quad a.times (doubled_quad 1 q) =
    ap (λ t. doubled_quad t (u.entries x)) (sym split) ∙ doubled_quad-add m (1 + a.times) (u.entries x) ∙ doubled_quad-add 1 a.times q in
    (q, two-is q ∙ sym (doubled_quad-same a.times (w.entries x) (doubled_quad 1 q) (sym left ∙ right ∙ twice))))

pub same_times : (n : ℕ) (v : List Bool → Quad) (k : ℕ) (w u : Scaled) (a : IsHalved n v k w) (b : IsHalved n v k u) → a.times ≡ b.times
same_times n v k w u a b =
    elim (cases_lt a.times b.times) [
      | inl less ↦ absurd (not_fewer n v k w u a b less)
      | inr past ↦ elim (cases_lt b.times a.times) [
        | inl less ↦ absurd (not_fewer n v k u w b a less)
        | inr other ↦ omega arith
      ]
    ]

pub halved_once : (n : ℕ) (v : List Bool → Quad) (k : ℕ) (w u : Scaled) → IsHalved n v k w → IsHalved n v k u → (w.exponent ≡ u.exponent) × ((x : List Bool) → length x ≡ n → w.entries x ≡ u.entries x)
halved_once n v k w u a b =
    let e = same_times n v k w u a b in
    (omega (arith, e, a.exponent_left, b.exponent_left), same_entries n v k w u a b e)
