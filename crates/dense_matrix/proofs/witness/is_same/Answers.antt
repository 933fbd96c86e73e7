use Rattle.std.proofs.Common.{◌≡◌, ◌&&◌, ap, sym, ◌∙◌}
use Rattle.std.specs.Bool.{Decides}
use Rattle.std.specs.Ordering.{int_eq}
use Rattle.std.proofs.lemmas.Bool.Decides.{Decides-like, Decides-and, Decides-int_eq}
use Rattle.ring_omega.specs.declared.quad.Quad.{Quad}
use Rattle.ring_omega.proofs.RingLemmas.{quad_eq}
use Rattle.dense_matrix.proofs.witness.is_same.Goals as goal

Decides-same : (p q : Quad) → Decides (int_eq p.a q.a && (int_eq p.b q.b && (int_eq p.c q.c && int_eq p.d q.d))) (p ≡ q)
Decides-same p q =
    Decides-like {P = (p.a ≡ q.a) × ((p.b ≡ q.b) × ((p.c ≡ q.c) × (p.d ≡ q.d)))} _
    (λ h. quad_eq p q h.0 h.1.0 h.1.1.0 h.1.1.1)
    (λ e. (ap (λ (r : Quad). r.a) e, (ap (λ (r : Quad). r.b) e, (ap (λ (r : Quad). r.c) e, ap (λ (r : Quad). r.d) e))))
    (Decides-and _ _ (Decides-int_eq p.a q.a) (Decides-and _ _ (Decides-int_eq p.b q.b) (Decides-and _ _ (Decides-int_eq p.c q.c) (Decides-int_eq p.d q.d))))

pub returns : goal.returns
returns c =
    let p = c.args.p in
    let q = c.args.q in
    let e : c.eq.result ≡ (int_eq p.a q.a && (int_eq p.b q.b && (int_eq p.c q.c && int_eq p.d q.d))) = c.eq.ensures in
    let d = Decides-same p q in
    ((λ t. d.0 (sym e ∙ t)), (λ s. e ∙ d.1 s))
