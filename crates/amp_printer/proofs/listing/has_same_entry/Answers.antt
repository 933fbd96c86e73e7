use Rattle.std.proofs.Common.{◌≡◌, ◌&&◌, true, sym, ◌∙◌}
use Rattle.std.specs.Ordering.{int_eq}
use Rattle.std.proofs.lemmas.Bool.{and_parts}
use Rattle.std.proofs.lemmas.Bool.Decides.{Decides-int_eq}
use Rattle.ring_omega.specs.declared.quad.Quad.{Quad}
use Rattle.ring_omega.proofs.RingLemmas.{quad_eq}
use Rattle.amp_printer.proofs.listing.has_same_entry.Goals as goal

-- numbers with equal coordinates are one number
same_quad : (p q : Quad) → (int_eq p.a q.a && (int_eq p.b q.b && (int_eq p.c q.c && int_eq p.d q.d))) ≡ true → p ≡ q
same_quad p q t =
    let h = and_parts (int_eq p.a q.a) (int_eq p.b q.b && (int_eq p.c q.c && int_eq p.d q.d)) t in
    let i = and_parts (int_eq p.b q.b) (int_eq p.c q.c && int_eq p.d q.d) h.1 in
    let j = and_parts (int_eq p.c q.c) (int_eq p.d q.d) i.1 in
    quad_eq p q ((Decides-int_eq p.a q.a).0 h.0) ((Decides-int_eq p.b q.b).0 i.0) ((Decides-int_eq p.c q.c).0 j.0) ((Decides-int_eq p.d q.d).0 j.1)

pub returns-then-eq-clause-entry : goal.returns-then-eq-clause-entry
returns-then-eq-clause-entry c = λ _. same_quad c.args.before.now.entry c.args.after.now.entry (sym c.eq.ensures ∙ c.if-eq.true)
