use Rattle.std.proofs.Common.{rules, Vec, Global, ◌≡◌, ◌+◌, ◌++◌, [], ℕ, List, true, false, map, take, drop, length, ap, sym, refl, ◌∙◌, subst, arith, IsTrue}
use Rattle.std.proofs.Math.Path.{ap₂}
use Rattle.std.proofs.Math.Seq.{drop-length, take-length}
use Rattle.std.proofs.lemmas.List.{append-nil}
use Rattle.ring_omega.specs.declared.quad.Quad.{Quad}
use Rattle.bit_lists.specs.Lists.{all_lists}
use Rattle.gate_set.specs.Matrix.{half_power_of}
use Rattle.circuit_model.specs.Working.{Scaled, FitsWidth, halved}
use Rattle.comparison.specs.Products.{raw_matrix, step_matrix}
use Rattle.comparison.specs.Sides.{step_of}
use Rattle.dense_matrix.specs.Kept.{Entries, IsMatrix}
use Rattle.comparison.proofs.TurnLemmas.{gate_of-step_of}
use Rattle.dense_matrix.proofs.Matrices.{raw-same, raw-list, fits-same, step_matrix-exponent}
use Rattle.dense_matrix.proofs.matrix.DenseMatrix.multiply.Goals as goal

pub returns-then-not-write_raw-clause-fits : goal.returns-then-not-write_raw-clause-fits
returns-then-not-write_raw-clause-fits c =
    let s = c.self.inside in
    let n = s.qubits in
    let st = step_of c.args.side c.args.gate.now in
    let P : Entries → Type 0 = λ e. (w : Scaled) → IsMatrix e w → (IsTrue false → FitsWidth (e.qubits + e.qubits) c.args.width (raw_matrix e.qubits w st).entries) × (FitsWidth (e.qubits + e.qubits) c.args.width (raw_matrix e.qubits w st).entries → IsTrue false) in
    subst P c.self.view_is
    (λ w h. (
      (λ t. (let clash : false ≡ true = t in absurd cc)),
      (λ fits.
          let e = c.as_slice.ensures.value ∙ h.0 in
          let t : c.write_raw.result ≡ true = c.write_raw.ensures.fits.1 (fits-same (n + n) c.args.width _ _ (λ x len. sym (raw-same n w c.as_slice.result.now st x e len)) fits) in
          let f = c.if-not-write_raw.true in
          sym f ∙ t),
    ))

pub returns-clause-fits : goal.returns-clause-fits
returns-clause-fits c =
    let s = c.self.inside in
    let n = s.qubits in
    let st = step_of c.args.side c.args.gate.now in
    let P : Entries → Type 0 = λ e. (w : Scaled) → IsMatrix e w → (IsTrue true → FitsWidth (e.qubits + e.qubits) c.args.width (raw_matrix e.qubits w st).entries) × (FitsWidth (e.qubits + e.qubits) c.args.width (raw_matrix e.qubits w st).entries → IsTrue true) in
    subst P c.self.view_is
    (λ w h. (
      (λ t.
          let e = c.as_slice.ensures.value ∙ h.0 in
          fits-same (n + n) c.args.width _ _ (λ x len. raw-same n w c.as_slice.result.now st x e len) (c.write_raw.ensures.fits.0 c.if-not-write_raw.false)),
      (λ fits. refl),
    ))

-- the whole list is written
whole : (len : ℕ) (fresh old : List Quad) → length fresh ≡ length old → len ≡ length old → take len (fresh ++ drop (length fresh) old) ≡ fresh
whole len fresh old e f =
    let none : drop (length fresh) old ≡ [] = ap (λ k. drop k old) e ∙ drop-length old in
    ap (λ l. take len (fresh ++ l)) none ∙ ap (take len) (append-nil fresh) ∙ ap (λ k. take k fresh) (f ∙ sym e) ∙ take-length fresh

pub returns-clause-next : goal.returns-clause-next
returns-clause-next c = λ _.
    let s = c.self.inside in
    let n = s.qubits in
    let st = step_of c.args.side c.args.gate.now in
    let fresh = c.write_raw.new.next in
    let done = c.halve_shared-self-inside.new.entries in
    let length_kept : length fresh ≡ length s.spare.items = search rules in
    let full : s.spare.len ≡ length s.spare.items = omega arith in
    let written = whole s.spare.len fresh s.spare.items length_kept full in
    let seen : c.as_mut_slice-2.result.now ≡ fresh = c.as_mut_slice-2.ensures.value ∙ written in
    let done_length : length done ≡ length c.as_mut_slice-2.result.now = search rules in
    let power : c.from.result ≡ half_power_of c.args.gate.now.kind = c.from.ensures ∙ c.half_power.ensures.value in
    let x : c.swap.new.x.items ≡ done =
    ap (λ (v : Vec Quad Global). v.items) c.swap.ensures.x_after
    ∙ ap (λ l. take s.spare.len (done ++ drop (length done) l)) written
    ∙ whole s.spare.len done fresh (done_length ∙ ap length seen) (full ∙ sym length_kept) in
    let P : Entries → Type 0 = λ e. (w : Scaled) → IsMatrix e w → (c.swap.new.x.items ≡ map (step_matrix e.qubits w st).entries (all_lists (n + n))) × (c.halve_shared-self-inside.result ≡ (step_matrix e.qubits w st).exponent) in
    subst P c.self.view_is
    (λ w h.
    let e = c.as_slice.ensures.value ∙ h.0 in
    let raw : fresh ≡ map (raw_matrix n w st).entries (all_lists (n + n)) = c.write_raw.ensures.raw c.if-not-write_raw.false ∙ raw-list n w c.as_slice.result.now st e in
    let exponent : s.exponent + c.from.result ≡ (raw_matrix n w st).exponent =
    ap₂ (λ i j. i + j) h.1 (power ∙ ap (λ g. half_power_of g.kind) (sym (gate_of-step_of c.args.side c.args.gate.now))) in (
      x ∙ c.halve_shared-self-inside.ensures.entries (n + n) (raw_matrix n w st).entries (seen ∙ raw)
          ∙ ap (λ k. map (halved (n + n) (raw_matrix n w st).entries k).entries (all_lists (n + n))) exponent,
      c.halve_shared-self-inside.ensures.exponent (n + n) (raw_matrix n w st).entries (seen ∙ raw) ∙ ap (λ k. (halved (n + n) (raw_matrix n w st).entries k).exponent) exponent,
    ))

pub returns-clause-exponent : goal.returns-clause-exponent
returns-clause-exponent c = λ w h.
    let n = c.args.self.now.qubits in
    let st = step_of c.args.side c.args.gate.now in
    let most = step_matrix-exponent n w st in
    let is = (returns-clause-next c refl w h).1 in
    omega (arith, h.1)
