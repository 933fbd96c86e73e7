use Rattle.std.proofs.Common.{◌≡◌, ℕ, List, ◌++◌, get_or, ap, sym, ◌∙◌, subst}
use Rattle.ring_omega.specs.declared.quad.Quad.{Quad}
use Rattle.ring_omega.specs.Ring.{zero_quad}
use Rattle.ring_omega.specs.Lowest.{lowest_form}
use Rattle.bit_lists.specs.Lists.{place_of}
use Rattle.circuit_model.specs.Vector.{at}
use Rattle.amp_printer.specs.declared.verdict.Verdict.{Verdict}
use Rattle.amp_printer.specs.declared.verdict.Verdict.TheVariants.{Scalar, Differs}
use Rattle.comparison.specs.Scalars.{corner, IsScalar, IsFirstDiffering}
use Rattle.comparison.specs.Products.{by_position}
use Rattle.comparison.specs.Verdicts.{IsVerdict}
use Rattle.dense_matrix.specs.Kept.{Entries}
use Rattle.dense_matrix.proofs.Matrices.{corner_is}
use Rattle.dense_matrix.proofs.witness.verdict_of.Goals as goal

-- what is said of the list is said of the matrix that keeps it
seen : (n k : ℕ) (entries kept : List Quad) (m : Entries) (v : Verdict) → entries ≡ kept → record { qubits = n; entries = kept; exponent = k } ≡ m
    → IsVerdict n (by_position (at entries)) k v → IsVerdict m.qubits (by_position (at m.entries)) m.exponent v
seen n k entries kept m v same is h =
    let P : Entries → Type 0 = λ e. IsVerdict e.qubits (by_position (at e.entries)) e.exponent v in
    let Q : List Quad → Type 0 = λ l. IsVerdict n (by_position (at l)) k v in
    subst P is (subst Q same h)

pub returns-in-None : goal.returns-in-None
returns-in-None c =
    let s = c.m.inside in
    let n = s.qubits in
    let entries = c.as_slice-entries.result.now in
    let low = c.lowest-k.result in
    let scalar : IsScalar n (by_position (at entries)) = c.in-None.ensures.first in
    let own : low ≡ lowest_form (corner n (by_position (at entries))) s.exponent = c.lowest-k.ensures.computed ∙ ap (λ q. lowest_form q s.exponent) (sym (corner_is n entries)) in
    seen n s.exponent entries s.entries.items c.args.m.now (Scalar low.0 low.1) c.as_slice-entries.ensures.value c.m.view_is (scalar, own)

pub returns-in-Some : goal.returns-in-Some
returns-in-Some c =
    let s = c.m.inside in
    let n = s.qubits in
    let entries = c.as_slice-entries.result.now in
    let at_place = c.position-row.ensures.place in
    let row = c.position-row.result.0 in
    let col = c.position-row.result.1 in
    let first : IsFirstDiffering n (by_position (at entries)) row col = c.in-Some.ensures.first row col c.position-row.ensures.row c.position-row.ensures.column at_place in
    let value : c.lowest.result ≡ lowest_form (by_position (at entries) row col) s.exponent =
    c.lowest.ensures.computed ∙ ap (λ i. lowest_form (get_or entries i zero_quad) s.exponent) (sym at_place) in
    let own : c.lowest-in-Some.result ≡ lowest_form (corner n (by_position (at entries))) s.exponent =
    c.lowest-in-Some.ensures.computed ∙ ap (λ q. lowest_form q s.exponent) (sym (corner_is n entries)) in
    seen n s.exponent entries s.entries.items c.args.m.now (Differs row col c.lowest.result c.lowest-in-Some.result) c.as_slice-entries.ensures.value c.m.view_is (first, value, own)
