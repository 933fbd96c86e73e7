use Rattle.std.proofs.Common.{rules, ◌≡◌, ◌+◌, ◌<◌, ◌^◌, ◌++◌, ◌∷◌, [], ℕ, List, Bool, length, map, take, get_or, ap, sym, refl, ◌∙◌, arith}
use Rattle.std.proofs.Math.Path.{ap₂}
use Rattle.std.proofs.Math.Seq.{take-length}
use Rattle.std.proofs.lemmas.List.{map_more, length-map}
use Rattle.ring_omega.specs.declared.quad.Quad.{Quad}
use Rattle.ring_omega.specs.Ring.{one_quad}
use Rattle.bit_lists.specs.Lists.{all_lists}
use Rattle.bit_lists.proofs.Places.{listed, length-all_lists}
use Rattle.comparison.specs.Scalars.{scalar_entry}
use Rattle.comparison.specs.Products.{joined, work_matrix}
use Rattle.dense_matrix.proofs.matrix.DenseMatrix.identity.Goals as goal

pub places-preserved : goal.places-preserved
places-preserved c =
    let n = c.args.qubits in
    let i = c.places.place in
    let f = joined n (scalar_entry one_quad) in
    let lt : i < 2 ^ (n + n) = search rules in
    let here = listed (n + n) i [] lt in
    let within : i < length (all_lists (n + n)) = omega (arith, length-all_lists (n + n)) in
    let pushed : c.push.new.self.items ≡ c.places.entries.items ++ c.scalar_entry.result ∷ [] = search rules in
    pushed ∙ ap₂ (λ l q. l ++ q ∷ []) c.places.invariant (c.scalar_entry.ensures (get_or (all_lists (n + n)) i []) here.0 here.1)
    ∙ sym (map_more f (all_lists (n + n)) i [] within)

-- all entries were pushed
whole : (n i : ℕ) (f : List Bool → Quad) (entries : List Quad) → i ≡ 2 ^ (n + n) → entries ≡ map f (take i (all_lists (n + n))) → entries ≡ map f (all_lists (n + n))
whole n i f entries e h =
    let all : i ≡ length (all_lists (n + n)) = omega (arith, length-all_lists (n + n)) in
    h ∙ ap (λ k. map f (take k (all_lists (n + n)))) all ∙ ap (map f) (take-length (all_lists (n + n)))

pub invariant_of-result : goal.invariant_of-result
invariant_of-result c =
    let n = c.args.qubits in
    let i : c.places.place ≡ 2 ^ (n + n) = search rules in
    let e = whole n c.places.place (joined n (scalar_entry one_quad)) c.places.entries.items i c.places.invariant in
    record {
      few_qubits = c.requires;
      size = ap length e ∙ length-map (all_lists (n + n)) (joined n (scalar_entry one_quad)) ∙ length-all_lists (n + n);
      room = search rules;
    }

pub returns-clause-entries : goal.returns-clause-entries
unfolding work_matrix
returns-clause-entries c =
    let n = c.args.qubits in
    let i : c.places.place ≡ 2 ^ (n + n) = search rules in
    (whole n c.places.place (joined n (scalar_entry one_quad)) c.places.entries.items i c.places.invariant, refl)
