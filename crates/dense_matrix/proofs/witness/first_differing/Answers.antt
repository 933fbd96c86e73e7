use Rattle.std.proofs.Common.{◌≡◌, ◌+◌, ◌*◌, ◌<◌, ◌^◌, ◌++◌, ℕ, Bool, false, List, length, get_or, replicate, ap, refl, sym, ◌∙◌, subst, arith, IsTrue}
use Rattle.std.proofs.Math.Path.{ap₂}
use Rattle.std.proofs.lemmas.List.{length-append, length-replicate}
use Rattle.ring_omega.specs.declared.quad.Quad.{Quad}
use Rattle.ring_omega.specs.Ring.{zero_quad}
use Rattle.bit_lists.specs.Lists.{place_of}
use Rattle.bit_lists.proofs.Places.{place_of-below, place_of-zeros}
use Rattle.bit_lists.proofs.OrderLemmas.{before-place}
use Rattle.circuit_model.specs.Vector.{at}
use Rattle.comparison.specs.Scalars.{scalar_entry, corner}
use Rattle.comparison.specs.Products.{joined, by_position}
use Rattle.comparison.proofs.Working.{take-joined, drop-joined}
use Rattle.comparison.proofs.Positions.{joined-before}
use Rattle.dense_matrix.proofs.Matrices.{corner_is}
use Rattle.dense_matrix.proofs.witness.first_differing.Goals as goal

long : (n : ℕ) (r c : List Bool) → length r ≡ n → length c ≡ n → length (r ++ c) ≡ n + n
long n r c lr lc = length-append r c ∙ ap₂ (λ i j. i + j) lr lc

-- an entry as in the first number times the identity is as in the corner times it
scalar_is : (n : ℕ) (entries : List Quad) (q : Quad) (r c : List Bool) → q ≡ get_or entries 0 zero_quad → length r ≡ n → joined n (scalar_entry q) (r ++ c) ≡ scalar_entry (corner n (by_position (at entries))) r c
scalar_is n entries q r c e lr =
    ap₂ (scalar_entry q) (take-joined n r c lr) (drop-joined n r c lr) ∙ ap (λ p. scalar_entry p r c) (e ∙ sym (corner_is n entries))

no : (b : Bool) → b ≡ false → IsTrue b → ⊥
no b e t = cc

pub returns-then-not-is_same-clause-first : goal.returns-then-not-is_same-clause-first
returns-then-not-is_same-clause-first c = λ r d lr ld at'.
    let n = c.args.qubits in
    let entries = c.args.entries.now in
    let first = get_or entries 0 zero_quad in
    record {
      row_long = lr;
      column_long = ld;
      differs = λ e. no c.is_same.result c.if-not-is_same.true
          (c.is_same.ensures.1 (sym (ap (λ i. get_or entries i zero_quad) at') ∙ e ∙ sym (scalar_is n entries first r d refl lr) ∙ sym (c.scalar_entry.ensures (r ++ d) (long n r d lr ld) at')));
      before = λ s e ls le earlier.
          let before = before-place (s ++ e) (r ++ d) (long n s e ls le ∙ sym (long n r d lr ld)) (joined-before s e r d (ls ∙ sym lr) earlier) in
          c.places.invariant (s ++ e) (long n s e ls le) (subst (λ k. place_of (s ++ e) < k) at' before) ∙ scalar_is n entries first s e refl ls;
    }

pub returns-clause-first : goal.returns-clause-first
returns-clause-first c = λ r d lr ld.
    let n = c.args.qubits in
    let entries = c.args.entries.now in
    let below : place_of (r ++ d) < 2 ^ (n + n) = subst (λ k. place_of (r ++ d) < 2 ^ k) (long n r d lr ld) (place_of-below (r ++ d)) in
    let within : place_of (r ++ d) < c.places.place = (let size = c.requires.size in let past = c.places-test.false in omega arith) in
    c.places.invariant (r ++ d) (long n r d lr ld) within ∙ scalar_is n entries (get_or entries 0 zero_quad) r d refl lr
