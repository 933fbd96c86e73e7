use Rattle.std.proofs.Common.{◌≡◌, ◌+◌, ◌<◌, ◌^◌, ◌⊎◌, inl, inr, ◌++◌, ◌∷◌, Bool, map, take, drop, [], ℕ, List, length, get_or, arith, ap, sym, refl, ◌∙◌, subst, set, zero, suc}
use Rattle.std.proofs.Math.Path.{ap₂}
use Rattle.ring_omega.specs.declared.quad.Quad.{Quad}
use Rattle.std.proofs.lemmas.List.{map_more, length-drop, length-take-le, take-append-drop}
use Rattle.std.proofs.Math.Seq.{take-length}
use Rattle.bit_lists.specs.Lists.{all_lists, place_of}
use Rattle.bit_lists.proofs.Places.{listed, length-all_lists, get_or-all_lists, place_of-below}
use Rattle.circuit_model.specs.Vector.{at}
use Rattle.circuit_model.specs.Working.{QuadFits}
use Rattle.comparison.specs.Products.{times_step, joined, by_position}
use Rattle.comparison.specs.Sides.{step_of}
use Rattle.dense_matrix.proofs.step.write_raw.Goals as goal

-- the row and the column of the list at a place
record Parted (n : ℕ) (i : ℕ) (x : List Bool) : Type 0 where
  row_long : length (take n x) ≡ n
  column_long : length (drop n x) ≡ n
  at_place : place_of (take n x ++ drop n x) ≡ i

parted : (n i : ℕ) (x : List Bool) → length x ≡ n + n → place_of x ≡ i → Parted n i x
parted n i x len e = record {
  row_long = length-take-le n x (omega arith);
  column_long = length-drop n x ∙ omega arith;
  at_place = ap place_of (take-append-drop n x) ∙ e;
}

pub returns-in_default-clause-fits : goal.returns-in_default-clause-fits
returns-in_default-clause-fits c =
    let n = c.args.qubits in
    let i = c.places.place in
    let lt : i < 2 ^ (n + n) = omega (arith, c.requires.size) in
    let x = get_or (all_lists (n + n)) i [] in
    let here = listed (n + n) i [] lt in
    let p = parted n i x here.0 here.1 in
    let value = c.entry_after.ensures (take n x) (drop n x) p.row_long p.column_long (c.row_place-row.ensures.value (take n x) (drop n x) p.row_long p.column_long p.at_place)
    (c.column_place-column.ensures.value (take n x) (drop n x) p.row_long p.column_long p.at_place) in
    (λ t. cc, λ all. absurd (c.in_default.ensures (subst (QuadFits c.args.width) (sym value) (all x here.0))))

less_or_last : (k i : ℕ) → k < i + 1 → (k < i) ⊎ (k ≡ i)
less_or_last k i h = grind arith

pub places-preserved : goal.places-preserved
places-preserved c =
    let n = c.args.qubits in
    let i = c.places.place in
    let f = joined n (times_step (step_of c.args.side c.args.gate.now) (by_position (at c.args.state.now))) in
    let lt : i < 2 ^ (n + n) = omega (arith, c.requires.size) in
    let x = get_or (all_lists (n + n)) i [] in
    let here = listed (n + n) i [] lt in
    let p = parted n i x here.0 here.1 in
    let entry = c.entry_after.ensures (take n x) (drop n x) p.row_long p.column_long (c.row_place-row.ensures.value (take n x) (drop n x) p.row_long p.column_long p.at_place)
    (c.column_place-column.ensures.value (take n x) (drop n x) p.row_long p.column_long p.at_place) in
    let within : i < length (all_lists (n + n)) = omega (arith, length-all_lists (n + n)) in
    let room : i < length c.places.next = omega (arith, c.requires.room) in
    let value : c.in-Some.entry ≡ f x = c.in-Some.ensures.1 ∙ entry in
    let fits : QuadFits c.args.width (f x) = subst (QuadFits c.args.width) entry c.in-Some.ensures.0 in
    record {
      raw =
          ap (λ k. take k (set c.places.next i c.in-Some.entry)) (let e : i + 1 ≡ suc i = omega arith in e)
          ∙ take_one_more i c.places.next c.in-Some.entry room
          ∙ ap₂ (λ l q. l ++ q ∷ []) c.places.invariant.raw value
          ∙ sym (map_more f (all_lists (n + n)) i [] within);
      fits = λ k below. elim (less_or_last k i below) [
        | inl before ↦ c.places.invariant.fits k before
        | inr last ↦ subst (λ (j : ℕ). QuadFits c.args.width (f (get_or (all_lists (n + n)) j []))) (sym last) fits
      ];
    }
  where
    take_one_more : (i : ℕ) (next : List Quad) (q : Quad) → i < length next → take (suc i) (set next i q) ≡ take i next ++ q ∷ []
    take_one_more i [] q lt = absurd (omega arith)
    take_one_more zero (p ∷ next) q lt = refl
    take_one_more (suc i) (p ∷ next) q lt = ap (λ l. p ∷ l) (take_one_more i next q (omega arith))

pub returns-clause-raw : goal.returns-clause-raw
returns-clause-raw c = λ _.
    let n = c.args.qubits in
    let f = joined n (times_step (step_of c.args.side c.args.gate.now) (by_position (at c.args.state.now))) in
    let i = c.places.place in
    let all : i ≡ length (all_lists (n + n)) = omega (arith, length-all_lists (n + n), c.requires.size) in
    let whole : i ≡ length c.places.next = omega (arith, c.requires.size, c.requires.room) in
    sym (ap (λ k. take k c.places.next) whole ∙ take-length c.places.next)
    ∙ c.places.invariant.raw ∙ ap (λ k. map f (take k (all_lists (n + n)))) all ∙ ap (map f) (take-length (all_lists (n + n)))

pub returns-clause-fits : goal.returns-clause-fits
returns-clause-fits c =
    let n = c.args.qubits in
    let f = joined n (times_step (step_of c.args.side c.args.gate.now) (by_position (at c.args.state.now))) in
    let all : c.places.place ≡ 2 ^ (n + n) = omega (arith, c.requires.size) in (
      λ _ x len.
          let below : place_of x < c.places.place = subst (λ (k : ℕ). place_of x < k) (ap (λ (k : ℕ). 2 ^ k) len ∙ sym all) (place_of-below x) in
          subst (λ y. QuadFits c.args.width (f y)) (get_or-all_lists (n + n) x [] len) (c.places.invariant.fits (place_of x) below),
      λ _. refl,
    )
