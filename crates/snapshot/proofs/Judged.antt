-- What is built from a snapshot's numbers is that snapshot, and what has the text of one is one.
use Rattle.std.proofs.Common.{◌≡◌, ℕ, ◌-◌, ◌<◌, ◌≤◌, max, List, [], ◌∷◌, ◌++◌, map, length, get_or, Option, Some, None, is_some, refl, sym, ◌∙◌, ap, subst, arith}
use Rattle.std.proofs.lemmas.Bool.{false≢true}
use Rattle.std.proofs.lemmas.Option.{same_Some}
use Rattle.std.proofs.lemmas.List.{length-map, map-append}
use Rattle.std.proofs.lemmas.List.Elements.{All-cons, All-nil}
use Rattle.bit_lists.specs.Orders.{IsOrder}
use Rattle.amp_dense.specs.Rules.{Settings}
use Rattle.diagram_model.specs.Functions.{Function}
use Rattle.diagram_model.specs.Stores.{Diagram, IsSound, held, function_of}
use Rattle.node_store.specs.declared.node.Node.{Node}
use Rattle.ring_omega.proofs.RingLemmas.{quad_eq}
use Rattle.slice_vec.specs.Slices.{bit_node, digits_of}
use Rattle.slice_quad.specs.declared.coord.Coord.{Coord}
use Rattle.slice_quad.specs.declared.coord.Coord.TheVariants.{A, B, C, D}
use Rattle.slice_quad.specs.declared.four.Four.{Four}
use Rattle.slice_quad.specs.declared.quad.SliceQuad.{SliceQuad}
use Rattle.slice_quad.specs.Bits.{bits_of}
use Rattle.slice_quad.specs.Fields.{numbers}
use Rattle.slice_quad.specs.Fours.{nodes_of, digits_in}
use Rattle.slice_quad.specs.Turns.{coordinate}
use Rattle.slice_quad.specs.Vectors.{FitsWidth, Stands, vector_in}
use Rattle.slice_quad.proofs.Narrow.{length_fits}
use Rattle.slice_quad.proofs.StepCalls.{digits_vector, whole_of}
use Rattle.snapshot.specs.Numbers.{number_in, never}
use Rattle.snapshot.specs.Snapshots.{Snapshot, IsSnapshot, ReadsFirst, bits_in, all_bits, functions_in, nodes_in, sheet_of, snapshot_of, snapshot_text}
use Rattle.snapshot.specs.Private.{functions}
use Rattle.snapshot.specs.Reading.{numerals, Spells, HasShape}
use Rattle.snapshot.specs.Making.{node_at, nodes_at, AreThere}
use Rattle.snapshot.specs.Loading.{IsTextOf, snapshot_in}
use Rattle.snapshot.specs.Judging.{AreCut, ArePartsOf, bit_numbers, IsNarrow, IsReduced, IsBuilt, IsJudged}
use Rattle.snapshot.specs.declared.shape.Shape.{Shape}
use Rattle.snapshot.specs.declared.loaded.Loaded.{Loaded}
use Rattle.snapshot.proofs.Listed.{AllReads, AllKnown}
use Rattle.snapshot.proofs.SnapshotLines.{number_below, number_function, all_bits_read, bits_known}
use Rattle.snapshot.proofs.Rebuilding.{function_reads, functions_read, node_function}
use Rattle.snapshot.proofs.Fitting.{bits_tell, vector_told, snapshot_told}
use Rattle.snapshot.proofs.Shapes.{spelled_shape, spelled_parts, one_shape, shape_for}
use Rattle.snapshot.proofs.Whole.{all_bits_are}

-- ---- bits by their numbers
module _ (d : Diagram) (nodes : List Node) (k : ℕ) (fs : List Function) (told : functions d (numbers nodes) ≡ fs) where
  long : length fs ≡ length nodes
  long = sym (ap length told) ∙ length-map (numbers nodes) (function_of d) ∙ length-map nodes (λ (n : Node). n.0)

  pub numbers_there : (gs : List Function) → AllKnown k fs gs → AreThere nodes (map (number_in k fs) gs)
  numbers_there [] known = All-nil (λ i. i < length nodes)
  numbers_there (g ∷ gs) known =
      All-cons (λ i. i < length nodes) (number_in k fs g) (map (number_in k fs) gs) (let less = number_below k fs g known.0 in omega (arith, less, long)) (numbers_there gs known.1)

  numbers_function : (gs : List Function) → AllReads k fs → AllReads k gs → AllKnown k fs gs → functions d (nodes_at nodes (map (number_in k fs) gs)) ≡ gs
  numbers_function [] all reads known = refl
  numbers_function (g ∷ gs) all reads known =
      let c = number_in k fs g in
      let less : c < length nodes = (let below = number_below k fs g known.0 in omega (arith, below, long)) in
      let one : function_of d (node_at nodes c) ≡ g = sym (node_function d nodes c less) ∙ ap (λ l. get_or l c never) told ∙ number_function k fs g never all reads.0 known.0 in
      ap (λ f. f ∷ functions d (nodes_at nodes (map (number_in k fs) gs))) one ∙ ap (λ l. g ∷ l) (numbers_function gs all reads.1 known.1)

all_numbers : (s : Snapshot) → bit_numbers (sheet_of s) ≡ map (number_in (length s.order) (functions_in s)) (all_bits s)
all_numbers s =
    let f = number_in (length s.order) (functions_in s) in
    sym (map-append f (bits_in s A ++ bits_in s B ++ bits_in s C) (bits_in s D) ∙ ap (λ l. l ++ map f (bits_in s D)) (map-append f (bits_in s A ++ bits_in s B) (bits_in s C) ∙ ap (λ l. l ++ map f (bits_in s C)) (map-append f (bits_in s A) (bits_in s B))))

-- each number of a snapshot's bits is that of a node
pub bits_there : (d : Diagram) (s : Snapshot) (nodes : List Node) (bits : List ℕ) → IsSnapshot s → functions d (numbers nodes) ≡ functions_in s → bits ≡ bit_numbers (sheet_of s) → AreThere nodes bits
bits_there d s nodes bits h told e =
    subst (AreThere nodes) (sym (e ∙ all_numbers s)) (numbers_there d nodes (length s.order) (functions_in s) told (all_bits s) (bits_known s h))

-- ---- the vector of a store
fits_in : (d : Diagram) (q : SliceQuad) → Stands d q → FitsWidth (length q.four.a) (vector_in d q.four)
fits_in d q h A x = length_fits d q.four.a (length q.four.a) (h.integers A).some (omega arith) x
fits_in d q h B x = (let e = q.width_b in length_fits d q.four.b (length q.four.a) (h.integers B).some (omega (arith, e)) x)
fits_in d q h C x = (let e = q.width_c in length_fits d q.four.c (length q.four.a) (h.integers C).some (omega (arith, e)) x)
fits_in d q h D x = (let e = q.width_d in length_fits d q.four.d (length q.four.a) (h.integers D).some (omega (arith, e)) x)

reads_first : (d : Diagram) (q : SliceQuad) → IsSound d → Stands d q → ReadsFirst (length d.order) (vector_in d q.four)
unfolding bits_of digits_in digits_of
reads_first d q sound h x y same = quad_eq (vector_in d q.four x) (vector_in d q.four y) (at A) (at B) (at C) (at D)
  where
    w : ℕ
    w = length q.four.a

    at : (z : Coord) → coordinate z (vector_in d q.four x) ≡ coordinate z (vector_in d q.four y)
    at z =
        let fx = fits_in d q h z x in
        let fy = fits_in d q h z y in
        let bits = digits_vector d (length q.four.a) q.four (whole_of d q h q.width_b q.width_c q.width_d) in
        bits_tell (length q.four.a - 1) (coordinate z (vector_in d q.four x)) (coordinate z (vector_in d q.four y)) (record { low = fx.low; high = fx.high }) (record { low = fy.low; high = fy.high })
        (λ i le. ap (λ b. b z i x) bits ∙ function_reads d (bit_node (nodes_of q.four z) i) sound x y same ∙ sym (ap (λ b. b z i y) bits))

-- ---- what is built is the snapshot whose numbers it is built from
pub built_is : (d : Diagram) (s : Snapshot) (p : Shape) (q : SliceQuad) (f : Four) (nodes : List Node) (lines bits : List ℕ) → IsSound d → ArePartsOf s p d.order lines bits → Stands d q → functions d (numbers nodes) ≡ functions_in s
    → q.four ≡ f → f.a ++ f.b ++ f.c ++ f.d ≡ nodes_at nodes bits → length f.a ≡ p.width → q.exponent ≡ p.exponent → snapshot_of d q ≡ s
built_is d s p q f nodes lines bits sound h stands told same whole wide exponent =
    let four : q.four.a ++ q.four.b ++ q.four.c ++ q.four.d ≡ nodes_at nodes bits = ap (λ (g : Four). g.a ++ g.b ++ g.c ++ g.d) same ∙ whole in
    let width : length q.four.a ≡ p.width = ap (λ (g : Four). length g.a) same ∙ wide in
    let t = snapshot_of d q in
    let k = length s.order in
    let fs = functions_in s in
    let reads : AllReads k fs = subst (AllReads k) told (subst (λ o. AllReads (length o) (functions d (numbers nodes))) h.order (functions_read d (numbers nodes) sound)) in
    let all : all_bits t ≡ all_bits s = all_bits_are d q (whole_of d q stands q.width_b q.width_c q.width_d) ∙ ap (functions d) (four ∙ ap (nodes_at nodes) (h.bits ∙ all_numbers s))
    ∙ numbers_function d nodes k fs told (all_bits s) reads (all_bits_read s h.snapshot) (bits_known s h.snapshot) in
    let ew : t.width ≡ s.width = width ∙ h.width in
    let least = h.snapshot.least_width in
    snapshot_told t s h.order (exponent ∙ h.exponent) ew (vector_told t s ew (omega (arith, least)) (fits_in d q stands) h.snapshot.fits all)

-- ---- what has the text of a snapshot is one
is_snapshot : (d : Diagram) (q : SliceQuad) → IsSound d → Stands d q → length d.order ≤ 64 → q.exponent ≤ 1000000 → IsNarrow (snapshot_of d q) → IsReduced (snapshot_of d q) → nodes_in (snapshot_of d q) ≤ held d → IsSnapshot (snapshot_of d q)
is_snapshot d q sound stands few exponent narrow reduced nodes = record {
  few = few;
  order = record { once = sound.diagram.order; all = sound.all };
  reads = reads_first d q sound stands;
  exponent = exponent;
  settled = reduced;
  least_width = q.least;
  greatest_width = q.greatest;
  fits = fits_in d q stands;
  narrow = narrow;
  nodes = (let a = sound.few in let b = sound.most in omega (arith, nodes, a, b));
}

pub is_judged : (r : Settings) (text ns : List ℕ) (l : Loaded) → ns ≡ numerals text → IsBuilt r ns l → IsNarrow (snapshot_in l) → IsReduced (snapshot_in l) → text ≡ snapshot_text (snapshot_in l) → nodes_in (snapshot_in l) ≤ held l.diagrams.store → IsJudged r text l
is_judged r text ns l e h narrow reduced same nodes =
    let s = snapshot_in l in
    let is = is_snapshot l.diagrams.store l.quad h.sound.store h.stands h.few h.exponent narrow reduced nodes in
    let count : h.shape.nodes ≡ nodes_in s = ap (λ (p : Shape). p.nodes) (one_shape ns h.shape (shape_for s) h.has (spelled_shape ns s (is, e ∙ ap numerals same))) in
    let most = h.held in
    record {
      text = (is, same);
      qubits = h.qubits;
      sound = h.sound;
      stands = h.stands;
      kept = h.kept;
      limit = h.limit ∙ ap (max r.nodes) count;
      held = omega (arith, count, most, nodes);
    }

-- the snapshot of the text is the one that was built
pub judged_same : (r : Settings) (text ns : List ℕ) (l : Loaded) (s : Snapshot) → ns ≡ numerals text → IsBuilt r ns l → IsTextOf text s → snapshot_in l ≡ s
judged_same r text ns l s e h is = h.same s (is.0, e ∙ ap numerals is.1)

pub spells_text : (text ns : List ℕ) (s : Snapshot) → ns ≡ numerals text → IsTextOf text s → Spells ns s
spells_text text ns s e is = (is.0, e ∙ ap numerals is.1)

pub judged_narrow : (r : Settings) (text ns : List ℕ) (l : Loaded) (s : Snapshot) → ns ≡ numerals text → IsBuilt r ns l → IsTextOf text s → IsNarrow (snapshot_in l)
judged_narrow r text ns l s e h is = subst IsNarrow (sym (judged_same r text ns l s e h is)) is.0.narrow

pub judged_reduced : (r : Settings) (text ns : List ℕ) (l : Loaded) (s : Snapshot) → ns ≡ numerals text → IsBuilt r ns l → IsTextOf text s → IsReduced (snapshot_in l)
judged_reduced r text ns l s e h is = subst IsReduced (sym (judged_same r text ns l s e h is)) is.0.settled

pub judged_text : (r : Settings) (text ns : List ℕ) (l : Loaded) (s : Snapshot) → ns ≡ numerals text → IsBuilt r ns l → IsTextOf text s → text ≡ snapshot_text (snapshot_in l)
judged_text r text ns l s e h is = is.1 ∙ ap snapshot_text (sym (judged_same r text ns l s e h is))

-- the parts of the numbers of a snapshot, with the order that was made of them
pub parts_for : (ns : List ℕ) (p : Shape) (os ls bs order made : List ℕ) (s : Snapshot) (r : Option (List ℕ)) → HasShape ns p → AreCut ns p os ls bs → r ≡ Some order → (IsOrder os → r ≡ Some os) → made ≡ order → Spells ns s → ArePartsOf s p made ls bs
parts_for ns p os ls bs order made s r has cut some is e h =
    let parts = spelled_parts ns p os ls bs s h has cut in
    let same : order ≡ os = same_Some order os (sym some ∙ is (subst IsOrder (sym parts.order) h.0.order)) in
    subst (λ o. ArePartsOf s p o ls bs) (sym (e ∙ same)) parts

-- they are an order
pub no_order : (ns : List ℕ) (p : Shape) (os ls bs : List ℕ) (s : Snapshot) (r : Option (List ℕ)) → HasShape ns p → AreCut ns p os ls bs → r ≡ None → (IsOrder os → r ≡ Some os) → Spells ns s → ⊥
no_order ns p os ls bs s r has cut none is h =
    let parts = spelled_parts ns p os ls bs s h has cut in
    false≢true (ap is_some (sym none ∙ is (subst IsOrder (sym parts.order) h.0.order)))
