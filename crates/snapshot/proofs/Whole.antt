-- The whole text of a vector in a store.
use Rattle.std.proofs.Common.{◌≤◌, ◌≡◌, ℕ, ◌<◌, List, ◌++◌, map, flat_map, drop, length, refl, sym, ◌∙◌, ap, subst, arith}
use Rattle.std.specs.List.{range_with_len}
use Rattle.std.proofs.lemmas.List.{ext_get_or, get_or-map, get_or_default, length-map, map-append, drop-map}
use Rattle.std.proofs.lemmas.List.FromFn.{length-map-range_with_len, get_or-map-range_with_len}
use Rattle.bit_lists.proofs.Variables.{some_at}
use Rattle.diagram_model.specs.Functions.{Function}
use Rattle.diagram_model.specs.Stores.{held, Diagram, IsLive, IsSound, function_of}
use Rattle.slice_vec.specs.Slices.{StandsIn, sign_node, digits_of}
use Rattle.slice_quad.specs.declared.coord.Coord.{Coord}
use Rattle.slice_quad.specs.declared.coord.Coord.TheVariants.{A, B, C, D}
use Rattle.slice_quad.specs.declared.quad.SliceQuad.{SliceQuad}
use Rattle.slice_quad.specs.Fours.{nodes_of, digits_in, AreIntegers}
use Rattle.slice_quad.specs.Vectors.{Stands}
use Rattle.slice_quad.proofs.StepCalls.{digits_vector, whole_of}
use Rattle.snapshot.specs.Numbers.{numbered, number_in, line_of, never}
use Rattle.snapshot.specs.Sheets.{node_text, head_text, bits_text, sheet_text}
use Rattle.snapshot.specs.Snapshots.{Snapshot, bits_in, all_bits, functions_in, nodes_in, snapshot_of, snapshot_text}
use Rattle.snapshot.specs.Private.{Numbered, IsNumbering, functions, lines_text, places_in}
use Rattle.snapshot.proofs.Once.{numbered_few}
use Rattle.snapshot.proofs.Listing.{AreLive, numbers_are, lines_are}
use Rattle.snapshot.proofs.NumberingLemmas.{has_end}

-- the functions of the bits, by place
digits_range : (d : Diagram) (ns : List ℕ) (w : ℕ) → length ns ≡ w → map (digits_of d ns) (range_with_len 0 w) ≡ functions d ns
unfolding digits_of
digits_range d ns w e =
    ext_get_or never (map (digits_of d ns) (range_with_len 0 w)) (functions d ns) (length-map-range_with_len (digits_of d ns) 0 w ∙ sym e ∙ sym (length-map ns (function_of d)))
    (λ i lt.
    let long : i < w = omega (arith, lt, length-map-range_with_len (digits_of d ns) 0 w) in
    let within : i < length ns = omega (arith, long, e) in
    get_or-map-range_with_len (digits_of d ns) 0 w i i never long (omega arith)
    ∙ ap (function_of d) (get_or_default ns i (sign_node ns) 0 within)
    ∙ sym (get_or-map (function_of d) ns i 0 never within))

pub bits_are : (d : Diagram) (q : SliceQuad) (z : Coord) → AreIntegers d (length q.four.a) q.four → bits_in (snapshot_of d q) z ≡ functions d (nodes_of q.four z)
unfolding digits_in
bits_are d q z h =
    ap (λ b. map (b z) (range_with_len 0 (length q.four.a))) (digits_vector d (length q.four.a) q.four h) ∙ digits_range d (nodes_of q.four z) (length q.four.a) (h.width z)

pub all_bits_are : (d : Diagram) (q : SliceQuad) → AreIntegers d (length q.four.a) q.four → all_bits (snapshot_of d q) ≡ functions d (q.four.a ++ q.four.b ++ q.four.c ++ q.four.d)
all_bits_are d q h =
    let s = snapshot_of d q in
    ap (λ l. l ++ bits_in s B ++ bits_in s C ++ bits_in s D) (bits_are d q A h)
    ∙ ap (λ l. functions d q.four.a ++ l ++ bits_in s C ++ bits_in s D) (bits_are d q B h)
    ∙ ap (λ l. functions d q.four.a ++ functions d q.four.b ++ l ++ bits_in s D) (bits_are d q C h)
    ∙ ap (λ l. functions d q.four.a ++ functions d q.four.b ++ functions d q.four.c ++ l) (bits_are d q D h)
    ∙ sym (map-append (function_of d) (q.four.a ++ q.four.b ++ q.four.c) q.four.d ∙ ap (λ l. l ++ functions d q.four.d) (map-append (function_of d) (q.four.a ++ q.four.b) q.four.c ∙ ap (λ l. l ++ functions d q.four.c) (map-append (function_of d) q.four.a q.four.b)))

pub functions_are : (d : Diagram) (q : SliceQuad) (ns : List ℕ) → AreIntegers d (length q.four.a) q.four → functions d ns ≡ numbered (length d.order) d.order (functions d (q.four.a ++ q.four.b ++ q.four.c ++ q.four.d)) → functions_in (snapshot_of d q) ≡ functions d ns
functions_are d q ns h e = ap (numbered (length d.order) d.order) (all_bits_are d q h) ∙ sym e

live_bits : (d : Diagram) (xs : List ℕ) → StandsIn d xs → AreLive d xs
live_bits d xs h m there = let at = some_at xs m there in subst (IsLive d) at.2 (h.live at.0 at.1)

live_drop : (d : Diagram) (ns : List ℕ) → AreLive d ns → AreLive d (drop 2 ns)
live_drop d ns live m there = let at = some_at (drop 2 ns) m there in live m (has_end ns 2 at.0 m at.1 at.2)

-- the text, by the list of functions
text_with : Snapshot → List Function → List ℕ
text_with s fs =
    head_text s.order s.exponent s.width (length (map (line_of (length s.order) s.order fs) (drop 2 fs)))
    ++ flat_map node_text (map (line_of (length s.order) s.order fs) (drop 2 fs))
    ++ bits_text (map (number_in (length s.order) fs) (bits_in s A)) (map (number_in (length s.order) fs) (bits_in s B)) (map (number_in (length s.order) fs) (bits_in s C)) (map (number_in (length s.order) fs) (bits_in s D))

text_is : (s : Snapshot) → snapshot_text s ≡ text_with s (functions_in s)
unfolding snapshot_text sheet_text text_with
text_is s = refl

-- the numbers of a coordinate's bits
coordinate_is : (d : Diagram) (q : SliceQuad) (ns : List ℕ) (z : Coord) → IsSound d → AreLive d ns → AreIntegers d (length q.four.a) q.four → map (number_in (length d.order) (functions d ns)) (bits_in (snapshot_of d q) z) ≡ places_in ns (nodes_of q.four z)
coordinate_is d q ns z s live h =
    ap (map (number_in (length d.order) (functions d ns))) (bits_are d q z h) ∙ numbers_are d ns (nodes_of q.four z) s live (live_bits d (nodes_of q.four z) (h.stands z))

made : (d : Diagram) (q : SliceQuad) (ns : List ℕ) → IsSound d → AreLive d ns → AreIntegers d (length q.four.a) q.four
    → text_with (snapshot_of d q) (functions d ns) ≡ head_text d.order q.exponent (length q.four.a) (length (drop 2 ns)) ++ lines_text d ns (drop 2 ns) ++ bits_text (places_in ns q.four.a) (places_in ns q.four.b) (places_in ns q.four.c) (places_in ns q.four.d)
unfolding text_with
made d q ns s live h =
    let k = length d.order in
    let fs = functions d ns in
    let line = line_of k d.order fs in
    let dropped : drop 2 fs ≡ functions d (drop 2 ns) = drop-map (function_of d) 2 ns in
    let count : length (map line (drop 2 fs)) ≡ length (drop 2 ns) = length-map (drop 2 fs) line ∙ ap length dropped ∙ length-map (drop 2 ns) (function_of d) in
    let lines : flat_map node_text (map line (drop 2 fs)) ≡ lines_text d ns (drop 2 ns) = ap (λ l. flat_map node_text (map line l)) dropped ∙ lines_are d ns (drop 2 ns) s live (live_drop d ns live) in
    let number = map (number_in k fs) in
    let sn = snapshot_of d q in
    ap (λ n. head_text d.order q.exponent (length q.four.a) n ++ flat_map node_text (map line (drop 2 fs)) ++ bits_text (number (bits_in sn A)) (number (bits_in sn B)) (number (bits_in sn C)) (number (bits_in sn D))) count
    ∙ ap (λ t. head_text d.order q.exponent (length q.four.a) (length (drop 2 ns)) ++ t ++ bits_text (number (bits_in sn A)) (number (bits_in sn B)) (number (bits_in sn C)) (number (bits_in sn D))) lines
    ∙ ap (λ l. head_text d.order q.exponent (length q.four.a) (length (drop 2 ns)) ++ lines_text d ns (drop 2 ns) ++ bits_text l (number (bits_in sn B)) (number (bits_in sn C)) (number (bits_in sn D))) (coordinate_is d q ns A s live h)
    ∙ ap (λ l. head_text d.order q.exponent (length q.four.a) (length (drop 2 ns)) ++ lines_text d ns (drop 2 ns) ++ bits_text (places_in ns q.four.a) l (number (bits_in sn C)) (number (bits_in sn D))) (coordinate_is d q ns B s live h)
    ∙ ap (λ l. head_text d.order q.exponent (length q.four.a) (length (drop 2 ns)) ++ lines_text d ns (drop 2 ns) ++ bits_text (places_in ns q.four.a) (places_in ns q.four.b) l (number (bits_in sn D))) (coordinate_is d q ns C s live h)
    ∙ ap (λ l. head_text d.order q.exponent (length q.four.a) (length (drop 2 ns)) ++ lines_text d ns (drop 2 ns) ++ bits_text (places_in ns q.four.a) (places_in ns q.four.b) (places_in ns q.four.c) l) (coordinate_is d q ns D s live h)

-- three pieces are the whole
pub whole_text : (d : Diagram) (q : SliceQuad) (ns order : List ℕ) (width count : ℕ) → IsSound d → Stands d q → AreLive d ns
    → functions d ns ≡ numbered (length d.order) d.order (functions d (q.four.a ++ q.four.b ++ q.four.c ++ q.four.d)) → order ≡ d.order → width ≡ length q.four.a → count ≡ length (drop 2 ns)
    → head_text order q.exponent width count ++ lines_text d ns (drop 2 ns) ++ bits_text (places_in ns q.four.a) (places_in ns q.four.b) (places_in ns q.four.c) (places_in ns q.four.d) ≡ snapshot_text (snapshot_of d q)
whole_text d q ns order width count s stands live e eo ew ec =
    let h = whole_of d q stands q.width_b q.width_c q.width_d in
    let rest = bits_text (places_in ns q.four.a) (places_in ns q.four.b) (places_in ns q.four.c) (places_in ns q.four.d) in
    ap (λ o. head_text o q.exponent width count ++ lines_text d ns (drop 2 ns) ++ rest) eo
    ∙ ap (λ w. head_text d.order q.exponent w count ++ lines_text d ns (drop 2 ns) ++ rest) ew
    ∙ ap (λ n. head_text d.order q.exponent (length q.four.a) n ++ lines_text d ns (drop 2 ns) ++ rest) ec
    ∙ sym (text_is (snapshot_of d q) ∙ ap (text_with (snapshot_of d q)) (functions_are d q ns h e) ∙ made d q ns s live h)

-- a snapshot has no more nodes than are held
pub nodes_few : (d : Diagram) (q : SliceQuad) (s : Numbered) → Stands d q → IsNumbering d s → functions d s.nodes ≡ numbered (length d.order) d.order (functions d (q.four.a ++ q.four.b ++ q.four.c ++ q.four.d)) → nodes_in (snapshot_of d q) ≤ held d
nodes_few d q s stands h e =
    let w = whole_of d q stands q.width_b q.width_c q.width_d in
    let is : functions_in (snapshot_of d q) ≡ functions d s.nodes = functions_are d q s.nodes w e in
    let long : nodes_in (snapshot_of d q) ≡ length (drop 2 s.nodes) = ap (λ l. length (drop 2 l)) is ∙ ap length (drop-map (function_of d) 2 s.nodes) ∙ length-map (drop 2 s.nodes) (function_of d) in
    let few = numbered_few d s h in
    omega (arith, long, few)
