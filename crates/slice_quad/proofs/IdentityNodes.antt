-- The nodes of the identity matrix: three for each qubit.
use Rattle.std.proofs.Common.{◌≡◌, ℕ, zero, suc, ◌+◌, ◌-◌, ◌*◌, ◌<◌, ◌≤◌, Bool, true, false, cond, ◌&&◌, eqb, List, ◌∷◌, length, Option, Some, None, inl, inr, refl, sym, ◌∙◌, ap, arith, subst}
use Rattle.std.proofs.Math.Path.{ap₂}
use Rattle.std.proofs.lemmas.Bool.{cases_eq, cond-false, ne_eqb}
use Rattle.std.specs.List.{range_with_len}
use Rattle.std.proofs.lemmas.List.FromFn.{length-range_with_len}
use mathlib.Core.Path.{fun_ext}
use Rattle.bit_lists.specs.Orders.{has, after}
use Rattle.diagram_model.specs.declared.parts.Parts.{Parts}
use Rattle.diagram_model.specs.Functions.{Assignment, Function, put}
use Rattle.diagram_model.specs.Size.{same_bool}
use Rattle.diagram_model.specs.Nodes.{parts_of, value, IsLiveIn}
use Rattle.diagram_model.specs.Stores.{Diagram, held, IsSound, IsLive, IsAbove, Extends, AddsOnly, IsChoice, function_of, from}
use Rattle.diagram_model.proofs.Canonical.{after-tail, after-head, some_same}
use Rattle.diagram_model.proofs.Values.{value-small}
use Rattle.diagram_model.proofs.Fixing.{ignores_above, put_at, live_from_order}
use Rattle.diagram_model.proofs.Growing.{functions_kept, live_on}
use Rattle.node_store.specs.Makes.{StopMeans}
use Rattle.node_store.specs.declared.node.StoreStop.{StoreStop}
use Rattle.node_store.specs.declared.node.StoreStop.TheVariants.{Full, OutOfMemory}
use Rattle.slice_quad.specs.RowsColumns.{row_equals_column}
use Rattle.slice_quad.specs.IdentityBuilt.{HasNodesFrom, IsDiagonalFrom}
use Rattle.slice_quad.specs.Started.{StartStopIs}
use Rattle.slice_quad.proofs.RowsColumns.{row_equals}
use Rattle.slice_quad.proofs.Starting.{held_one, has_other, held_some}

-- ---- the natural order
-- nothing below its first variable stands in it
range_least : (a l w : ℕ) → has (range_with_len a l) w ≡ true → a ≤ w
unfolding has
range_least a zero w h = cc
range_least a (suc l) w h = elim (cases_eq a w) [
  | inl e ↦ omega (arith, e)
  | inr ne ↦ let on = range_least (a + 1) l w (has_other a w (range_with_len (a + 1) l) ne h) in omega (arith, on)
]

-- greater variables stand below
range_below : (a l v w : ℕ) → a ≤ v → v < w → has (range_with_len a l) w ≡ true → has (after (range_with_len a l) v) w ≡ true
unfolding has after
range_below a zero v w le lt h = cc
range_below a (suc l) v w le lt h =
    let rest = has_other a w (range_with_len (a + 1) l) (λ e. let no : a < a = omega (arith, le, lt, e) in absurd (omega (arith, no))) h in
    elim (cases_eq a v) [
      | inl e ↦ ap (λ k. has k w) (after-head a v (range_with_len (a + 1) l) e) ∙ rest
      | inr ne ↦ ap (λ k. has k w) (after-tail a v (range_with_len (a + 1) l) ne) ∙ range_below (a + 1) l v w (omega (arith, le, ne)) lt rest
    ]

-- and only they
range_greater : (a l v w : ℕ) → has (after (range_with_len a l) v) w ≡ true → v < w
unfolding has after
range_greater a zero v w h = cc
range_greater a (suc l) v w h = elim (cases_eq a v) [
  | inl e ↦ let least = range_least (a + 1) l w (sym (ap (λ k. has k w) (after-head a v (range_with_len (a + 1) l) e)) ∙ h) in omega (arith, e, least)
  | inr ne ↦ range_greater (a + 1) l v w (sym (ap (λ k. has k w) (after-tail a v (range_with_len (a + 1) l) ne)) ∙ h)
]

-- the variable itself, or a greater one
from_least : (l v w : ℕ) → has (v ∷ after (range_with_len 0 l) v) w ≡ true → v ≤ w
from_least l v w h = elim (cases_eq v w) [
  | inl e ↦ omega (arith, e)
  | inr ne ↦ let on = range_greater 0 l v w (has_other v w (after (range_with_len 0 l) v) ne h) in omega (arith, on)
]

-- ---- one node more
-- what a request for a node gives
pub record IsMade (d e : Diagram) (v low high m : ℕ) : Type 0 where
  pub sound : IsSound e
  pub extends : Extends d e
  pub only : AddsOnly d e m
  pub live : IsLiveIn e.slots (from d.order v) m
  pub denotes : IsChoice e v low high m

pub in_order : (d : Diagram) (n u c v : ℕ) → HasNodesFrom d n u c → v < 2 * n → has d.order v ≡ true
in_order d n u c v h lt =
    let size : length d.order ≡ 2 * n = ap (λ (l : List ℕ). length l) h.order ∙ length-range_with_len 0 (2 * n) in
    h.sound.all v (omega (arith, size, lt))

pub stands_above : (d : Diagram) (n u c v m : ℕ) → HasNodesFrom d n u c → v < u → IsLive d m → IsAbove d v m
stands_above d n u c v m h lt (inl small) = inl small
stands_above d n u c v m h lt (inr held) =
    let least = h.below m held.parts held.is in
    let inside : has (range_with_len 0 (2 * n)) held.parts.var ≡ true = ap (λ (o : List ℕ). has o held.parts.var) (sym h.order) ∙ held.below in
    inr (record {
      parts = held.parts;
      is = held.is;
      below = ap (λ (o : List ℕ). has (after o v) held.parts.var) h.order ∙ range_below 0 (2 * n) v held.parts.var (omega arith) (omega (arith, lt, least)) inside;
    })

-- a node for v that is true somewhere, and false there once v is changed, isn't one for a greater variable
not_below : (d e : Diagram) (n u c v low high m : ℕ) (x : Assignment) (b : Bool) (p : Parts) → HasNodesFrom d n u c → IsMade d e v low high m → parts_of d.slots m ≡ Some p → v < p.var
    → value e.slots e.order x m ≡ true → value e.slots e.order (put x v b) m ≡ false → ⊥
unfolding function_of
not_below d e n u c v low high m x b p h made eq lt is_one is_zero =
    let inside : has d.order p.var ≡ true = h.sound.diagram.within m p eq in
    let natural : has (range_with_len 0 (2 * n)) p.var ≡ true = ap (λ (o : List ℕ). has o p.var) (sym h.order) ∙ inside in
    let live : IsLive d m = inr (record { parts = p; is = eq; below = inside }) in
    let under : IsAbove d v m = inr (record {
      parts = p;
      is = eq;
      below = ap (λ (o : List ℕ). has (after o v) p.var) h.order ∙ range_below 0 (2 * n) v p.var (omega arith) lt natural;
    }) in
    let same : (y : Assignment) → value e.slots e.order y m ≡ value d.slots d.order y m = (functions_kept d e h.sound made.sound made.extends).same m live in
    let alike : value d.slots d.order (put x v b) m ≡ value d.slots d.order x m = ap (λ (f : Function). f x) (ignores_above d v m h.sound under b) in
    let clash : true ≡ false = sym is_one ∙ same x ∙ sym alike ∙ sym (same (put x v b)) ∙ is_zero in cc

none_from : (o : Option Parts) (d : Diagram) (m : ℕ) → parts_of d.slots m ≡ o → ((p : Parts) → parts_of d.slots m ≡ Some p → ⊥) → parts_of d.slots m ≡ None
none_from None d m eq h = eq
none_from (Some p) d m eq h = absurd (h p eq)

-- a new node for v is one more
more_nodes : (d e : Diagram) (n u c v low high m : ℕ) (x z : Assignment) → HasNodesFrom d n u c → v ≤ u → IsMade d e v low high m → ((p : Parts) → parts_of d.slots m ≡ Some p → ⊥)
    → value e.slots e.order x m ≡ true → value e.slots e.order z m ≡ false → HasNodesFrom e n v (suc c)
more_nodes d e n u c v low high m x z h le made new is_one is_zero =
    let count : held e ≡ suc (held d) = held_one d e m has_parts.0 made.extends made.only (none_from (parts_of d.slots m) d m refl new) has_parts.1 in
    record {
      sound = made.sound;
      order = made.extends.order ∙ h.order;
      below = below;
      count = count ∙ ap suc h.count;
    }
  where
    has_parts : (p : Parts) × (parts_of e.slots m ≡ Some p) × (v ≤ p.var)
    has_parts = elim made.live [
      | inl small ↦
          let t = value-small e.slots (length e.order) e.order m made.sound.diagram small x in
          let f = value-small e.slots (length e.order) e.order m made.sound.diagram small z in
          let clash : true ≡ false = sym is_one ∙ t ∙ sym f ∙ is_zero in cc
      | inr held ↦ (held.parts, held.is, from_least (2 * n) v held.parts.var (ap (λ (o : List ℕ). has (v ∷ after o v) held.parts.var) (sym h.order) ∙ held.below))
    ]

    below : (q : ℕ) (p : Parts) → parts_of e.slots q ≡ Some p → v ≤ p.var
    below q p eq = elim (made.only q p eq) [
      | inl old ↦ let least = h.below q p old in omega (arith, le, least)
      | inr same ↦
          let e : has_parts.0 ≡ p = some_same has_parts.0 p (sym has_parts.1 ∙ ap (parts_of e.slots) (sym same) ∙ eq) in
          subst (λ (r : Parts). v ≤ r.var) e has_parts.2
    ]

-- ---- values
choice_at : (e : Diagram) (v low high m : ℕ) (y : Assignment) → IsChoice e v low high m → value e.slots e.order y m ≡ cond (y v) (value e.slots e.order y high) (value e.slots e.order y low)
choice_at e v low high m y denotes = denotes y ∙ by_bit (y v)
  where
    by_bit : (b : Bool) → value e.slots e.order y (cond b high low) ≡ cond b (value e.slots e.order y high) (value e.slots e.order y low)
    by_bit true = refl
    by_bit false = refl

never : (e : Diagram) (y : Assignment) → IsSound e → value e.slots e.order y 0 ≡ false
never e y sound = value-small e.slots (length e.order) e.order 0 sound.diagram (omega arith) y

-- a row and a column
by_bits : (a b r : Bool) → cond a (cond b r false) (cond b false r) ≡ same_bool a b && r
by_bits true true true = refl
by_bits true true false = refl
by_bits true false r = refl
by_bits false true r = refl
by_bits false false true = refl
by_bits false false false = refl

one_qubit : (n k : ℕ) (y : Assignment) → k < n → same_bool (y (2 * k)) (y (2 * k + 1)) && row_equals_column (n - (k + 1)) (λ v. y (2 * (k + 1) + v)) ≡ row_equals_column (n - k) (λ v. y (2 * k + v))
unfolding row_equals_column
one_qubit n k y lt =
    let w : Assignment = λ v. y (2 * k + v) in
    let first : y (2 * k) ≡ w 0 = let e : 2 * k ≡ 2 * k + 0 = omega arith in ap y e in
    let further : (λ (v : ℕ). y (2 * (k + 1) + v)) ≡ (λ v. w (suc (suc v))) = fun_ext (λ v. let e : 2 * (k + 1) + v ≡ 2 * k + suc (suc v) = omega arith in ap y e) in
    let count : suc (n - (k + 1)) ≡ n - k = omega (arith, lt) in
    ap₂ (λ a (f : Assignment). same_bool a (y (2 * k + 1)) && row_equals_column (n - (k + 1)) f) first further
    ∙ ap (λ j. row_equals_column j w) count

-- what is made is live
pub made_live : (d e : Diagram) (n u c v low high m : ℕ) → HasNodesFrom d n u c → v < 2 * n → IsMade d e v low high m → IsLive e m
made_live d e n u c v low high m h lt made =
    live_from_order e v m (ap (λ (o : List ℕ). has o v) made.extends.order ∙ in_order d n u c v h lt)
    (subst (λ (o : List ℕ). IsLiveIn e.slots (from o v) m) (sym made.extends.order) made.live)

-- ---- a qubit more
-- the same bit everywhere
abbrev constant : Bool → Assignment
constant t = λ v. t

module _ (d e : Diagram) (n k rest low : ℕ) (h : IsDiagonalFrom d n (k + 1) rest) (within : k < n) (a : IsMade d e (2 * k + 1) rest 0 low) where
  -- the qubits after it are done
  pub rest_constant : (t : Bool) → value d.slots d.order (constant t) rest ≡ true
  rest_constant t = h.is (constant t) ∙ row_equals (n - (k + 1)) (λ v. t) (λ q lt. refl)

  pub rest_next : (y : Assignment) → value e.slots e.order y rest ≡ value d.slots d.order y rest
  rest_next = (functions_kept d e h.nodes.sound a.sound a.extends).same rest h.live

  pub low_value : (y : Assignment) → value e.slots e.order y low ≡ cond (y (2 * k + 1)) false (value d.slots d.order y rest)
  low_value y = choice_at e (2 * k + 1) rest 0 low y a.denotes ∙ ap₂ (λ s t. cond (y (2 * k + 1)) s t) (never e y a.sound) (rest_next y)

  low_true : value e.slots e.order (constant false) low ≡ true
  low_true = low_value (constant false) ∙ rest_constant false

  low_false : value e.slots e.order (put (constant false) (2 * k + 1) true) low ≡ false
  low_false =
      let y : Assignment = put (constant false) (2 * k + 1) true in
      low_value y ∙ ap (λ t. cond t false (value d.slots d.order y rest)) (put_at (constant false) (2 * k + 1) true)

  pub low_live : IsLive e low
  low_live = made_live d e n (2 * (k + 1)) (3 * (n - (k + 1))) (2 * k + 1) rest 0 low h.nodes (omega (arith, within)) a

  pub low_nodes : HasNodesFrom e n (2 * k + 1) (suc (3 * (n - (k + 1))))
  low_nodes =
      more_nodes d e n (2 * (k + 1)) (3 * (n - (k + 1))) (2 * k + 1) rest 0 low (constant false) (put (constant false) (2 * k + 1) true) h.nodes (omega arith) a
      (λ p eq. not_below d e n (2 * (k + 1)) (3 * (n - (k + 1))) (2 * k + 1) rest 0 low (constant false) true p h.nodes a eq (let least = h.nodes.below low p eq in omega (arith, least)) low_true low_false)
      low_true low_false

module _ (d e f : Diagram) (n k rest low high : ℕ) (h : IsDiagonalFrom d n (k + 1) rest) (within : k < n) (a : IsMade d e (2 * k + 1) rest 0 low) (b : IsMade e f (2 * k + 1) 0 rest high) where
  nodes_e : HasNodesFrom e n (2 * k + 1) (suc (3 * (n - (k + 1))))
  nodes_e = low_nodes d e n k rest low h within a

  live_rest : IsLive e rest
  live_rest = live_on d e rest a.extends h.live

  pub high_value : (y : Assignment) → value f.slots f.order y high ≡ cond (y (2 * k + 1)) (value d.slots d.order y rest) false
  high_value y =
      let same : value f.slots f.order y rest ≡ value d.slots d.order y rest = (functions_kept e f a.sound b.sound b.extends).same rest live_rest y ∙ rest_next d e n k rest low h within a y in
      choice_at f (2 * k + 1) 0 rest high y b.denotes ∙ ap₂ (λ s t. cond (y (2 * k + 1)) s t) same (never f y b.sound)

  pub low_next : (y : Assignment) → value f.slots f.order y low ≡ cond (y (2 * k + 1)) false (value d.slots d.order y rest)
  low_next y = (functions_kept e f a.sound b.sound b.extends).same low (low_live d e n k rest low h within a) y ∙ low_value d e n k rest low h within a y

  high_true : value f.slots f.order (constant true) high ≡ true
  high_true = high_value (constant true) ∙ rest_constant d e n k rest low h within a true

  high_false : value f.slots f.order (put (constant true) (2 * k + 1) false) high ≡ false
  high_false =
      let y : Assignment = put (constant true) (2 * k + 1) false in
      high_value y ∙ ap (λ t. cond t (value d.slots d.order y rest) false) (put_at (constant true) (2 * k + 1) false)

  -- it isn't the other node of that variable
  apart : high ≡ low → ⊥
  apart same = let clash : true ≡ false = sym high_true ∙ ap (λ m. value f.slots f.order (constant true) m) same ∙ low_next (constant true) in cc

  new_high : (p : Parts) → parts_of e.slots high ≡ Some p → ⊥
  new_high p eq = elim (a.only high p eq) [
    | inl old ↦
        let least = h.nodes.below high p old in
        not_below e f n (2 * k + 1) (suc (3 * (n - (k + 1)))) (2 * k + 1) 0 rest high (constant true) false p nodes_e b eq (omega (arith, least)) high_true high_false
    | inr same ↦ apart same
  ]

  pub high_live : IsLive f high
  high_live = made_live e f n (2 * k + 1) (suc (3 * (n - (k + 1)))) (2 * k + 1) 0 rest high nodes_e (omega (arith, within)) b

  pub low_on : IsLive f low
  low_on = live_on e f low b.extends (low_live d e n k rest low h within a)

  pub high_nodes : HasNodesFrom f n (2 * k + 1) (suc (suc (3 * (n - (k + 1)))))
  high_nodes =
      more_nodes e f n (2 * k + 1) (suc (3 * (n - (k + 1)))) (2 * k + 1) 0 rest high (constant true) (put (constant true) (2 * k + 1) false) nodes_e (omega arith) b new_high high_true high_false

module _ (d e f g : Diagram) (n k rest low high m : ℕ) (h : IsDiagonalFrom d n (k + 1) rest) (within : k < n) (a : IsMade d e (2 * k + 1) rest 0 low) (b : IsMade e f (2 * k + 1) 0 rest high) (c : IsMade f g (2 * k) low high m) where
  nodes_f : HasNodesFrom f n (2 * k + 1) (suc (suc (3 * (n - (k + 1)))))
  nodes_f = high_nodes d e f n k rest low high h within a b

  top_value : (y : Assignment) → value g.slots g.order y m ≡ same_bool (y (2 * k)) (y (2 * k + 1)) && value d.slots d.order y rest
  top_value y =
      let on = functions_kept f g b.sound c.sound c.extends in
      let ones : value g.slots g.order y high ≡ cond (y (2 * k + 1)) (value d.slots d.order y rest) false = on.same high (high_live d e f n k rest low high h within a b) y ∙ high_value d e f n k rest low high h within a b y in
      let zeros : value g.slots g.order y low ≡ cond (y (2 * k + 1)) false (value d.slots d.order y rest) = on.same low (low_on d e f n k rest low high h within a b) y ∙ low_next d e f n k rest low high h within a b y in
      choice_at g (2 * k) low high m y c.denotes ∙ ap₂ (λ s t. cond (y (2 * k)) s t) ones zeros ∙ by_bits (y (2 * k)) (y (2 * k + 1)) (value d.slots d.order y rest)

  top_true : value g.slots g.order (constant true) m ≡ true
  top_true = top_value (constant true) ∙ rest_constant d e n k rest low h within a true

  top_false : value g.slots g.order (put (constant true) (2 * k) false) m ≡ false
  top_false =
      let y : Assignment = put (constant true) (2 * k) false in
      let row : y (2 * k) ≡ false = put_at (constant true) (2 * k) false in
      let column : y (2 * k + 1) ≡ true = cond-false (eqb (2 * k + 1) (2 * k)) false true (ne_eqb (2 * k + 1) (2 * k) (λ e. let no : 2 * k < 2 * k = omega (arith, e) in absurd (omega (arith, no)))) in
      top_value y ∙ ap₂ (λ s t. same_bool s t && value d.slots d.order y rest) row column

  pub qubit_more : IsDiagonalFrom g n k m
  qubit_more =
      let nodes : HasNodesFrom g n (2 * k) (suc (suc (suc (3 * (n - (k + 1)))))) =
      more_nodes f g n (2 * k + 1) (suc (suc (3 * (n - (k + 1))))) (2 * k) low high m (constant true) (put (constant true) (2 * k) false) nodes_f (omega arith) c
      (λ p eq. not_below f g n (2 * k + 1) (suc (suc (3 * (n - (k + 1))))) (2 * k) low high m (constant true) false p nodes_f c eq (let least = nodes_f.below m p eq in omega (arith, least)) top_true top_false)
      top_true top_false in
      record {
        nodes = subst (HasNodesFrom g n (2 * k)) (let e : suc (suc (suc (3 * (n - (k + 1))))) ≡ 3 * (n - k) = omega (arith, within) in e) nodes;
        live = made_live f g n (2 * k + 1) (suc (suc (3 * (n - (k + 1))))) (2 * k) low high m nodes_f (omega (arith, within)) c;
        is = λ y. top_value y ∙ ap (λ t. same_bool (y (2 * k)) (y (2 * k + 1)) && t) (h.is y) ∙ one_qubit n k y within;
      }

-- ---- before the first qubit, and what a stop says
pub diagonal_none : (d : Diagram) (n j : ℕ) → IsSound d → held d ≡ 0 → d.order ≡ range_with_len 0 (2 * n) → j ≡ n → IsDiagonalFrom d n j 1
unfolding row_equals_column
diagonal_none d n j sound empty order at =
    let none : n - j ≡ 0 = omega (arith, at) in
    record {
      nodes = record {
        sound = sound;
        order = order;
        below = λ m p eq. let some = held_some d m p eq in absurd (omega (arith, some, empty));
        count = empty ∙ sym (ap (λ i. 3 * i) none);
      };
      live = inl (omega arith);
      is = λ y. value-small d.slots (length d.order) d.order 1 sound.diagram (omega arith) y ∙ sym (ap (λ i. row_equals_column i (λ v. y (2 * j + v))) none);
    }

pub diagonal_as : (e : Diagram) (n k j m : ℕ) → k ≡ j → IsDiagonalFrom e n k m → IsDiagonalFrom e n j m
diagonal_as e n k j m eq h = subst (λ i. IsDiagonalFrom e n i m) eq h

-- too few nodes may be held
pub nodes_full : (d e : Diagram) (n u c v low high : ℕ) → HasNodesFrom e n u c → c < 3 * n → e.limit ≡ d.limit → (r : StoreStop) → StopMeans e v low high r → StartStopIs d (3 * n) r
nodes_full d e n u c v low high h few limit (Full t) stop =
    let count = h.count in let full = stop.1.full in
    (stop.0 ∙ limit, omega (arith, count, few, limit, full))
nodes_full d e n u c v low high h few limit OutOfMemory stop = tt

-- by another limit
pub stop_as : (d e : Diagram) (n : ℕ) → e.limit ≡ d.limit → (r : StoreStop) → StartStopIs e n r → StartStopIs d n r
stop_as d e n limit (Full t) stop = let less = stop.1 in (stop.0 ∙ limit, omega (arith, less, limit))
stop_as d e n limit OutOfMemory stop = tt

-- there was room for all
pub diagonal_room : (d e : Diagram) (n m : ℕ) → IsDiagonalFrom e n 0 m → e.limit ≡ d.limit → 3 * n ≤ d.limit
diagonal_room d e n m h limit = let count = h.nodes.count in let few = h.nodes.sound.few in omega (arith, count, few, limit)
