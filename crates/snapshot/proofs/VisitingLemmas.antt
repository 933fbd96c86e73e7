-- What a walk that numbers nodes keeps.
use Rattle.std.proofs.Common.{◌≡◌, ℕ, ◌+◌, ◌<◌, Bool, true, false, List, [], ◌∷◌, ◌++◌, length, take, get_or, Some, None, inl, inr, refl, sym, ◌∙◌, ap, subst, arith}
use Rattle.std.proofs.lemmas.Bool.{cases_lt, false≢true, false_from_ne_true}
use Rattle.std.proofs.lemmas.List.{take_more, map-append}
use Rattle.bit_lists.specs.Orders.{has}
use Rattle.diagram_model.specs.declared.parts.Parts.{Parts}
use Rattle.diagram_model.specs.Nodes.{parts_of, child}
use Rattle.diagram_model.specs.Stores.{Diagram, IsLive, HasParts, IsSound, depth, function_of}
use Rattle.diagram_model.proofs.Canonical.{some_same}
use Rattle.diagram_model.proofs.Values.{none_some}
use Rattle.slice_vec.specs.Slices.{StandsIn, bit_node}
use Rattle.slice_vec.proofs.Bits.{bit_live}
use Rattle.snapshot.specs.Numbers.{visited, visited_all, numbered, never, always}
use Rattle.snapshot.specs.Private.{Numbered, AreOnce, IsNumbering, Keeps, AddsLower, functions}
use Rattle.snapshot.proofs.NumberingLemmas.{two_lack, has_left, has_cases, has_small}
use Rattle.snapshot.proofs.Once.{once_more}
use Rattle.snapshot.proofs.Listing.{visited_all_append, visited_one, never_is, always_is}

-- n gets a number once its children have one
pub numbered_more : (d : Diagram) (s t : Numbered) (n : ℕ) (p : Parts) → IsNumbering d s → has s.nodes n ≡ false → IsLive d n → parts_of d.slots n ≡ Some p → has s.nodes p.low ≡ true → has s.nodes p.high ≡ true
    → t.nodes ≡ s.nodes ++ n ∷ [] → t.past ≡ s.past → IsNumbering d t
numbered_more d s t n p h new live is low high nodes past = record {
  sound = h.sound;
  constants = λ m lt. ap (λ l. has l m) nodes ∙ has_left s.nodes (n ∷ []) m (h.constants m lt);
  once = subst AreOnce (sym nodes) (once_more s.nodes n h.once new);
  live = λ m there. elim (has_cases s.nodes n m (ap (λ l. has l m) (sym nodes) ∙ there)) [
    | inl old ↦ h.live m old
    | inr at ↦ subst (IsLive d) at live
  ];
  closed = λ m r b there at. elim (has_cases s.nodes n m (ap (λ l. has l m) (sym nodes) ∙ there)) [
    | inl old ↦ ap (λ l. has l (child b r)) nodes ∙ has_left s.nodes (n ∷ []) (child b r) (h.closed m r b old at)
    | inr same ↦
        let one : p ≡ r = some_same p r (sym is ∙ ap (parts_of d.slots) same ∙ at) in
        ap (λ l. has l (child b r)) nodes ∙ has_left s.nodes (n ∷ []) (child b r) (ap (λ (q : Parts). has s.nodes (child b q)) (sym one) ∙ either b)
  ];
  places = λ m held. rw past (h.places m held);
}
  where
    either : (b : Bool) → has s.nodes (child b p) ≡ true
    either false = low
    either true = high

pub keeps_more : (xs ys : List ℕ) (n : ℕ) → ys ≡ xs ++ n ∷ [] → Keeps xs ys
keeps_more xs ys n e m h = ap (λ l. has l m) e ∙ has_left xs (n ∷ []) m h

pub keeps_then : (xs ys zs : List ℕ) → Keeps xs ys → Keeps ys zs → Keeps xs zs
keeps_then xs ys zs f g m h = g m (f m h)

-- what was added below both children, and then the node
pub lower_all : (d : Diagram) (old low high new : List ℕ) (n : ℕ) (p : Parts) → depth d p.low < depth d n → depth d p.high < depth d n → AddsLower d (depth d p.low) old low → AddsLower d (depth d p.high) low high → new ≡ high ++ n ∷ [] → AddsLower d (depth d n) old new
lower_all d old low high new n p less more f g e m h =
    elim (has_cases high n m (ap (λ l. has l m) (sym e) ∙ h)) [
      | inr at ↦ inr (let same : depth d m ≡ depth d n = ap (depth d) (sym at) in omega (arith, same))
      | inl there ↦ elim (g m there) [
        | inr deep ↦ inr (omega (arith, deep, more))
        | inl here ↦ elim (f m here) [
          | inr deep ↦ inr (omega (arith, deep, less))
          | inl first ↦ inl first
        ]
      ]
    ]

-- the node itself wasn't added below its children
pub still_new : (d : Diagram) (old low high : List ℕ) (n : ℕ) (p : Parts) → depth d p.low < depth d n → depth d p.high < depth d n → AddsLower d (depth d p.low) old low → AddsLower d (depth d p.high) low high → has old n ≡ false → has high n ≡ false
still_new d old low high n p less more f g new =
    false_from_ne_true (has high n) (λ h. elim (g n h) [
      | inr deep ↦ omega (arith, deep, more)
      | inl here ↦ elim (f n here) [
        | inr deep ↦ omega (arith, deep, less)
        | inl first ↦ false≢true (sym new ∙ first)
      ]
    ])

-- nothing is added
pub lower_none : (d : Diagram) (most : ℕ) (xs : List ℕ) → AddsLower d most xs xs
lower_none d most xs m h = inl h

two_small : (n : ℕ) → has (0 ∷ 1 ∷ []) n ≡ true → n < 2
two_small n h =
    elim (cases_lt n 2) [
      | inl lt ↦ lt
      | inr le ↦ absurd (false≢true (sym (two_lack n le) ∙ h))
    ]

constants_once : AreOnce (0 ∷ 1 ∷ [])
unfolding AreOnce has
constants_once = (refl, (refl, tt))

-- the constants alone
pub numbered_none : (d : Diagram) (s : Numbered) → IsSound d → s.nodes ≡ 0 ∷ 1 ∷ [] → ((n : ℕ) → HasParts d n → n < s.past) → IsNumbering d s
numbered_none d s sound nodes past = record {
  sound = sound;
  constants = λ n lt. ap (λ l. has l n) nodes ∙ has_small [] n lt;
  once = subst AreOnce (sym nodes) constants_once;
  live = λ n there. inl (two_small n (ap (λ l. has l n) (sym nodes) ∙ there));
  closed = λ n p b there at. absurd (none_some p (sym (sound.diagram.ground n (two_small n (ap (λ l. has l n) (sym nodes) ∙ there))) ∙ at));
  places = past;
}

-- the nodes of an integer, one more
pub visited_more : (d : Diagram) (xs old now new : List ℕ) (i b : ℕ) (z : ℕ) → i < length xs → b ≡ get_or xs i z
    → functions d now ≡ visited_all (length d.order) d.order (functions d (take i xs)) (functions d old)
    → functions d new ≡ visited (length d.order) d.order (function_of d b) (functions d now)
    → functions d new ≡ visited_all (length d.order) d.order (functions d (take (i + 1) xs)) (functions d old)
visited_more d xs old now new i b z lt e so_far more =
    let k = length d.order in
    let gs = functions d (take i xs) in
    more ∙ ap (visited k d.order (function_of d b)) so_far ∙ sym (visited_one k d.order gs (functions d old) (function_of d b))
    ∙ ap (λ l. visited_all k d.order l (functions d old)) (ap (λ (c : ℕ). gs ++ function_of d c ∷ []) e ∙ sym (ap (functions d) (take_more xs i z lt) ∙ map-append (function_of d) (take i xs) (get_or xs i z ∷ [])))

-- four integers, one after the other
pub visited_four : (d : Diagram) (a b c e n0 n1 n2 n3 n4 : List ℕ) → IsSound d → n0 ≡ 0 ∷ 1 ∷ []
    → functions d n1 ≡ visited_all (length d.order) d.order (functions d a) (functions d n0)
    → functions d n2 ≡ visited_all (length d.order) d.order (functions d b) (functions d n1)
    → functions d n3 ≡ visited_all (length d.order) d.order (functions d c) (functions d n2)
    → functions d n4 ≡ visited_all (length d.order) d.order (functions d e) (functions d n3)
    → functions d n4 ≡ numbered (length d.order) d.order (functions d (a ++ b ++ c ++ e))
unfolding numbered
visited_four d a b c e n0 n1 n2 n3 n4 s start f1 f2 f3 f4 =
    let k = length d.order in
    let o = d.order in
    let F = functions d in
    let begin : F n0 ≡ never ∷ always ∷ [] = ap F start ∙ ap (λ g. g ∷ function_of d 1 ∷ []) (never_is d s) ∙ ap (λ g. never ∷ g ∷ []) (always_is d s) in
    f4 ∙ ap (visited_all k o (F e)) (f3 ∙ ap (visited_all k o (F c)) (f2 ∙ ap (visited_all k o (F b)) (f1 ∙ ap (visited_all k o (F a)) begin)))
    ∙ ap (visited_all k o (F e)) (ap (visited_all k o (F c)) (sym (visited_all_append k o (F a) (F b) (never ∷ always ∷ []))) ∙ sym (visited_all_append k o (F a ++ F b) (F c) (never ∷ always ∷ [])))
    ∙ sym (visited_all_append k o (F a ++ F b ++ F c) (F e) (never ∷ always ∷ []))
    ∙ ap (λ l. visited_all k o l (never ∷ always ∷ [])) (sym (map-append (function_of d) (a ++ b ++ c) e ∙ ap (λ l. l ++ F e) (map-append (function_of d) (a ++ b) c ∙ ap (λ l. l ++ F c) (map-append (function_of d) a b))))

-- a live node without parts is a constant, which has a number
pub never_there : (d : Diagram) (n : ℕ) (s : Numbered) → IsNumbering d s → IsLive d n → parts_of d.slots n ≡ None → has s.nodes n ≡ false → ⊥
never_there d n s h (inl lt) is lacks = false≢true (sym lacks ∙ h.constants n lt)
never_there d n s h (inr held) is lacks = none_some held.parts (sym is ∙ held.is)

-- a bit's node is live
pub bit_is_live : (d : Diagram) (xs : List ℕ) (i n : ℕ) → StandsIn d xs → i < length xs → n ≡ bit_node xs i → IsLive d n
bit_is_live d xs i n h lt e = subst (IsLive d) (sym e) (bit_live d xs i h)
