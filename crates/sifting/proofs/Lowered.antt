-- How ranks are made and lowered.
use Rattle.std.proofs.Common.{◌≡◌, ◌⊎◌, ℕ, zero, suc, ◌+◌, ◌<◌, ◌≤◌, Bool, true, false, eqb, List, [], ◌∷◌, ◌++◌, length, set, get_or-set_same, get_or-set_other, Some, None, inl, inr, refl, sym, ◌∙◌, ap, arith, slice_index, eq-eqb}
use Rattle.std.specs.List.{items_where_true}
use Rattle.std.proofs.lemmas.Bool.{cases_eq, or_cases, or_left, or_right, eqb-true, false≢true}
use Rattle.bit_lists.specs.Orders.{place_in}
use Rattle.diagram_model.specs.declared.parts.Parts.{Parts}
use Rattle.diagram_model.specs.Nodes.{parts_of, child}
use Rattle.diagram_model.specs.Reach.{is_in}
use Rattle.diagram_model.specs.Stores.{Diagram, IsLive, IsSound}
use Rattle.diagram_model.proofs.Canonical.{some_same}
use Rattle.diagram_model.proofs.Heights.{at_place_in}
use Rattle.diagram_model.proofs.Reached.{in_append}
use Rattle.diagram_model.proofs.Values.{none_some, live-children}
use Rattle.node_store.specs.declared.node.Node.{Node}
use Rattle.node_store.specs.Marks.{numbers}
use Rattle.node_store.specs.Slots.{AreNodesOf}
use Rattle.sifting.specs.Hanging.{HasParent, Hangs, AreRanked, AreRankedTo, AreLoose, SameRanks, Lowers, LowersBoth, LowersListed, LowersChildren, LowersRoots, rank_of}
use Rattle.sifting.proofs.Pairs.{place_at}

-- one more number without a rank changes no rank
pub more_same : (rs : List ℕ) (m : ℕ) → rank_of (rs ++ 255 ∷ []) m ≡ rank_of rs m
more_same [] zero = refl
more_same [] (suc m) = refl
more_same (r ∷ rs) zero = refl
more_same (r ∷ rs) (suc m) = more_same rs m

pub lowered : (rs : List ℕ) (n r : ℕ) → n < length rs → r < rank_of rs n → Lowers rs (set rs n r) n r
lowered rs n r lt less =
    let e : rank_of (set rs n r) n ≡ r = get_or-set_same rs n r 255 lt in
    record {
      here = omega (arith, e);
      either = inr e;
      less = omega (arith, e, less);
      others = λ m ne. get_or-set_other rs n m r 255 ne;
    }

pub not_lowered : (rs : List ℕ) (n r : ℕ) → rank_of rs n ≤ r → Lowers rs rs n r
not_lowered rs n r le = record { here = le; either = inl refl; less = omega arith; others = λ m ne. refl }

-- each rank stays, or is that of n and is lowered
one_lowered : (a b : List ℕ) (n r m : ℕ) → Lowers a b n r → (rank_of b m ≡ rank_of a m) ⊎ ((rank_of b m ≡ r) × (n ≡ m))
one_lowered a b n r m low =
    elim (cases_eq m n) [
      | inl e ↦ elim low.either [
        | inl same ↦ inl (ap (rank_of b) e ∙ same ∙ ap (rank_of a) (sym e))
        | inr new ↦ inr (ap (rank_of b) e ∙ new, sym e)
      ]
      | inr ne ↦ inl (low.others m ne)
    ]

one_less : (a b : List ℕ) (n r m : ℕ) → Lowers a b n r → rank_of b m ≤ rank_of a m
one_less a b n r m low =
    elim (cases_eq m n) [
      | inl e ↦ (let f = ap (rank_of b) e in let g = ap (rank_of a) e in let l = low.less in omega (arith, f, g, l))
      | inr ne ↦ let f = low.others m ne in omega (arith, f)
    ]

both_here : (a b c : List ℕ) (p : Parts) (r : ℕ) → Lowers a b p.low r → Lowers b c p.high r → (s : Bool) → rank_of c (child s p) ≤ r
both_here a b c p r low high false = let f = low.here in let g = one_less b c p.high r p.low high in omega (arith, f, g)
both_here a b c p r low high true = high.here

pub both_lowered : (a b c : List ℕ) (p : Parts) (r : ℕ) → Lowers a b p.low r → Lowers b c p.high r → LowersBoth a c p r
both_lowered a b c p r low high = record {
  right = λ m. elim (one_lowered b c p.high r m high) [
    | inl same ↦ elim (one_lowered a b p.low r m low) [
      | inl old ↦ inl (same ∙ old)
      | inr new ↦ inr (same ∙ new.0, (false, new.1))
    ]
    | inr new ↦ inr (new.0, (true, new.1))
  ];
  less = λ m. let f = one_less a b p.low r m low in let g = one_less b c p.high r m high in omega (arith, f, g);
  here = both_here a b c p r low high;
}

-- a number of a longer list
in_more : (ns : List ℕ) (i n : ℕ) → is_in ns n ≡ true → is_in (ns ++ i ∷ []) n ≡ true
in_more ns i n there = in_append ns (i ∷ []) n ∙ or_left (is_in ns n) (is_in (i ∷ []) n) there

in_last : (ns : List ℕ) (i : ℕ) → is_in (ns ++ i ∷ []) i ≡ true
in_last ns i = in_append ns (i ∷ []) i ∙ or_right (is_in ns i) (is_in (i ∷ []) i) (or_left (eqb i i) false (eq-eqb i i refl))

of_more : (ns : List ℕ) (i n : ℕ) → is_in (ns ++ i ∷ []) n ≡ true → (is_in ns n ≡ true) ⊎ (n ≡ i)
of_more ns i n there =
    elim (or_cases (is_in ns n) (is_in (i ∷ []) n) (sym (in_append ns (i ∷ []) n) ∙ there)) [
      | inl old ↦ inl old
      | inr new ↦ elim (or_cases (eqb n i) false new) [
        | inl at ↦ inr (eqb-true n i at)
        | inr nowhere ↦ absurd (false≢true nowhere)
      ]
    ]

pub listed_none : (d : Diagram) (a : List ℕ) (r : ℕ) → LowersListed d [] a a r
listed_none d a r = record { right = λ m. inl refl; less = λ m. omega arith; here = λ q p b there is. absurd (false≢true there) }

pub listed_pass : (d : Diagram) (ns : List ℕ) (a b : List ℕ) (r i : ℕ) → LowersListed d ns a b r → parts_of d.slots i ≡ None → LowersListed d (ns ++ i ∷ []) a b r
listed_pass d ns a b r i low none = record {
  right = λ m. elim (low.right m) [ inl same ↦ inl same | inr new ↦ inr (new.0, (new.1.0, in_more ns i new.1.0.parent new.1.1)) ];
  less = low.less;
  here = λ q p s there is. elim (of_more ns i q there) [
    | inl old ↦ low.here q p s old is
    | inr e ↦ absurd (none_some p (sym none ∙ ap (parts_of d.slots) (sym e) ∙ is))
  ];
}

rank_over : (c : List ℕ) (p q : Parts) (s : Bool) (r : ℕ) → p ≡ q → rank_of c (child s q) ≤ r → rank_of c (child s p) ≤ r
rank_over c p q s r e h = rw e h

pub listed_on : (d : Diagram) (ns : List ℕ) (a b c : List ℕ) (r i : ℕ) (p : Parts) → LowersListed d ns a b r → parts_of d.slots i ≡ Some p → LowersBoth b c p r → LowersListed d (ns ++ i ∷ []) a c r
listed_on d ns a b c r i p low is both = record {
  right = λ m. elim (both.right m) [
    | inl same ↦ elim (low.right m) [
      | inl old ↦ inl (same ∙ old)
      | inr new ↦ inr (same ∙ new.0, (new.1.0, in_more ns i new.1.0.parent new.1.1))
    ]
    | inr new ↦ inr (new.0, (record { parent = i; its = p; side = new.1.0; is = is; there = new.1.1 }, in_last ns i))
  ];
  less = λ m. let f = low.less m in let g = both.less m in omega (arith, f, g);
  here = λ q o s there at. elim (of_more ns i q there) [
    | inl old ↦ (let f = low.here q o s old at in let g = both.less (child s o) in omega (arith, f, g))
    | inr e ↦ rank_over c o p s r (some_same o p (sym at ∙ ap (parts_of d.slots) e ∙ is)) (both.here s)
  ];
}

-- the nodes of v are listed
pub children_lowered : (d : Diagram) (v : ℕ) (ns : List ℕ) (a b c : List ℕ) (r : ℕ) → AreNodesOf d v ns → SameRanks a b → LowersListed d ns b c r → LowersChildren d v a c r
children_lowered d v ns a b c r nodes same low = record {
  right = λ m. elim (low.right m) [
    | inl e ↦ inl (e ∙ same m)
    | inr new ↦
        let h = new.1.0 in
        let has = nodes.each h.parent new.1.1 in
        inr (new.0, (h, ap (λ (z : Parts). z.var) (some_same h.its has.0 (sym h.is ∙ has.1)) ∙ has.2))
  ];
  less = λ m. let f = low.less m in let g = same m in omega (arith, f, g);
  here = λ q p s is at. low.here q p s (nodes.all q (p, is, at)) is;
}

-- a child of a held node is live
pub child_live : (d : Diagram) (n : ℕ) (p : Parts) (b : Bool) → IsSound d → parts_of d.slots n ≡ Some p → IsLive d (child b p)
child_live d n p b sound is = live-children d.slots (length d.order) d.order n p sound.diagram.proper is (sound.diagram.within n p is) b

-- roots are lowered one after another
pub roots_none : (a : List ℕ) → LowersRoots [] a a
roots_none a = record { right = λ m. inl refl; here = λ m there. absurd (false≢true there) }

numbers_more : (ns : List Node) (n : Node) → numbers (ns ++ n ∷ []) ≡ numbers ns ++ n.0 ∷ []
numbers_more [] n = refl
numbers_more (m ∷ ns) n = ap (λ l. m.0 ∷ l) (numbers_more ns n)

pub roots_on : (ns : List Node) (n : Node) (a b c : List ℕ) → LowersRoots ns a b → Lowers b c n.0 0 → LowersRoots (ns ++ n ∷ []) a c
roots_on ns n a b c low one =
    let e = numbers_more ns n in
    record {
      right = λ m. elim (one_lowered b c n.0 0 m one) [
        | inl same ↦ elim (low.right m) [
          | inl old ↦ inl (same ∙ old)
          | inr there ↦ inr (ap (λ l. is_in l m) e ∙ in_more (numbers ns) n.0 m there)
        ]
        | inr new ↦ inr (ap (λ l. is_in l m) e ∙ ap (is_in (numbers ns ++ n.0 ∷ [])) (sym new.1) ∙ in_last (numbers ns) n.0)
      ];
      here = λ m there. elim (of_more (numbers ns) n.0 m (ap (λ l. is_in l m) (sym e) ∙ there)) [
        | inl old ↦ (let f = low.here m old in let g = one_less b c n.0 0 m one in omega (arith, f, g))
        | inr same ↦ (let f = ap (rank_of c) same in let g = one.here in omega (arith, f, g))
      ];
    }

-- the ranks of what hangs on the roots and on the nodes above the place i
pub record IsRanking (d : Diagram) (roots : List Node) (ranks : List ℕ) (i : ℕ) : Type 0 where
  pub right : (m j : ℕ) → j < 255 → rank_of ranks m ≤ j → Hangs d roots j m
  pub at_roots : (m : ℕ) → is_in (numbers roots) m ≡ true → rank_of ranks m ≤ 0
  pub at_children : (m : ℕ) (h : HasParent d.slots m) → place_in d.order h.its.var < i → rank_of ranks m ≤ place_in d.order h.its.var + 1

pub ranking_none : (d : Diagram) (roots : List Node) (a b : List ℕ) → SameRanks [] a → LowersRoots roots a b → IsRanking d roots b 0
ranking_none d roots a b same low = record {
  right = λ m j small le. elim (low.right m) [
    | inl e ↦ (let f : rank_of a m ≡ 255 = same m in absurd (omega (arith, e, f, small, le)))
    | inr r ↦ inl r
  ];
  at_roots = low.here;
  at_children = λ m h lt. absurd (omega arith);
}

-- a node with the variable of a place
var_at : (d : Diagram) (i v n : ℕ) (p : Parts) → IsSound d → v ≡ slice_index d.order i → parts_of d.slots n ≡ Some p → place_in d.order p.var ≡ i → p.var ≡ v
var_at d i v n p sound at is e = sym (at_place_in d.order p.var (sound.diagram.within n p is)) ∙ ap (slice_index d.order) e ∙ sym at

place_of : (d : Diagram) (i v x : ℕ) → IsSound d → i < length d.order → v ≡ slice_index d.order i → x ≡ v → place_in d.order x ≡ i
place_of d i v x sound lt at e = ap (place_in d.order) (e ∙ at) ∙ place_at (length d.order) d.order i sound.diagram.order lt

pub ranking_on : (d : Diagram) (roots : List Node) (a b : List ℕ) (i v : ℕ) → IsSound d → i < length d.order → v ≡ slice_index d.order i → IsRanking d roots a i → LowersChildren d v a b (i + 1) → IsRanking d roots b (i + 1)
ranking_on d roots a b i v sound lt at old low = record {
  right = λ m j small le. elim (low.right m) [
    | inl e ↦ old.right m j small (omega (arith, e, le))
    | inr new ↦ (let f = place_of d i v new.1.0.its.var sound lt at new.1.1 in let g = new.0 in inr (new.1.0, omega (arith, f, g, le)))
  ];
  at_roots = λ m r. let f = old.at_roots m r in let g = low.less m in omega (arith, f, g);
  at_children = λ m h below. elim (cases_eq (place_in d.order h.its.var) i) [
    | inl e ↦
        let f = low.here h.parent h.its h.side h.is (var_at d i v h.parent h.its sound at h.is e) in
        let g = ap (rank_of b) h.there in
        omega (arith, f, g, e)
    | inr ne ↦ (let f = old.at_children m h (omega (arith, below, ne)) in let g = low.less m in omega (arith, f, g))
  ];
}

pub ranking_done : (d : Diagram) (roots : List Node) (a : List ℕ) (i : ℕ) → i < 255 → IsRanking d roots a i → AreRankedTo d roots i a
ranking_done d roots a i small all j le = record {
  right = λ m h. all.right m j (omega (arith, small, le)) h;
  whole = λ m h. elim h [
    | inl r ↦ (let f = all.at_roots m r in omega (arith, f))
    | inr h ↦ (let g = h.1 in let f = all.at_children m h.0 (omega (arith, g, le)) in omega (arith, f, g))
  ];
}

-- the ranks for the next place down
pub ranked_down : (d : Diagram) (roots : List Node) (a b : List ℕ) (i v bound : ℕ) → IsSound d → i < length d.order → v ≡ slice_index d.order i → AreRanked d roots i a bound → LowersChildren d v a b bound → AreRanked d roots (i + 1) b bound
ranked_down d roots a b i v bound sound lt at old low = record {
  right = λ m le. elim (low.right m) [
    | inl e ↦ elim (old.right m (omega (arith, e, le))) [
      | inl r ↦ inl r
      | inr h ↦ (let g = h.1 in inr (h.0, omega (arith, g)))
    ]
    | inr new ↦ (let f = place_of d i v new.1.0.its.var sound lt at new.1.1 in inr (new.1.0, omega (arith, f)))
  ];
  whole = λ m h. elim h [
    | inl r ↦ (let f = old.whole m (inl r) in let g = low.less m in omega (arith, f, g))
    | inr h ↦ elim (cases_eq (place_in d.order h.0.its.var) i) [
      | inl e ↦
          let f = low.here h.0.parent h.0.its h.0.side h.0.is (var_at d i v h.0.parent h.0.its sound at h.0.is e) in
          let g = ap (rank_of b) h.0.there in
          omega (arith, f, g)
      | inr ne ↦
          let k = h.1 in
          let f = old.whole m (inr (h.0, omega (arith, k, ne))) in
          let g = low.less m in
          omega (arith, f, g)
    ]
  ];
}

-- what a filter leaves was there
among : (bs : List Bool) (xs : List ℕ) (n : ℕ) → is_in (items_where_true bs xs) n ≡ true → is_in xs n ≡ true
among [] xs n h = absurd (false≢true h)
among (b ∷ bs) [] n h = h
among (true ∷ bs) (x ∷ xs) n h =
    elim (or_cases (eqb n x) (is_in (items_where_true bs xs) n) h) [
      | inl at ↦ or_left (eqb n x) (is_in xs n) at
      | inr more ↦ or_right (eqb n x) (is_in xs n) (among bs xs n more)
    ]
among (false ∷ bs) (x ∷ xs) n h = or_right (eqb n x) (is_in xs n) (among bs xs n h)

pub filter_among : (bs : List Bool) (xs ys : List ℕ) → ys ≡ items_where_true bs xs → (n : ℕ) → is_in ys n ≡ true → is_in xs n ≡ true
filter_among bs xs ys e n h = among bs xs n (ap (λ l. is_in l n) (sym e) ∙ h)

pub not_above : (a b : ℕ) → a ≤ b → b < a → ⊥
not_above a b le lt = absurd (omega arith)

-- the nodes of v without those that hang
pub loose_among : (d : Diagram) (v : ℕ) (ranks : List ℕ) (bound : ℕ) (ms ns : List ℕ) → AreNodesOf d v ms → ((n : ℕ) → is_in ns n ≡ true → is_in ms n ≡ true) → ((n : ℕ) → is_in ms n ≡ true → bound < rank_of ranks n → is_in ns n ≡ true) → ((n : ℕ) → is_in ns n ≡ true → bound < rank_of ranks n) → AreLoose d v ranks bound ns
loose_among d v ranks bound ms ns nodes there keeps only = record {
  each = λ n h. (nodes.each n (there n h), only n h);
  all = λ n has lt. keeps n (nodes.all n has) lt;
}
