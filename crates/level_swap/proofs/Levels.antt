-- The nodes of the upper variable, one after another.
use Rattle.std.proofs.Common.{◌≡◌, ◌≢◌, ◌⊎◌, ℕ, ◌+◌, ◌<◌, ◌≤◌, Bool, true, false, eqb, List, [], ◌∷◌, length, ◌++◌, get_or, Option, Some, inl, inr, refl, sym, ◌∙◌, ap, arith}
use Rattle.std.specs.List.{items_where_true}
use Rattle.std.specs.List.Retain.{ReturnsInTurn, IsFiltered}
use Rattle.std.proofs.lemmas.Bool.{cases_eq, or_cases, or_left, or_right, eqb-true, false≢true}
use Rattle.bit_lists.proofs.Variables.{has_at}
use Rattle.bit_lists.specs.Orders.{exchanged}
use Rattle.diagram_model.specs.declared.parts.Parts.{Parts}
use Rattle.diagram_model.specs.Nodes.{parts_of, IsDiagram}
use Rattle.diagram_model.specs.Reach.{is_in}
use Rattle.diagram_model.specs.Stores.{Diagram, IsSound}
use Rattle.diagram_model.proofs.Canonical.{cases_var}
use Rattle.diagram_model.proofs.Reached.{in_append}
use Rattle.diagram_model.proofs.Values.{none_some, below-order}
use Rattle.node_store.specs.Slots.{parts, IsSlotted, AreNodesOf}
use Rattle.level_swap.specs.Rewriting.{IsTopPair, AreTopPair, Crosses, CrossesNot, AreCrossing, IsPartlySwapped, IsUnderway, AreDone, AreUsed, IsRewrittenLevel}
use Rattle.level_swap.specs.Swaps.{HasVariable, AreSwapped}
use Rattle.level_swap.proofs.Steps.{has_lacks, upper_lower, lacks_back, var_same}
use Rattle.level_swap.proofs.Swapped.{splits_at, top_pair, exchanged-pre, IsWhole, whole}

-- Filtering by a test that tells whether a number has the property leaves exactly the numbers that have it.
module _ {F : Type 0} (R : F → ℕ → Bool → F → Type 0) (Is : ℕ → Type 0) (f : F) (test : (x : ℕ) (b : Bool) (g : F) → R f x b g → (b ≡ false → Is x → ⊥) × (b ≡ true → Is x) × (g ≡ f)) where
  told_kept : (bs : List Bool) (xs : List ℕ) (q : F) → ReturnsInTurn R f bs xs q → length bs ≡ length xs → (n : ℕ) → is_in xs n ≡ true → Is n → is_in (items_where_true bs xs) n ≡ true
  told_kept [] [] q told len n there is = there
  told_kept [] (x ∷ xs) q told len n there is = absurd (omega arith)
  told_kept (b ∷ bs) [] q told len n there is = absurd (omega arith)
  told_kept (true ∷ bs) (x ∷ xs) q told len n there is =
      let rest : ReturnsInTurn R f bs xs q = rw (test x true told.0 told.1).2 at told.2 in
      elim (or_cases (eqb n x) (is_in xs n) there) [
        | inl at ↦ or_left (eqb n x) (is_in (items_where_true bs xs) n) at
        | inr more ↦ or_right (eqb n x) (is_in (items_where_true bs xs) n) (told_kept bs xs q rest (omega arith) n more is)
      ]
  told_kept (false ∷ bs) (x ∷ xs) q told len n there is =
      let one = test x false told.0 told.1 in
      let rest : ReturnsInTurn R f bs xs q = rw one.2 at told.2 in
      elim (or_cases (eqb n x) (is_in xs n) there) [
        | inl at ↦ absurd (one.0 refl (rw (eqb-true n x at) at is))
        | inr more ↦ told_kept bs xs q rest (omega arith) n more is
      ]

  told_only : (bs : List Bool) (xs : List ℕ) (q : F) → ReturnsInTurn R f bs xs q → length bs ≡ length xs → (n : ℕ) → is_in (items_where_true bs xs) n ≡ true → Is n
  told_only [] [] q told len n there = absurd (false≢true there)
  told_only [] (x ∷ xs) q told len n there = absurd (omega arith)
  told_only (b ∷ bs) [] q told len n there = absurd (omega arith)
  told_only (true ∷ bs) (x ∷ xs) q told len n there =
      let one = test x true told.0 told.1 in
      let rest : ReturnsInTurn R f bs xs q = rw one.2 at told.2 in
      elim (or_cases (eqb n x) (is_in (items_where_true bs xs) n) there) [
        | inl at ↦ rw (eqb-true n x at) (one.1 refl)
        | inr more ↦ told_only bs xs q rest (omega arith) n more
      ]
  told_only (false ∷ bs) (x ∷ xs) q told len n there =
      let rest : ReturnsInTurn R f bs xs q = rw (test x false told.0 told.1).2 at told.2 in
      told_only bs xs q rest (omega arith) n there

  pub filter_keeps : (xs ys : List ℕ) → IsFiltered R f xs ys → (n : ℕ) → is_in xs n ≡ true → Is n → is_in ys n ≡ true
  filter_keeps xs ys k n there is = ap (λ l. is_in l n) k.4 ∙ told_kept k.0 xs k.1 k.3 k.2 n there is

  pub filter_only : (xs ys : List ℕ) → IsFiltered R f xs ys → (n : ℕ) → is_in ys n ≡ true → Is n
  filter_only xs ys k n there = told_only k.0 xs k.1 k.3 k.2 n (ap (λ l. is_in l n) (sym k.4) ∙ there)

pub crosses_or_not : (s : List (Option Parts)) (u v n : ℕ) → CrossesNot s u v n → Crosses s u v n → ⊥
crosses_or_not s u v n not_one one =
    let lacks = not_one one.0 one.1.is one.1.var_is in
    elim one.1.crosses [
      | inl c ↦ has_lacks s v one.0.low c lacks.0
      | inr c ↦ has_lacks s v one.0.high c lacks.1
    ]

-- the nodes of u without those that do not cross
pub crossing_among : (d : Diagram) (u v : ℕ) (ms ns : List ℕ) → AreNodesOf d u ms → ((n : ℕ) → is_in ms n ≡ true → Crosses d.slots u v n → is_in ns n ≡ true) → ((n : ℕ) → is_in ns n ≡ true → Crosses d.slots u v n) → length ns ≤ length ms → AreCrossing d u v ns
crossing_among d u v ms ns all keeps only len = record {
  all = λ n p is. keeps n (all.all n (p, is.is, is.var_is)) (p, is);
  each = only;
  few = omega (arith, all.count);
}

-- nothing is rewritten yet
pub partly_same : (s : List (Option Parts)) (k u v : ℕ) (post : List ℕ) → IsPartlySwapped s s u v post
partly_same s k u v post = record {
  others = λ n p is ne. is;
  upper = λ n low high is. inl is;
  added = λ n p none is. absurd (none_some p (sym none ∙ is));
}

pub used_none : (s : List (Option Parts)) (u : ℕ) → AreUsed s s u
used_none s u n p none is = absurd (none_some p (sym none ∙ is))

-- a held node stays held
held_on : (s t : List (Option Parts)) (u v : ℕ) (post : List ℕ) (n low high : ℕ) → IsPartlySwapped s t u v post → parts_of s n ≡ Some (parts u low high) → (q : Parts) × (parts_of t n ≡ Some q)
held_on s t u v post n low high partly is = elim (partly.upper n low high is) [
  | inl same ↦ (parts u low high, same)
  | inr r ↦ (parts v r.false_part r.true_part, r.is)
]

-- no node is passed yet
pub done_none : (s t : List (Option Parts)) (u v : ℕ) → AreDone s t u v []
done_none s t u v n low high there is same = cc

one_more : (ns : List ℕ) (m n : ℕ) → is_in (ns ++ m ∷ []) n ≡ true → (is_in ns n ≡ true) ⊎ (n ≡ m)
one_more ns m n there =
    elim (or_cases (is_in ns n) (is_in (m ∷ []) n) (sym (in_append ns (m ∷ []) n) ∙ there)) [
      | inl old ↦ inl old
      | inr new ↦ elim (or_cases (eqb n m) false new) [
        | inl at ↦ inr (eqb-true n m at)
        | inr nowhere ↦ absurd (false≢true nowhere)
      ]
    ]

-- the number i is passed where its node does not cross
pub done_on : (s t : List (Option Parts)) (u v : ℕ) (ns : List ℕ) (i : ℕ) → AreTopPair s u v → ((k : ℕ) (post : List ℕ) → IsTopPair s k u v post → IsPartlySwapped s t u v post) → CrossesNot t u v i → AreDone s t u v ns → AreDone s t u v (ns ++ i ∷ [])
done_on s t u v ns i pair partly none done n low high there is same =
    elim (one_more ns i n there) [
      | inl old ↦ done n low high old is same
      | inr e ↦
          let ne = upper_lower pair.bound u v pair.post pair.top.vars in
          let way = partly pair.bound pair.post pair.top in
          let no = none (parts u low high) (ap (parts_of t) (sym e) ∙ same) refl in
          (lacks_back s t u v low pair.post ne way no.0, lacks_back s t u v high pair.post ne way no.1)
    ]

-- the number i is passed where its node was rewritten
pub done_cross : (s t w : List (Option Parts)) (u v : ℕ) (ns : List ℕ) (i : ℕ) → AreTopPair s u v → ((k : ℕ) (post : List ℕ) → IsTopPair s k u v post → IsPartlySwapped s t u v post) → HasVariable w v i → ((m : ℕ) (q : Parts) → m ≢ i → parts_of t m ≡ Some q → parts_of w m ≡ Some q) → AreDone s t u v ns → AreDone s w u v (ns ++ i ∷ [])
done_cross s t w u v ns i pair partly moved stays done n low high there is same =
    elim (cases_eq n i) [
      | inl e ↦
          let ne = upper_lower pair.bound u v pair.post pair.top.vars in
          absurd (ne (var_same (parts u low high) moved.0 (sym same ∙ ap (parts_of w) e ∙ moved.1) ∙ moved.2))
      | inr ne ↦
          let way = partly pair.bound pair.post pair.top in
          let held = held_on s t u v pair.post n low high way is in
          let at : parts_of t n ≡ Some (parts u low high) = held.1 ∙ sym (stays n held.0 ne held.1) ∙ same in
          elim (one_more ns i n there) [
            | inl old ↦ done n low high old is at
            | inr e ↦ absurd (ne e)
          ]
    ]

pub underway : (s t : List (Option Parts)) (u v : ℕ) → AreTopPair s u v → ((k : ℕ) (post : List ℕ) → IsTopPair s k u v post → IsPartlySwapped s t u v post) → IsUnderway t u v
underway s t u v pair partly = record { from = s; bound = pair.bound; post = pair.post; top = pair.top; partly = partly pair.bound pair.post pair.top }

-- every node of u that crosses is passed
pub level_done : (d : Diagram) (t : List (Option Parts)) (u v : ℕ) (ns : List ℕ) → ((k : ℕ) (post : List ℕ) → IsTopPair d.slots k u v post → IsPartlySwapped d.slots t u v post) → AreCrossing d u v ns → AreDone d.slots t u v ns → AreUsed d.slots t u → IsRewrittenLevel d.slots t u v
level_done d t u v ns partly crossing done used = record {
  used = used;
  partly = partly;
  done = λ n low high is same. elim (cases_var d.slots v low) [
    | inl has ↦ done n low high (crossing.all n (parts u low high) (record { is = is; var_is = refl; crosses = inl has })) is same
    | inr no_low ↦ elim (cases_var d.slots v high) [
      | inl has ↦ done n low high (crossing.all n (parts u low high) (record { is = is; var_is = refl; crosses = inr has })) is same
      | inr no_high ↦ (no_low, no_high)
    ]
  ];
}

-- what a swap makes of the nodes
pub level_swapped : (s t w : List (Option Parts)) (u v : ℕ) → AreTopPair s u v → IsRewrittenLevel s t u v → w ≡ t → AreSwapped s w u v
level_swapped s t w u v pair level same =
    let way = level.partly pair.bound pair.post pair.top in
    let all : AreSwapped s t u v = record {
      others = way.others;
      upper = λ n low high is. elim (way.upper n low high is) [
        | inl stays ↦ let lacks = level.done n low high is stays in inl (record { is = stays; low_lacks = lacks.0; high_lacks = lacks.1 })
        | inr r ↦ inr r
      ];
      added = λ n p none is. ((way.added n p none is).0, level.used n p none is);
    } in
    rw same all

-- the variables at a place and at the next one
pub record AreAt (d : Diagram) (u v : ℕ) : Type 0 where
  pub upper : u < length d.order
  pub lower : v < length d.order
  pub pair : AreTopPair d.slots u v

diagram_over : (s : List (Option Parts)) (k : ℕ) (vs ws : List ℕ) → vs ≡ ws → IsDiagram s k vs → IsDiagram s k ws
diagram_over s k vs ws e g = rw e at g

pub level_vars : (d : Diagram) (i : ℕ) → IsSound d → i + 1 < length d.order → AreAt d (get_or d.order i 0) (get_or d.order (i + 1) 0)
level_vars d i sound lt =
    let g = sound.diagram in
    let u = get_or d.order i 0 in
    let v = get_or d.order (i + 1) 0 in
    let r = splits_at d.order i lt in
    record {
      upper = below-order (length d.order) d.order u g.order (has_at d.order u i (omega arith) refl);
      lower = below-order (length d.order) d.order v g.order (has_at d.order v (i + 1) lt refl);
      pair = record { bound = length d.order; post = r.post; top = top_pair d.slots (length d.order) u v r.pre r.post (diagram_over d.slots (length d.order) d.order (r.pre ++ u ∷ v ∷ r.post) r.is g) };
    }

-- the level was rewritten and the variables exchanged
pub level_whole : (d t e : Diagram) (i : ℕ) → IsSound d → i + 1 < length d.order → IsRewrittenLevel d.slots t.slots (get_or d.order i 0) (get_or d.order (i + 1) 0) → t.order ≡ d.order → e.order ≡ exchanged t.order i → e.slots ≡ t.slots → IsSlotted e → IsWhole d e
level_whole d t e i sound lt level to eo es slotted =
    let u = get_or d.order i 0 in
    let v = get_or d.order (i + 1) 0 in
    let k = length d.order in
    let r = splits_at d.order i lt in
    let top = top_pair d.slots k u v r.pre r.post (diagram_over d.slots k d.order (r.pre ++ u ∷ v ∷ r.post) r.is sound.diagram) in
    let oe : e.order ≡ r.pre ++ v ∷ u ∷ r.post = eo ∙ ap (λ l. exchanged l i) (to ∙ r.is) ∙ ap (λ j. exchanged (r.pre ++ u ∷ v ∷ r.post) j) (sym r.place) ∙ exchanged-pre r.pre u v r.post in
    let partly : IsPartlySwapped d.slots e.slots u v r.post = rw es (level.partly k r.post top) in
    whole d e u v r.pre r.post sound slotted r.is oe (record {
      top = top;
      ground = slotted.ground;
      partly = partly;
      done = rw es level.done;
    })
