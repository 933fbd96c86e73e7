-- Rewriting one node of the upper variable.
use Rattle.std.proofs.Common.{◌≡◌, ◌≢◌, ◌⊎◌, ℕ, ◌<◌, Bool, true, false, cond, List, ◌∷◌, Option, Some, None, inl, inr, refl, sym, ◌∙◌, ap}
use Rattle.std.proofs.lemmas.Bool.{cases_eq, false≢true}
use Rattle.bit_lists.specs.Orders.{has, AreVars}
use Rattle.bit_lists.proofs.Variables.{has-head, has-here}
use Rattle.diagram_model.specs.declared.parts.Parts.{Parts}
use Rattle.diagram_model.specs.Nodes.{parts_of, child, follow, IsLiveIn, AreUnique}
use Rattle.diagram_model.proofs.Canonical.{HasVar, LacksVar, some_same, follow-at, follow-other, after-head, proper-tail, live-follow, same_from_follow, has_not-parts}
use Rattle.diagram_model.proofs.Values.{none_some, live-wider}
use Rattle.diagram_model.proofs.Extend.{same_parts_follow}
use Rattle.node_store.specs.Slots.{parts, Rewrites}
use Rattle.level_swap.specs.Rewriting.{IsTopPair, IsCrossing, GrowsBy, IsPartlySwapped, AreUsed}
use Rattle.level_swap.specs.Swaps.{IsNodeOf, IsRewritten, IsUsed}

abbrev pub Ground : List (Option Parts) → Type 0
Ground s = (m : ℕ) → m < 2 → parts_of s m ≡ None

pub cases_option : (o : Option Parts) → (o ≡ None) ⊎ ((p : Parts) × (o ≡ Some p))
cases_option None = inl refl
cases_option (Some p) = inr (p, refl)

pub var_same : (p q : Parts) → Some p ≡ Some q → p.var ≡ q.var
var_same p q e = ap (λ (r : Parts). r.var) (some_same p q e)

-- the parts of a node of u
pub u_parts : (p : Parts) (u : ℕ) → p.var ≡ u → p ≡ parts u p.low p.high
u_parts p u e = ap (λ w. parts w p.low p.high) e

pub parts_lacks : (t : List (Option Parts)) (u n : ℕ) (p : Parts) → parts_of t n ≡ Some p → p.var ≢ u → LacksVar t u n
parts_lacks t u n p is ne q qs at = ne (var_same p q (sym is ∙ qs) ∙ at)

pub has_lacks : (t : List (Option Parts)) (v n : ℕ) → HasVar t v n → LacksVar t v n → ⊥
has_lacks t v n h lacks = lacks h.0 h.1 h.2

-- following u in the node of u with two children that lack u gives either
pub follow_node_of : (t : List (Option Parts)) (u low high a : ℕ) (b : Bool) → LacksVar t u low → IsNodeOf t u low high a → follow t u b a ≡ cond b high low
follow_node_of t u low high a true lacks (inl h) = ap (λ m. follow t u true m) h.1 ∙ follow-other t u low lacks true ∙ h.0
follow_node_of t u low high a false lacks (inl h) = ap (λ m. follow t u false m) h.1 ∙ follow-other t u low lacks false
follow_node_of t u low high a b lacks (inr h) = follow-at t u a (parts u low high) h.1 refl b

-- the node tells its children
pub node_of_tells : (t : List (Option Parts)) (u low high l h a : ℕ) → LacksVar t u low → LacksVar t u l → IsNodeOf t u low high a → IsNodeOf t u l h a → (low ≡ l) × (high ≡ h)
node_of_tells t u low high l h a x y p q =
    let lo = sym (follow_node_of t u low high a false x p) ∙ follow_node_of t u l h a false y q in
    let hi = sym (follow_node_of t u low high a true x p) ∙ follow_node_of t u l h a true y q in
    (lo, hi)

pub by_case : (P : Bool → Type 0) → P false → P true → (b : Bool) → P b
by_case P f t true = t
by_case P f t false = f

-- nodes of the variables of a list have the same parts
abbrev pub KeepsIn : List (Option Parts) → List (Option Parts) → List ℕ → Type 0
KeepsIn s t vs = (n : ℕ) (p : Parts) → parts_of s n ≡ Some p → has vs p.var ≡ true → parts_of t n ≡ Some p

pub follow_in : (s t : List (Option Parts)) (vs : List ℕ) (n v : ℕ) (b : Bool) → Ground s → Ground t → KeepsIn s t vs → IsLiveIn s vs n → follow t v b n ≡ follow s v b n
follow_in s t vs n v b gs gt keeps (inl h) = follow-other t v n (λ p is at. none_some p (sym (gt n h) ∙ is)) b ∙ sym (follow-other s v n (λ p is at. none_some p (sym (gs n h) ∙ is)) b)
follow_in s t vs n v b gs gt keeps (inr h) = sym (same_parts_follow s t n v b (h.is ∙ sym (keeps n h.parts h.is h.below)))

-- what stands below both variables is as before
pub keeps_post : (s t : List (Option Parts)) (k u v : ℕ) (post : List ℕ) → AreVars k (u ∷ v ∷ post) → IsPartlySwapped s t u v post → KeepsIn s t (v ∷ post)
keeps_post s t k u v post vars partly n p is below =
    partly.others n p is (λ e. false≢true (sym vars.1 ∙ (ap (has (v ∷ post)) (sym e) ∙ below)))

-- what stands below u lacks u afterwards too
pub lacks_after : (s t : List (Option Parts)) (k u v : ℕ) (post : List ℕ) → Ground t → AreVars k (u ∷ v ∷ post) → IsPartlySwapped s t u v post → (m : ℕ) → IsLiveIn s (v ∷ post) m → LacksVar t u m
lacks_after s t k u v post gt vars partly m (inl h) p is at = none_some p (sym (gt m h) ∙ is)
lacks_after s t k u v post gt vars partly m (inr h) p is at =
    let e = var_same h.parts p (sym (keeps_post s t k u v post vars partly m h.parts h.is h.below) ∙ is) in
    false≢true (sym vars.1 ∙ (ap (has (v ∷ post)) (sym (e ∙ at)) ∙ h.below))

pub wider : (s : List (Option Parts)) (v : ℕ) (post : List ℕ) (m : ℕ) → IsLiveIn s post m → IsLiveIn s (v ∷ post) m
wider s v post m h = live-wider s post (v ∷ post) m (λ w g. has-head v w post g) h

-- what stands below v lacks v, before and after
pub lacks_lower : (s t : List (Option Parts)) (k u v : ℕ) (post : List ℕ) → Ground t → AreVars k (u ∷ v ∷ post) → IsPartlySwapped s t u v post → (m : ℕ) → IsLiveIn s post m → LacksVar t v m
lacks_lower s t k u v post gt vars partly m (inl h) p is at = none_some p (sym (gt m h) ∙ is)
lacks_lower s t k u v post gt vars partly m (inr h) p is at =
    let e = var_same h.parts p (sym (keeps_post s t k u v post vars partly m h.parts h.is (has-head v h.parts.var post h.below)) ∙ is) in
    false≢true (sym vars.2.1 ∙ (ap (has post) (sym (e ∙ at)) ∙ h.below))

pub lacks_here : (s : List (Option Parts)) (k u v : ℕ) (post : List ℕ) → Ground s → AreVars k (u ∷ v ∷ post) → (m : ℕ) → IsLiveIn s post m → LacksVar s v m
lacks_here s k u v post gs vars m (inl h) p is at = none_some p (sym (gs m h) ∙ is)
lacks_here s k u v post gs vars m (inr h) p is at =
    false≢true (sym vars.2.1 ∙ (ap (has post) (sym (var_same h.parts p (sym h.is ∙ is) ∙ at)) ∙ h.below))

-- a node below u has v afterwards exactly where it had it
pub has_back : (s t : List (Option Parts)) (k u v : ℕ) (post : List ℕ) → Ground t → AreVars k (u ∷ v ∷ post) → IsPartlySwapped s t u v post → (m : ℕ) → IsLiveIn s (v ∷ post) m → HasVar t v m → HasVar s v m
has_back s t k u v post gt vars partly m (inl h) has = absurd (none_some has.0 (sym (gt m h) ∙ has.1))
has_back s t k u v post gt vars partly m (inr h) has =
    (h.parts, h.is, var_same h.parts has.0 (sym (keeps_post s t k u v post vars partly m h.parts h.is h.below) ∙ has.1) ∙ has.2)

pub lacks_back : (s t : List (Option Parts)) (u v m : ℕ) (post : List ℕ) → u ≢ v → IsPartlySwapped s t u v post → LacksVar t v m → LacksVar s v m
lacks_back s t u v m post ne partly lacks p is at =
    lacks p (partly.others m p is (λ e. ne (sym e ∙ at))) at

-- the two variables are different
pub upper_lower : (k u v : ℕ) (post : List ℕ) → AreVars k (u ∷ v ∷ post) → u ≢ v
upper_lower k u v post vars e = (has_not-parts v u post vars.1).0 (sym e)

-- the children of a node of u
pub record HasChildren (s : List (Option Parts)) (v : ℕ) (post : List ℕ) (low high : ℕ) : Type 0 where
  pub low_live : IsLiveIn s (v ∷ post) low
  pub high_live : IsLiveIn s (v ∷ post) high
  pub differ : low ≢ high
  pub low_down : (b : Bool) → IsLiveIn s post (follow s v b low)
  pub high_down : (b : Bool) → IsLiveIn s post (follow s v b high)

pub children_of : (s : List (Option Parts)) (k u v : ℕ) (post : List ℕ) (n low high : ℕ) → IsTopPair s k u v post → parts_of s n ≡ Some (parts u low high) → HasChildren s v post low high
children_of s k u v post n low high top is =
    let pn = top.proper n (parts u low high) is (has-here u (v ∷ post) u refl) in
    let here = after-head u u (v ∷ post) refl in
    let rest = proper-tail s u (v ∷ post) top.vars.1 top.proper in
    let l : IsLiveIn s (v ∷ post) low = rw (sym here) pn.low in
    let h : IsLiveIn s (v ∷ post) high = rw (sym here) pn.high in
    record {
      low_live = l;
      high_live = h;
      differ = pn.differ;
      low_down = λ b. live-follow s v post low rest l b;
      high_down = λ b. live-follow s v post high rest h b;
    }

-- the same parts below both variables come from the same children
pub same_children : (s t : List (Option Parts)) (k u v : ℕ) (post : List ℕ) (low high l h f g : ℕ) → IsTopPair s k u v post → Ground t → IsPartlySwapped s t u v post → HasChildren s v post low high → HasChildren s v post l h → IsNodeOf t u (follow s v false low) (follow s v false high) f → IsNodeOf t u (follow s v true low) (follow s v true high) g → IsNodeOf t u (follow s v false l) (follow s v false h) f → IsNodeOf t u (follow s v true l) (follow s v true h) g → (low ≡ l) × (high ≡ h)
same_children s t k u v post low high l h f g top gt partly x y af ag bf bg =
    let lacks : (m : ℕ) → IsLiveIn s post m → LacksVar t u m = λ m live. lacks_after s t k u v post gt top.vars partly m (wider s v post m live) in
    let at_false = node_of_tells t u (follow s v false low) (follow s v false high) (follow s v false l) (follow s v false h) f (lacks (follow s v false low) (x.low_down false)) (lacks (follow s v false l) (y.low_down false)) af bf in
    let at_true = node_of_tells t u (follow s v true low) (follow s v true high) (follow s v true l) (follow s v true h) g (lacks (follow s v true low) (x.low_down true)) (lacks (follow s v true l) (y.low_down true)) ag bg in
    let rest = proper-tail s u (v ∷ post) top.vars.1 top.proper in
    let same_low : low ≡ l = same_from_follow s v post low l rest top.unique (λ b. by_case (λ c. follow s v c low ≡ follow s v c l) at_false.0 at_true.0 b) in
    let same_high : high ≡ h = same_from_follow s v post high h rest top.unique (λ b. by_case (λ c. follow s v c high ≡ follow s v c h) at_false.1 at_true.1 b) in
    (same_low, same_high)

-- a node stays one where nodes are added
pub node_grows : (t w : List (Option Parts)) (u low high a : ℕ) → ((n : ℕ) (q : Parts) → parts_of t n ≡ Some q → parts_of w n ≡ Some q) → IsNodeOf t u low high a → IsNodeOf w u low high a
node_grows t w u low high a kept (inl h) = inl h
node_grows t w u low high a kept (inr h) = inr (h.0, kept a (parts u low high) h.1)

pub rewritten_grows : (s t w : List (Option Parts)) (u v n low high : ℕ) → ((n : ℕ) (q : Parts) → parts_of t n ≡ Some q → parts_of w n ≡ Some q) → IsRewritten s t u v n low high → IsRewritten s w u v n low high
rewritten_grows s t w u v n low high kept r = record {
  false_part = r.false_part;
  true_part = r.true_part;
  is = kept n (parts v r.false_part r.true_part) r.is;
  when_false = node_grows t w u (follow s v false low) (follow s v false high) r.false_part kept r.when_false;
  when_true = node_grows t w u (follow s v true low) (follow s v true high) r.true_part kept r.when_true;
  crosses = r.crosses;
}

added_is : (s : List (Option Parts)) (u : ℕ) (post : List ℕ) (l h : ℕ) (p : Parts) → p ≡ parts u l h → IsLiveIn s post l → IsLiveIn s post h → l ≢ h → (p.var ≡ u) × (IsLiveIn s post p.low × IsLiveIn s post p.high × (p.low ≢ p.high))
added_is s u post l h p e x y ne = rw e (refl, (x, y, ne))

-- a node of u is added whose children stand below both variables
pub partly_grows : (s t w : List (Option Parts)) (u v : ℕ) (post : List ℕ) (l h : ℕ) → IsPartlySwapped s t u v post → GrowsBy t w (parts u l h) → IsLiveIn s post l → IsLiveIn s post h → IsPartlySwapped s w u v post
partly_grows s t w u v post l h partly grows x y = record {
  others = λ n p is ne. grows.kept n p (partly.others n p is ne);
  upper = λ n low high is. elim (partly.upper n low high is) [
    | inl same ↦ inl (grows.kept n (parts u low high) same)
    | inr r ↦ inr (rewritten_grows s t w u v n low high grows.kept r)
  ];
  added = λ n p none is. elim (grows.only n p is) [
    | inl old ↦ partly.added n p none old
    | inr new ↦ added_is s u post l h p new.0 x y new.1
  ];
}

-- a node of u with a child of v was so from the start
pub was_before : (s t : List (Option Parts)) (k u v : ℕ) (post : List ℕ) (n low high : ℕ) → IsTopPair s k u v post → Ground t → IsPartlySwapped s t u v post → parts_of t n ≡ Some (parts u low high) → HasVar t v low ⊎ HasVar t v high → parts_of s n ≡ Some (parts u low high)
was_before s t k u v post n low high top gt partly is crosses =
    elim (cases_option (parts_of s n)) [
      | inl none ↦
          let new = partly.added n (parts u low high) none is in
          absurd (elim crosses [
            | inl c ↦ has_lacks t v low c (lacks_lower s t k u v post gt top.vars partly low new.1.0)
            | inr c ↦ has_lacks t v high c (lacks_lower s t k u v post gt top.vars partly high new.1.1)
          ])
      | inr there ↦
          let p = there.0 in
          elim (cases_eq p.var u) [
            | inl e ↦
                let at : parts_of s n ≡ Some (parts u p.low p.high) = there.1 ∙ ap (λ r. Some r) (u_parts p u e) in
                elim (partly.upper n p.low p.high at) [
                  | inl same ↦ at ∙ sym same ∙ is
                  | inr r ↦ absurd (upper_lower k u v post top.vars (sym (var_same (parts v r.false_part r.true_part) (parts u low high) (sym r.is ∙ is))))
                ]
            | inr ne ↦ absurd (ne (var_same p (parts u low high) (sym (partly.others n p there.1 ne) ∙ is)))
          ]
    ]

-- a node whose children lack v is another one than one with a child of v
not_crossing : (t : List (Option Parts)) (u v n low high a l h : ℕ) → parts_of t n ≡ Some (parts u low high) → HasVar t v low ⊎ HasVar t v high → LacksVar t v l → LacksVar t v h → parts_of t a ≡ Some (parts u l h) → a ≢ n
not_crossing t u v n low high a l h is crosses x y at e =
    let same = some_same (parts u l h) (parts u low high) (sym at ∙ ap (parts_of t) e ∙ is) in
    let sl : l ≡ low = ap (λ (r : Parts). r.low) same in
    let sh : h ≡ high = ap (λ (r : Parts). r.high) same in
    elim crosses [
      | inl c ↦ has_lacks t v low c (rw (sym sl) x)
      | inr c ↦ has_lacks t v high c (rw (sym sh) y)
    ]

-- a node of u below both variables stays where a node with a child of v is rewritten
node_rewrites : (t w : List (Option Parts)) (u v n low high : ℕ) (p : Parts) (l h a : ℕ) → Rewrites t w n p → parts_of t n ≡ Some (parts u low high) → HasVar t v low ⊎ HasVar t v high → LacksVar t v l → LacksVar t v h → IsNodeOf t u l h a → IsNodeOf w u l h a
node_rewrites t w u v n low high p l h a rewrites is crosses x y (inl e) = inl e
node_rewrites t w u v n low high p l h a rewrites is crosses x y (inr e) =
    inr (e.0, rewrites.others a (not_crossing t u v n low high a l h is crosses x y e.1) ∙ e.1)

-- The node n of u, which has a child of v, gets the parts of a node of v.
module _ (s t w : List (Option Parts)) (k u v : ℕ) (post : List ℕ) (n low high f g : ℕ) (top : IsTopPair s k u v post) (gt : Ground t) (partly : IsPartlySwapped s t u v post) (is : parts_of t n ≡ Some (parts u low high)) (crosses : HasVar t v low ⊎ HasVar t v high) (when_false : IsNodeOf t u (follow s v false low) (follow s v false high) f) (when_true : IsNodeOf t u (follow s v true low) (follow s v true high) g) where
  was : parts_of s n ≡ Some (parts u low high)
  was = was_before s t k u v post n low high top gt partly is crosses

  children : HasChildren s v post low high
  children = children_of s k u v post n low high top was

  crosses_before : HasVar s v low ⊎ HasVar s v high
  crosses_before = elim crosses [
    | inl c ↦ inl (has_back s t k u v post gt top.vars partly low children.low_live c)
    | inr c ↦ inr (has_back s t k u v post gt top.vars partly high children.high_live c)
  ]

  down_lacks : (m : ℕ) → IsLiveIn s post m → LacksVar t v m
  down_lacks m live = lacks_lower s t k u v post gt top.vars partly m live

  -- both children of a node of v below both variables: then n would have one child
  not_below : IsLiveIn s post f → IsLiveIn s post g → ⊥
  not_below lf lg =
      let lacks : (m : ℕ) → IsLiveIn s post m → LacksVar t u m = λ m live. lacks_after s t k u v post gt top.vars partly m (wider s v post m live) in
      let same : (l h a : ℕ) → IsNodeOf t u l h a → IsLiveIn s post a → l ≡ h = λ l h a node live. elim node [
        | inl e ↦ e.0
        | inr e ↦ absurd (lacks a live (parts u l h) e.1 refl)
      ] in
      let ef = same (follow s v false low) (follow s v false high) f when_false lf in
      let eg = same (follow s v true low) (follow s v true high) g when_true lg in
      let rest = proper-tail s u (v ∷ post) top.vars.1 top.proper in
      children.differ (same_from_follow s v post low high rest top.unique (λ b. by_case (λ c. follow s v c low ≡ follow s v c high) ef eg b))

  -- no node has these parts
  pub parts_new : (m : ℕ) → parts_of t m ≢ Some (parts v f g)
  parts_new m at =
      elim (cases_option (parts_of s m)) [
        | inl none ↦ upper_lower k u v post top.vars (sym (partly.added m (parts v f g) none at).0)
        | inr there ↦
            let p = there.0 in
            elim (cases_eq p.var u) [
              | inl e ↦
                  let mu : parts_of s m ≡ Some (parts u p.low p.high) = there.1 ∙ ap (λ r. Some r) (u_parts p u e) in
                  elim (partly.upper m p.low p.high mu) [
                    | inl same ↦ upper_lower k u v post top.vars (var_same (parts u p.low p.high) (parts v f g) (sym same ∙ at))
                    | inr r ↦
                        let q = some_same (parts v r.false_part r.true_part) (parts v f g) (sym r.is ∙ at) in
                        let qf : r.false_part ≡ f = ap (λ (x : Parts). x.low) q in
                        let qg : r.true_part ≡ g = ap (λ (x : Parts). x.high) q in
                        let both = same_children s t k u v post low high p.low p.high f g top gt partly children (children_of s k u v post m p.low p.high top mu) when_false when_true (rw qf at r.when_false) (rw qg at r.when_true) in
                        let one : m ≡ n = top.unique m n (parts u p.low p.high) mu (was ∙ ap (λ x. Some (parts u x high)) both.0 ∙ ap (λ x. Some (parts u p.low x)) both.1) in
                        upper_lower k u v post top.vars (var_same (parts u low high) (parts v f g) (sym is ∙ ap (parts_of t) (sym one) ∙ at))
                  ]
              | inr ne ↦
                  let same : parts_of s m ≡ Some (parts v f g) = there.1 ∙ sym (partly.others m p there.1 ne) ∙ at in
                  let rest = proper-tail s u (v ∷ post) top.vars.1 top.proper in
                  let pm = rest m (parts v f g) same (has-here v post v refl) in
                  let here = after-head v v post refl in
                  not_below (rw (sym here) pm.low) (rw (sym here) pm.high)
            ]
      ]

  rewritten_stays : Rewrites t w n (parts v f g) → (m l h : ℕ) → parts_of s m ≡ Some (parts u l h) → m ≢ n → IsRewritten s t u v m l h → IsRewritten s w u v m l h
  rewritten_stays rewrites m l h ms ne r =
      let c = children_of s k u v post m l h top ms in
      record {
        false_part = r.false_part;
        true_part = r.true_part;
        is = rewrites.others m ne ∙ r.is;
        when_false = node_rewrites t w u v n low high (parts v f g) (follow s v false l) (follow s v false h) r.false_part rewrites is crosses (down_lacks (follow s v false l) (c.low_down false)) (down_lacks (follow s v false h) (c.high_down false)) r.when_false;
        when_true = node_rewrites t w u v n low high (parts v f g) (follow s v true l) (follow s v true h) r.true_part rewrites is crosses (down_lacks (follow s v true l) (c.low_down true)) (down_lacks (follow s v true h) (c.high_down true)) r.when_true;
        crosses = r.crosses;
      }

  rewritten_here : Rewrites t w n (parts v f g) → IsRewritten s w u v n low high
  rewritten_here rewrites = record {
    false_part = f;
    true_part = g;
    is = rewrites.here;
    when_false = node_rewrites t w u v n low high (parts v f g) (follow s v false low) (follow s v false high) f rewrites is crosses (down_lacks (follow s v false low) (children.low_down false)) (down_lacks (follow s v false high) (children.high_down false)) when_false;
    when_true = node_rewrites t w u v n low high (parts v f g) (follow s v true low) (follow s v true high) g rewrites is crosses (down_lacks (follow s v true low) (children.low_down true)) (down_lacks (follow s v true high) (children.high_down true)) when_true;
    crosses = crosses_before;
  }

  upper_at : Rewrites t w n (parts v f g) → (m l h : ℕ) → parts_of s m ≡ Some (parts u l h) → m ≡ n → IsRewritten s w u v m l h
  upper_at rewrites m l h ms e =
      let same = some_same (parts u low high) (parts u l h) (sym was ∙ ap (parts_of s) (sym e) ∙ ms) in
      let sl : low ≡ l = ap (λ (x : Parts). x.low) same in
      let sh : high ≡ h = ap (λ (x : Parts). x.high) same in
      rw (e, sym sl, sym sh) (rewritten_here rewrites)

  pub partly_rewrites : Rewrites t w n (parts v f g) → IsPartlySwapped s w u v post
  partly_rewrites rewrites = record {
    others = λ m p ms ne. rewrites.others m (λ e. ne (var_same p (parts u low high) (sym ms ∙ ap (parts_of s) e ∙ was))) ∙ partly.others m p ms ne;
    upper = λ m l h ms. elim (cases_eq m n) [
      | inl e ↦ inr (upper_at rewrites m l h ms e)
      | inr ne ↦ elim (partly.upper m l h ms) [
        | inl same ↦ inl (rewrites.others m ne ∙ same)
        | inr r ↦ inr (rewritten_stays rewrites m l h ms ne r)
      ]
    ];
    added = λ m p none ms.
        let ne : m ≢ n = λ e. none_some (parts u low high) (sym none ∙ ap (parts_of s) e ∙ was) in
        partly.added m p none (sym (rewrites.others m ne) ∙ ms);
  }

has_grows : (t w : List (Option Parts)) (p : Parts) (v m : ℕ) → GrowsBy t w p → HasVar t v m → HasVar w v m
has_grows t w p v m grows has = (has.0, grows.kept m has.0 has.1, has.2)

crosses_grow : (t w : List (Option Parts)) (p : Parts) (v low high : ℕ) → GrowsBy t w p → HasVar t v low ⊎ HasVar t v high → HasVar w v low ⊎ HasVar w v high
crosses_grow t w p v low high grows (inl c) = inl (has_grows t w p v low grows c)
crosses_grow t w p v low high grows (inr c) = inr (has_grows t w p v high grows c)

node_child : (a : List (Option Parts)) (u l h f m : ℕ) (q : Parts) → AreUnique a → IsNodeOf a u l h f → parts_of a m ≡ Some q → q ≡ parts u l h → l ≢ h → f ≡ m
node_child a u l h f m q unique (inl same) at e ne = absurd (ne same.0)
node_child a u l h f m q unique (inr made) at e ne = unique f m (parts u l h) made.1 (at ∙ ap (λ r. Some r) e)

held_live : (s : List (Option Parts)) (vs : List ℕ) (m : ℕ) (q : Parts) (t : List (Option Parts)) → Ground t → parts_of s m ≡ None → parts_of t m ≡ Some q → IsLiveIn s vs m → ⊥
held_live s vs m q t gt none at (inl small) = absurd (none_some q (sym (gt m small) ∙ at))
held_live s vs m q t gt none at (inr held) = absurd (none_some held.parts (sym none ∙ held.is))

child_live : (s : List (Option Parts)) (vs : List ℕ) (p : Parts) (b : Bool) → IsLiveIn s vs p.low → IsLiveIn s vs p.high → IsLiveIn s vs (child b p)
child_live s vs p false l h = l
child_live s vs p true l h = h

live_at : (s : List (Option Parts)) (vs : List ℕ) (n m : ℕ) → n ≡ m → IsLiveIn s vs n → IsLiveIn s vs m
live_at s vs n m e h = rw (← e) h

-- The node n with the parts p crosses: its two new children are made, in the slots a and b, and it
-- is rewritten in the slots w.
module _ (s t a b : List (Option Parts)) (k u v : ℕ) (post : List ℕ) (n : ℕ) (p : Parts) (f g : ℕ) (top : IsTopPair s k u v post) (gt : Ground t) (gb : Ground b) (partly : IsPartlySwapped s t u v post) (crossing : IsCrossing t u v n p) (grows_a : GrowsBy t a (parts u (follow t v false p.low) (follow t v false p.high))) (node_a : IsNodeOf a u (follow t v false p.low) (follow t v false p.high) f) (grows_b : GrowsBy a b (parts u (follow t v true p.low) (follow t v true p.high))) (node_b : IsNodeOf b u (follow t v true p.low) (follow t v true p.high) g) where
  at_t : parts_of t n ≡ Some (parts u p.low p.high)
  at_t = crossing.is ∙ ap (λ r. Some r) (u_parts p u crossing.var_is)

  at_s : parts_of s n ≡ Some (parts u p.low p.high)
  at_s = was_before s t k u v post n p.low p.high top gt partly at_t crossing.crosses

  kids : HasChildren s v post p.low p.high
  kids = children_of s k u v post n p.low p.high top at_s

  same_low : (c : Bool) → follow t v c p.low ≡ follow s v c p.low
  same_low c = follow_in s t (v ∷ post) p.low v c top.ground gt (keeps_post s t k u v post top.vars partly) kids.low_live

  same_high : (c : Bool) → follow t v c p.high ≡ follow s v c p.high
  same_high c = follow_in s t (v ∷ post) p.high v c top.ground gt (keeps_post s t k u v post top.vars partly) kids.high_live

  low_in : (c : Bool) → IsLiveIn s post (follow t v c p.low)
  low_in c = rw (same_low c) (kids.low_down c)

  high_in : (c : Bool) → IsLiveIn s post (follow t v c p.high)
  high_in c = rw (same_high c) (kids.high_down c)

  partly_a : IsPartlySwapped s a u v post
  partly_a = partly_grows s t a u v post (follow t v false p.low) (follow t v false p.high) partly grows_a (low_in false) (high_in false)

  partly_b : IsPartlySwapped s b u v post
  partly_b = partly_grows s a b u v post (follow t v true p.low) (follow t v true p.high) partly_a grows_b (low_in true) (high_in true)

  at_b : parts_of b n ≡ Some (parts u p.low p.high)
  at_b = grows_b.kept n (parts u p.low p.high) (grows_a.kept n (parts u p.low p.high) at_t)

  crosses_b : HasVar b v p.low ⊎ HasVar b v p.high
  crosses_b = crosses_grow a b (parts u (follow t v true p.low) (follow t v true p.high)) v p.low p.high grows_b (crosses_grow t a (parts u (follow t v false p.low) (follow t v false p.high)) v p.low p.high grows_a crossing.crosses)

  false_b : IsNodeOf b u (follow s v false p.low) (follow s v false p.high) f
  false_b = rw (same_low false, same_high false) at (node_grows a b u (follow t v false p.low) (follow t v false p.high) f grows_b.kept node_a)

  true_b : IsNodeOf b u (follow s v true p.low) (follow s v true p.high) g
  true_b = rw (same_low true, same_high true) at node_b

  pub crossed_new : (m : ℕ) → parts_of b m ≢ Some (parts v f g)
  crossed_new = parts_new s b b k u v post n p.low p.high f g top gb partly_b at_b crosses_b false_b true_b

  pub crossed_partly : (w : List (Option Parts)) → Rewrites b w n (parts v f g) → IsPartlySwapped s w u v post
  crossed_partly w rewrites = partly_rewrites s b w k u v post n p.low p.high f g top gb partly_b at_b crosses_b false_b true_b rewrites

  -- the nodes that were added are children of rewritten nodes
  pub crossed_used : AreUnique a → AreUnique b → (w : List (Option Parts)) → Rewrites b w n (parts v f g) → AreUsed s t u → AreUsed s w u
  crossed_used ua ub w rewrites used m q none is =
      let ne : m ≢ n = λ e. none_some (parts u p.low p.high) (sym none ∙ ap (parts_of s) e ∙ at_s) in
      let there : parts_of b m ≡ Some q = sym (rewrites.others m ne) ∙ is in
      let hangs : (c : Bool) → child c (parts v f g) ≡ m → IsUsed s w u m = λ c e. record { parent = n; before = parts u p.low p.high; was = at_s; var_is = refl; its = parts v f g; is = rewrites.here; side = c; there = e } in
      elim (grows_b.only m q there) [
        | inl at_a ↦ elim (grows_a.only m q at_a) [
          | inl old ↦
              let h = used m q none old in
              elim (cases_eq h.parent n) [
                | inl e ↦
                    let same : h.its ≡ p = some_same h.its p (sym h.is ∙ ap (parts_of t) e ∙ crossing.is) in
                    let at : child h.side p ≡ m = ap (child h.side) (sym same) ∙ h.there in
                    absurd (held_live s (v ∷ post) m q t gt none old (live_at s (v ∷ post) (child h.side p) m at (child_live s (v ∷ post) p h.side kids.low_live kids.high_live)))
                | inr other ↦ record {
                  parent = h.parent;
                  before = h.before;
                  was = h.was;
                  var_is = h.var_is;
                  its = h.its;
                  is = rewrites.others h.parent other ∙ grows_b.kept h.parent h.its (grows_a.kept h.parent h.its h.is);
                  side = h.side;
                  there = h.there;
                }
              ]
          | inr new ↦ hangs false (node_child a u (follow t v false p.low) (follow t v false p.high) f m q ua node_a at_a new.0 new.1)
        ]
        | inr new ↦ hangs true (node_child b u (follow t v true p.low) (follow t v true p.high) g m q ub node_b there new.0 new.1)
      ]
