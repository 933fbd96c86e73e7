-- A store whose upper variable's nodes were all rewritten is a diagram in the new order, and its live
-- nodes keep their functions.
use Rattle.std.proofs.Common.{◌≡◌, ◌≢◌, ℕ, ◌+◌, ◌<◌, Bool, true, false, cond, eqb, List, [], ◌∷◌, ◌++◌, length, Option, Some, inl, inr, refl, sym, ◌∙◌, ap, arith, zero, suc, get_or}
use Rattle.std.proofs.lemmas.Bool.{cases_eq, false≢true, cases_Bool}
use Rattle.bit_lists.specs.Orders.{has, after, AreVars, exchanged}
use Rattle.bit_lists.proofs.Variables.{has-tail, has-head, has-here}
use Rattle.diagram_model.specs.declared.parts.Parts.{Parts}
use Rattle.diagram_model.specs.Nodes.{parts_of, follow, walk, value, IsLiveIn, IsProper, AreProper, IsDiagram}
use Rattle.diagram_model.specs.Stores.{Diagram, IsSound, KeepsFunctions}
use Rattle.diagram_model.proofs.Canonical.{LacksVar, cases_var, some_same, follow-at, follow-other, after-head, after-tail, proper-tail, live-follow, live-rest, has_not-parts}
use Rattle.diagram_model.proofs.Values.{none_some, has-after}
use Rattle.node_store.specs.Slots.{parts, IsSlotted}
use Rattle.level_swap.specs.Rewriting.{IsTopPair, IsPartlySwapped}
use Rattle.level_swap.specs.Swaps.{IsNodeOf, IsRewritten}
use Rattle.level_swap.proofs.Steps.{Ground, cases_option, var_same, u_parts, parts_lacks, follow_node_of, node_of_tells, KeepsIn, follow_in, keeps_post, lacks_after, wider, upper_lower, children_of}

-- t is s once every node of u with a child of v is rewritten
pub record IsSwapped (s t : List (Option Parts)) (k u v : ℕ) (post : List ℕ) : Type 0 where
  pub top : IsTopPair s k u v post
  pub ground : Ground t
  pub partly : IsPartlySwapped s t u v post
  pub done : (n low high : ℕ) → parts_of s n ≡ Some (parts u low high) → parts_of t n ≡ Some (parts u low high) → LacksVar s v low × LacksVar s v high

-- nodes of other variables are as before
pub was_other : (s t : List (Option Parts)) (u v : ℕ) (post : List ℕ) (n : ℕ) (p : Parts) → IsPartlySwapped s t u v post → parts_of t n ≡ Some p → p.var ≢ u → p.var ≢ v → parts_of s n ≡ Some p
was_other s t u v post n p partly is nu nv =
    elim (cases_option (parts_of s n)) [
      | inl none ↦ absurd (nu (partly.added n p none is).0)
      | inr there ↦
          let q = there.0 in
          elim (cases_eq q.var u) [
            | inl e ↦ elim (partly.upper n q.low q.high (there.1 ∙ ap (λ r. Some r) (u_parts q u e))) [
              | inl same ↦ absurd (nu (sym (var_same (parts u q.low q.high) p (sym same ∙ is))))
              | inr r ↦ absurd (nv (sym (var_same (parts v r.false_part r.true_part) p (sym r.is ∙ is))))
            ]
            | inr ne ↦ there.1 ∙ sym (partly.others n q there.1 ne) ∙ is
          ]
    ]

-- what stands below u in a list without u stands there afterwards
pub live_others : (s t : List (Option Parts)) (u v : ℕ) (post vs : List ℕ) (n : ℕ) → IsPartlySwapped s t u v post → has vs u ≡ false → IsLiveIn s vs n → IsLiveIn t vs n
live_others s t u v post vs n partly out (inl h) = inl h
live_others s t u v post vs n partly out (inr h) =
    inr (record { parts = h.parts; is = partly.others n h.parts h.is (λ e. false≢true (sym out ∙ ap (has vs) (sym e) ∙ h.below)); below = h.below })

has_swap : (u v : ℕ) (post : List ℕ) (w : ℕ) → has (u ∷ v ∷ post) w ≡ true → has (v ∷ u ∷ post) w ≡ true
has_swap u v post w h =
    elim (cases_eq w v) [
      | inl e ↦ has-here v (u ∷ post) w e
      | inr nv ↦ has-head v w (u ∷ post) (elim (cases_eq w u) [
        | inl e ↦ has-here u post w e
        | inr nu ↦ has-head u w post (has-tail v w post (has-tail u w (v ∷ post) h (λ e. nu (sym e))) (λ e. nv (sym e)))
      ])
    ]

cons_has : (w x : ℕ) (us bs : List ℕ) → (has us x ≡ true → has bs x ≡ true) → has (w ∷ us) x ≡ true → has (w ∷ bs) x ≡ true
cons_has w x us bs f h =
    elim (cases_eq x w) [
      | inl e ↦ has-here w bs x e
      | inr ne ↦ has-head w x bs (f (has-tail w x us h (λ e. ne (sym e))))
    ]

pub has_exchanged : (u v : ℕ) (pre post : List ℕ) (w : ℕ) → has (pre ++ u ∷ v ∷ post) w ≡ true → has (pre ++ v ∷ u ∷ post) w ≡ true
has_exchanged u v [] post w h = has_swap u v post w h
has_exchanged u v (x ∷ pre) post w h = cons_has x w (pre ++ u ∷ v ∷ post) (pre ++ v ∷ u ∷ post) (has_exchanged u v pre post w) h

has_pre : (pre rest : List ℕ) (w : ℕ) → has rest w ≡ true → has (pre ++ rest) w ≡ true
has_pre [] rest w h = h
has_pre (x ∷ pre) rest w h = has-head x w (pre ++ rest) (has_pre pre rest w h)

-- what is live in the old order is live in the new one
pub live_swapped : (s t : List (Option Parts)) (u v : ℕ) (pre post : List ℕ) (n : ℕ) → IsPartlySwapped s t u v post → IsLiveIn s (pre ++ u ∷ v ∷ post) n → IsLiveIn t (pre ++ v ∷ u ∷ post) n
live_swapped s t u v pre post n partly (inl h) = inl h
live_swapped s t u v pre post n partly (inr h) =
    let vs = pre ++ v ∷ u ∷ post in
    elim (cases_eq h.parts.var u) [
      | inl e ↦ elim (partly.upper n h.parts.low h.parts.high (h.is ∙ ap (λ r. Some r) (u_parts h.parts u e))) [
        | inl same ↦ inr (record { parts = parts u h.parts.low h.parts.high; is = same; below = has_pre pre (v ∷ u ∷ post) u (has-head v u (u ∷ post) (has-here u post u refl)) })
        | inr r ↦ inr (record { parts = parts v r.false_part r.true_part; is = r.is; below = has_pre pre (v ∷ u ∷ post) v (has-here v (u ∷ post) v refl) })
      ]
      | inr ne ↦ inr (record { parts = h.parts; is = partly.others n h.parts h.is ne; below = has_exchanged u v pre post h.parts.var h.below })
    ]

-- the new node of v has different children
parts_differ : (s t : List (Option Parts)) (k u v : ℕ) (post : List ℕ) (n low high : ℕ) → IsSwapped s t k u v post → parts_of s n ≡ Some (parts u low high) → (r : IsRewritten s t u v n low high) → r.false_part ≢ r.true_part
parts_differ s t k u v post n low high swapped is r e =
    let top = swapped.top in
    let c = children_of s k u v post n low high top is in
    let lacks : (m : ℕ) → IsLiveIn s post m → LacksVar t u m = λ m live. lacks_after s t k u v post swapped.ground top.vars swapped.partly m (wider s v post m live) in
    let same = node_of_tells t u (follow s v false low) (follow s v false high) (follow s v true low) (follow s v true high) r.true_part
    (lacks (follow s v false low) (c.low_down false)) (lacks (follow s v true low) (c.low_down true)) (rw e at r.when_false) r.when_true in
    let rest = proper-tail s u (v ∷ post) top.vars.1 top.proper in
    let fixed : (m : ℕ) → IsLiveIn s (v ∷ post) m → follow s v false m ≡ follow s v true m → LacksVar s v m = λ m live eq p ps at.
    (rest m p ps (has-here v post p.var at)).differ (sym (follow-at s v m p ps at false) ∙ eq ∙ follow-at s v m p ps at true) in
    elim r.crosses [
      | inl x ↦ fixed low c.low_live same.0 x.0 x.1 x.2
      | inr x ↦ fixed high c.high_live same.1 x.0 x.1 x.2
    ]

-- a node of u in the new slots that is given by its children stands below v
live_node : (s t : List (Option Parts)) (u v : ℕ) (post : List ℕ) (l h a : ℕ) → IsPartlySwapped s t u v post → has post u ≡ false → IsNodeOf t u l h a → IsLiveIn s post l → IsLiveIn t (u ∷ post) a
live_node s t u v post l h a partly out (inl e) live =
    let live_l : IsLiveIn t (u ∷ post) l = wider t u post l (live_others s t u v post post l partly out live) in
    rw e.1 live_l
live_node s t u v post l h a partly out (inr e) live = inr (record { parts = parts u l h; is = e.1; below = has-here u post u refl })

after_lower : (u v : ℕ) (post : List ℕ) → after (v ∷ u ∷ post) v ≡ u ∷ post
after_lower u v post = after-head v v (u ∷ post) refl

after_upper : (u v : ℕ) (post : List ℕ) → v ≢ u → after (v ∷ u ∷ post) u ≡ post
after_upper u v post ne = after-tail v u (u ∷ post) ne ∙ after-head u u post refl

out_after : (vs : List ℕ) (w u : ℕ) → has vs u ≡ false → has (after vs w) u ≡ false
out_after vs w u out = elim (cases_Bool (has (after vs w) u)) [ inl e ↦ absurd (false≢true (sym out ∙ has-after vs w u e)) | inr e ↦ e ]

proper_at : (t : List (Option Parts)) (vs ws : List ℕ) (p : Parts) → after vs p.var ≡ ws → IsLiveIn t ws p.low → IsLiveIn t ws p.high → p.low ≢ p.high → IsProper t vs p
proper_at t vs ws p e l h ne = record { low = rw e l; high = rw e h; differ = ne }

-- the two exchanged variables and those below them
module _ (s t : List (Option Parts)) (k u v : ℕ) (post : List ℕ) (swapped : IsSwapped s t k u v post) where
  out_u : has post u ≡ false
  out_u = (has_not-parts v u post swapped.top.vars.1).1

  distinct : u ≢ v
  distinct = upper_lower k u v post swapped.top.vars

  -- a node of v
  proper_lower : (n : ℕ) (p : Parts) → parts_of t n ≡ Some p → p.var ≡ v → IsProper t (v ∷ u ∷ post) p
  proper_lower n p is pv =
      let at : after (v ∷ u ∷ post) p.var ≡ u ∷ post = ap (after (v ∷ u ∷ post)) pv ∙ after_lower u v post in
      elim (cases_option (parts_of s n)) [
        | inl none ↦ absurd (distinct (sym (swapped.partly.added n p none is).0 ∙ pv))
        | inr there ↦
            let q = there.0 in
            elim (cases_eq q.var u) [
              | inl e ↦
                  let nu = there.1 ∙ ap (λ r. Some r) (u_parts q u e) in
                  elim (swapped.partly.upper n q.low q.high nu) [
                    | inl same ↦ absurd (distinct (var_same (parts u q.low q.high) p (sym same ∙ is) ∙ pv))
                    | inr r ↦
                        let c = children_of s k u v post n q.low q.high swapped.top nu in
                        let is_p : parts v r.false_part r.true_part ≡ p = some_same (parts v r.false_part r.true_part) p (sym r.is ∙ is) in
                        let el : r.false_part ≡ p.low = ap (λ (x : Parts). x.low) is_p in
                        let eh : r.true_part ≡ p.high = ap (λ (x : Parts). x.high) is_p in
                        let l : IsLiveIn t (u ∷ post) r.false_part = live_node s t u v post (follow s v false q.low) (follow s v false q.high) r.false_part swapped.partly out_u r.when_false (c.low_down false) in
                        let h : IsLiveIn t (u ∷ post) r.true_part = live_node s t u v post (follow s v true q.low) (follow s v true q.high) r.true_part swapped.partly out_u r.when_true (c.low_down true) in
                        proper_at t (v ∷ u ∷ post) (u ∷ post) p at (rw el at l) (rw eh at h)
                        (λ eq. parts_differ s t k u v post n q.low q.high swapped nu r (el ∙ eq ∙ sym eh))
                  ]
              | inr ne ↦
                  let same : parts_of s n ≡ Some p = there.1 ∙ sym (swapped.partly.others n q there.1 ne) ∙ is in
                  let rest = proper-tail s u (v ∷ post) swapped.top.vars.1 swapped.top.proper in
                  let h = rest n p same (has-here v post p.var pv) in
                  let here : after (v ∷ post) p.var ≡ post = after-head v p.var post (sym pv) in
                  let l : IsLiveIn s post p.low = rw (sym here) h.low in
                  let g : IsLiveIn s post p.high = rw (sym here) h.high in
                  proper_at t (v ∷ u ∷ post) (u ∷ post) p at
                  (wider t u post p.low (live_others s t u v post post p.low swapped.partly out_u l))
                  (wider t u post p.high (live_others s t u v post post p.high swapped.partly out_u g)) h.differ
            ]
      ]

  -- a node of u
  proper_upper : (n : ℕ) (p : Parts) → parts_of t n ≡ Some p → p.var ≡ u → IsProper t (v ∷ u ∷ post) p
  proper_upper n p is pu =
      let at : after (v ∷ u ∷ post) p.var ≡ post = ap (after (v ∷ u ∷ post)) pu ∙ after_upper u v post (λ e. distinct (sym e)) in
      let stay : (m : ℕ) → IsLiveIn s post m → IsLiveIn t post m = λ m live. live_others s t u v post post m swapped.partly out_u live in
      elim (cases_option (parts_of s n)) [
        | inl none ↦
            let new = swapped.partly.added n p none is in
            proper_at t (v ∷ u ∷ post) post p at (stay p.low new.1.0) (stay p.high new.1.1) new.1.2
        | inr there ↦
            let q = there.0 in
            elim (cases_eq q.var u) [
              | inl e ↦
                  let nu = there.1 ∙ ap (λ r. Some r) (u_parts q u e) in
                  elim (swapped.partly.upper n q.low q.high nu) [
                    | inl same ↦
                        let c = children_of s k u v post n q.low q.high swapped.top nu in
                        let no = swapped.done n q.low q.high nu same in
                        let is_p : parts u q.low q.high ≡ p = some_same (parts u q.low q.high) p (sym same ∙ is) in
                        let el : q.low ≡ p.low = ap (λ (x : Parts). x.low) is_p in
                        let eh : q.high ≡ p.high = ap (λ (x : Parts). x.high) is_p in
                        let l : IsLiveIn t post q.low = stay q.low (live-rest s v post q.low no.0 c.low_live) in
                        let h : IsLiveIn t post q.high = stay q.high (live-rest s v post q.high no.1 c.high_live) in
                        proper_at t (v ∷ u ∷ post) post p at (rw el at l) (rw eh at h) (λ eq. c.differ (el ∙ eq ∙ sym eh))
                    | inr r ↦ absurd (distinct (sym pu ∙ sym (var_same (parts v r.false_part r.true_part) p (sym r.is ∙ is))))
                  ]
              | inr ne ↦ absurd (ne (var_same q p (sym (swapped.partly.others n q there.1 ne) ∙ is) ∙ pu))
            ]
      ]

  -- a node below both
  proper_post : (n : ℕ) (p : Parts) → parts_of t n ≡ Some p → p.var ≢ u → p.var ≢ v → has (v ∷ u ∷ post) p.var ≡ true → IsProper t (v ∷ u ∷ post) p
  proper_post n p is nu nv below =
      let same = was_other s t u v post n p swapped.partly is nu nv in
      let in_post : has post p.var ≡ true = has-tail u p.var post (has-tail v p.var (u ∷ post) below (λ e. nv (sym e))) (λ e. nu (sym e)) in
      let h = swapped.top.proper n p same (has-head u p.var (v ∷ post) (has-head v p.var post in_post)) in
      let old : after (u ∷ v ∷ post) p.var ≡ after post p.var = after-tail u p.var (v ∷ post) (λ e. nu (sym e)) ∙ after-tail v p.var post (λ e. nv (sym e)) in
      let new : after (v ∷ u ∷ post) p.var ≡ after post p.var = after-tail v p.var (u ∷ post) (λ e. nv (sym e)) ∙ after-tail u p.var post (λ e. nu (sym e)) in
      let l : IsLiveIn s (after post p.var) p.low = rw (sym old) h.low in
      let g : IsLiveIn s (after post p.var) p.high = rw (sym old) h.high in
      let out = out_after post p.var u out_u in
      proper_at t (v ∷ u ∷ post) (after post p.var) p new
      (live_others s t u v post (after post p.var) p.low swapped.partly out l) (live_others s t u v post (after post p.var) p.high swapped.partly out g) h.differ

  pub proper_pair : AreProper t (v ∷ u ∷ post)
  proper_pair n p is below =
      elim (cases_eq p.var v) [
        | inl pv ↦ proper_lower n p is pv
        | inr nv ↦ elim (cases_eq p.var u) [
          | inl pu ↦ proper_upper n p is pu
          | inr nu ↦ proper_post n p is nu nv below
        ]
      ]

-- all variables
pub proper_all : (s t : List (Option Parts)) (k u v : ℕ) (pre post : List ℕ) → IsSwapped s t k u v post → AreVars k (pre ++ u ∷ v ∷ post) → AreProper s (pre ++ u ∷ v ∷ post) → AreProper t (pre ++ v ∷ u ∷ post)
proper_all s t k u v [] post swapped vars proper n p is below = proper_pair s t k u v post swapped n p is below
proper_all s t k u v (w ∷ pre) post swapped vars proper n p is below =
    let old = pre ++ u ∷ v ∷ post in
    let new = pre ++ v ∷ u ∷ post in
    elim (cases_eq w p.var) [
      | inl e ↦
          let in_u : has old u ≡ true = has_pre pre (u ∷ v ∷ post) u (has-here u (v ∷ post) u refl) in
          let in_v : has old v ≡ true = has_pre pre (u ∷ v ∷ post) v (has-head u v (v ∷ post) (has-here v post v refl)) in
          let nu : p.var ≢ u = λ at. false≢true (sym vars.1 ∙ ap (has old) (e ∙ at) ∙ in_u) in
          let nv : p.var ≢ v = λ at. false≢true (sym vars.1 ∙ ap (has old) (e ∙ at) ∙ in_v) in
          let same = was_other s t u v post n p swapped.partly is nu nv in
          let h = proper n p same (has-here w old p.var (sym e)) in
          let here : after (w ∷ old) p.var ≡ old = after-head w p.var old e in
          let l : IsLiveIn s old p.low = rw (sym here) h.low in
          let g : IsLiveIn s old p.high = rw (sym here) h.high in
          proper_at t (w ∷ new) new p (after-head w p.var new e) (live_swapped s t u v pre post p.low swapped.partly l) (live_swapped s t u v pre post p.high swapped.partly g) h.differ
      | inr ne ↦
          let h = proper_all s t k u v pre post swapped vars.2 (proper-tail s w old vars.1 proper) n p is (has-tail w p.var new below ne) in
          proper_at t (w ∷ new) (after new p.var) p (after-tail w p.var new ne) h.low h.high h.differ
    ]

-- below both variables a live node leads to the same node as before
cond_swap : (s : List (Option Parts)) (v low high : ℕ) (a b : Bool) → cond a (follow s v b high) (follow s v b low) ≡ follow s v b (cond a high low)
cond_swap s v low high true b = refl
cond_swap s v low high false b = refl

either : (s t : List (Option Parts)) (u v low high p q : ℕ) (a b : Bool) → LacksVar t u (follow s v b low) → IsNodeOf t u (follow s v false low) (follow s v false high) p → IsNodeOf t u (follow s v true low) (follow s v true high) q → follow t u a (cond b q p) ≡ cond a (follow s v b high) (follow s v b low)
either s t u v low high p q a true lacks wf wt = follow_node_of t u (follow s v true low) (follow s v true high) q a lacks wt
either s t u v low high p q a false lacks wf wt = follow_node_of t u (follow s v false low) (follow s v false high) p a lacks wf

rewritten_follow : (s t : List (Option Parts)) (u v n low high : ℕ) → u ≢ v → ((b : Bool) → LacksVar t u (follow s v b low)) → parts_of s n ≡ Some (parts u low high) → IsRewritten s t u v n low high → (a b : Bool) → follow t u a (follow t v b n) ≡ follow s v b (follow s u a n)
rewritten_follow s t u v n low high ne lacks is r a b =
    let up : follow s u a n ≡ cond a high low = follow-at s u n (parts u low high) is refl a in
    let down : follow t v b n ≡ cond b r.true_part r.false_part = follow-at t v n (parts v r.false_part r.true_part) r.is refl b in
    ap (λ m. follow t u a m) down ∙ either s t u v low high r.false_part r.true_part a b (lacks b) r.when_false r.when_true ∙ cond_swap s v low high a b ∙ ap (λ m. follow s v b m) (sym up)

kept_child : (s : List (Option Parts)) (v low high : ℕ) → LacksVar s v low → LacksVar s v high → (a b : Bool) → follow s v b (cond a high low) ≡ cond a high low
kept_child s v low high ll lh true b = follow-other s v high lh b
kept_child s v low high ll lh false b = follow-other s v low ll b

follow_kept : (s t : List (Option Parts)) (u v n low high : ℕ) → u ≢ v → parts_of s n ≡ Some (parts u low high) → parts_of t n ≡ Some (parts u low high) → LacksVar s v low → LacksVar s v high → (a b : Bool) → follow t u a (follow t v b n) ≡ follow s v b (follow s u a n)
follow_kept s t u v n low high ne is kept ll lh a b =
    let up : follow s u a n ≡ cond a high low = follow-at s u n (parts u low high) is refl a in
    ap (follow t u a) (follow-other t v n (parts_lacks t v n (parts u low high) kept ne) b) ∙ follow-at t u n (parts u low high) kept refl a
    ∙ sym (ap (follow s v b) up ∙ kept_child s v low high ll lh a b)

pub swap_follow : (s t : List (Option Parts)) (k u v : ℕ) (post : List ℕ) → IsSwapped s t k u v post → (n : ℕ) → IsLiveIn s (u ∷ v ∷ post) n → (a b : Bool) → follow t u a (follow t v b n) ≡ follow s v b (follow s u a n)
swap_follow s t k u v post swapped n live a b =
    let top = swapped.top in
    let partly = swapped.partly in
    let rest = proper-tail s u (v ∷ post) top.vars.1 top.proper in
    let ne = upper_lower k u v post top.vars in
    let lacks : (m : ℕ) → IsLiveIn s post m → LacksVar t u m = λ m h. lacks_after s t k u v post swapped.ground top.vars partly m (wider s v post m h) in
    elim (cases_var s u n) [
      | inl at ↦
          let is : parts_of s n ≡ Some (parts u at.0.low at.0.high) = at.1 ∙ ap (λ r. Some r) (u_parts at.0 u at.2) in
          let c = children_of s k u v post n at.0.low at.0.high top is in
          elim (partly.upper n at.0.low at.0.high is) [
            | inl kept ↦
                let no = swapped.done n at.0.low at.0.high is kept in
                follow_kept s t u v n at.0.low at.0.high ne is kept no.0 no.1 a b
            | inr r ↦
                rewritten_follow s t u v n at.0.low at.0.high ne (λ d. lacks (follow s v d at.0.low) (c.low_down d)) is r a b
          ]
      | inr absent ↦
          let below : IsLiveIn s (v ∷ post) n = live-rest s u (v ∷ post) n absent live in
          let first : follow t v b n ≡ follow s v b n = follow_in s t (v ∷ post) n v b top.ground swapped.ground (keeps_post s t k u v post top.vars partly) below in
          let stays : follow t u a (follow s v b n) ≡ follow s v b n = follow-other t u (follow s v b n) (lacks (follow s v b n) (live-follow s v post n rest below b)) a in
          ap (follow t u a) first ∙ stays ∙ ap (follow s v b) (sym (follow-other s u n absent a))
    ]

walk_in : (s t : List (Option Parts)) (k : ℕ) (vs : List ℕ) (n : ℕ) → Ground s → Ground t → AreVars k vs → AreProper s vs → KeepsIn s t vs → IsLiveIn s vs n → (x : ℕ → Bool) → walk t vs x n ≡ walk s vs x n
unfolding walk
walk_in s t k [] n gs gt vars proper keeps live x = refl
walk_in s t k (v ∷ vs) n gs gt vars proper keeps live x =
    ap (λ m. walk t vs x m) (follow_in s t (v ∷ vs) n v (x v) gs gt keeps live)
    ∙ walk_in s t k vs (follow s v (x v) n) gs gt vars.2 (proper-tail s v vs vars.1 proper) (λ m p is below. keeps m p is (has-head v p.var vs below)) (live-follow s v vs n proper live (x v)) x

walk_pair : (s t : List (Option Parts)) (k u v : ℕ) (post : List ℕ) → IsSwapped s t k u v post → (n : ℕ) → IsLiveIn s (u ∷ v ∷ post) n → (x : ℕ → Bool) → walk t (v ∷ u ∷ post) x n ≡ walk s (u ∷ v ∷ post) x n
unfolding walk
walk_pair s t k u v post swapped n live x =
    let top = swapped.top in
    let rest = proper-tail s u (v ∷ post) top.vars.1 top.proper in
    let down = live-follow s v post (follow s u (x u) n) rest (live-follow s u (v ∷ post) n top.proper live (x u)) (x v) in
    ap (λ m. walk t post x m) (swap_follow s t k u v post swapped n live (x u) (x v))
    ∙ walk_in s t k post (follow s v (x v) (follow s u (x u) n)) top.ground swapped.ground top.vars.2.2 (proper-tail s v post top.vars.2.1 rest) (λ m p is h. keeps_post s t k u v post top.vars swapped.partly m p is (has-head v p.var post h)) down x

-- a variable above both
above_follow : (s t : List (Option Parts)) (k u v : ℕ) (post vs : List ℕ) (w n : ℕ) (b : Bool) → IsSwapped s t k u v post → w ≢ u → w ≢ v → IsLiveIn s vs n → follow t w b n ≡ follow s w b n
above_follow s t k u v post vs w n b swapped nu nv live =
    elim (cases_var s w n) [
      | inl at ↦
          let kept = swapped.partly.others n at.0 at.1 (λ e. nu (sym at.2 ∙ e)) in
          follow-at t w n at.0 kept at.2 b ∙ sym (follow-at s w n at.0 at.1 at.2 b)
      | inr absent ↦ follow-other t w n (lacks_on live absent) b ∙ sym (follow-other s w n absent b)
    ]
  where
    lacks_on : IsLiveIn s vs n → LacksVar s w n → LacksVar t w n
    lacks_on (inl h) absent p is at = none_some p (sym (swapped.ground n h) ∙ is)
    lacks_on (inr h) absent p is at = absent p (was_other s t u v post n p swapped.partly is (λ e. nu (sym at ∙ e)) (λ e. nv (sym at ∙ e))) at

-- Each live node keeps its function once two variables change places.
pub walk_swapped : (s t : List (Option Parts)) (k u v : ℕ) (pre post : List ℕ) → IsSwapped s t k u v post → AreVars k (pre ++ u ∷ v ∷ post) → AreProper s (pre ++ u ∷ v ∷ post) → (n : ℕ) → IsLiveIn s (pre ++ u ∷ v ∷ post) n → (x : ℕ → Bool) → walk t (pre ++ v ∷ u ∷ post) x n ≡ walk s (pre ++ u ∷ v ∷ post) x n
unfolding walk
walk_swapped s t k u v [] post swapped vars proper n live x = walk_pair s t k u v post swapped n live x
walk_swapped s t k u v (w ∷ pre) post swapped vars proper n live x =
    let old = pre ++ u ∷ v ∷ post in
    let in_u : has old u ≡ true = has_pre pre (u ∷ v ∷ post) u (has-here u (v ∷ post) u refl) in
    let in_v : has old v ≡ true = has_pre pre (u ∷ v ∷ post) v (has-head u v (v ∷ post) (has-here v post v refl)) in
    let nu : w ≢ u = λ e. false≢true (sym vars.1 ∙ ap (has old) e ∙ in_u) in
    let nv : w ≢ v = λ e. false≢true (sym vars.1 ∙ ap (has old) e ∙ in_v) in
    ap (λ m. walk t (pre ++ v ∷ u ∷ post) x m) (above_follow s t k u v post (w ∷ old) w n (x w) swapped nu nv live)
    ∙ walk_swapped s t k u v pre post swapped vars.2 (proper-tail s w old vars.1 proper) (follow s w (x w) n) (live-follow s w old n proper live (x w)) x

-- the order as it is split at the two variables
pub exchanged-pre : (pre : List ℕ) (u v : ℕ) (post : List ℕ) → exchanged (pre ++ u ∷ v ∷ post) (length pre) ≡ pre ++ v ∷ u ∷ post
exchanged-pre [] u v post = refl
exchanged-pre (w ∷ pre) u v post = exchanged_suc w (pre ++ u ∷ v ∷ post) (length pre) ∙ ap (λ l. w ∷ l) (exchanged-pre pre u v post)
  where
    exchanged_suc : (w : ℕ) (vs : List ℕ) (i : ℕ) → exchanged (w ∷ vs) (suc i) ≡ w ∷ exchanged vs i
    exchanged_suc w [] i = refl
    exchanged_suc w (x ∷ vs) i = refl

pub record SplitsAt (vs : List ℕ) (i : ℕ) : Type 0 where
  pub pre : List ℕ
  pub post : List ℕ
  pub place : length pre ≡ i
  pub is : vs ≡ pre ++ get_or vs i 0 ∷ get_or vs (i + 1) 0 ∷ post

pub splits_at : (vs : List ℕ) (i : ℕ) → i + 1 < length vs → SplitsAt vs i
splits_at [] i lt = absurd (omega arith)
splits_at (u ∷ []) i lt = absurd (omega arith)
splits_at (u ∷ v ∷ vs) zero lt = record { pre = []; post = vs; place = refl; is = refl }
splits_at (u ∷ v ∷ vs) (suc i) lt =
    let r = splits_at (v ∷ vs) i (omega arith) in
    let e : suc (i + 1) ≡ suc i + 1 = omega arith in
    record { pre = u ∷ r.pre; post = r.post; place = ap suc r.place; is = ap (λ l. u ∷ l) r.is ∙ ap (λ j. u ∷ r.pre ++ get_or (v ∷ vs) i 0 ∷ get_or (u ∷ v ∷ vs) j 0 ∷ r.post) e }

vars_rest : (k : ℕ) (pre vs : List ℕ) → AreVars k (pre ++ vs) → AreVars k vs
vars_rest k [] vs vars = vars
vars_rest k (w ∷ pre) vs vars = vars_rest k pre vs vars.2

proper_rest : (s : List (Option Parts)) (k : ℕ) (pre vs : List ℕ) → AreVars k (pre ++ vs) → AreProper s (pre ++ vs) → AreProper s vs
proper_rest s k [] vs vars proper = proper
proper_rest s k (w ∷ pre) vs vars proper = proper_rest s k pre vs vars.2 (proper-tail s w (pre ++ vs) vars.1 proper)

pub top_pair : (s : List (Option Parts)) (k u v : ℕ) (pre post : List ℕ) → IsDiagram s k (pre ++ u ∷ v ∷ post) → IsTopPair s k u v post
top_pair s k u v pre post g = record {
  ground = g.ground;
  vars = vars_rest k pre (u ∷ v ∷ post) g.order;
  proper = proper_rest s k pre (u ∷ v ∷ post) g.order g.proper;
  unique = g.unique;
}

vars_over : (k : ℕ) (vs ws : List ℕ) → vs ≡ ws → AreVars k vs → AreVars k ws
vars_over k vs ws e h = rw e at h

-- what a whole swap keeps
pub record IsWhole (d e : Diagram) : Type 0 where
  pub sound : IsSound e
  pub functions : KeepsFunctions d e

pub whole : (d e : Diagram) (u v : ℕ) (pre post : List ℕ) → IsSound d → IsSlotted e → d.order ≡ pre ++ u ∷ v ∷ post → e.order ≡ pre ++ v ∷ u ∷ post → IsSwapped d.slots e.slots (length d.order) u v post → IsWhole d e
unfolding value
whole d e u v pre post sound slotted od oe swapped =
    let g = sound.diagram in
    let k = length d.order in
    let vars = vars_over k d.order (pre ++ u ∷ v ∷ post) od g.order in
    let proper : AreProper d.slots (pre ++ u ∷ v ∷ post) = rw od at g.proper in
    let there : AreProper e.slots (pre ++ v ∷ u ∷ post) = proper_all d.slots e.slots k u v pre post swapped vars proper in
    record {
      sound = record {
        diagram = record { ground = slotted.ground; order = slotted.order.once; within = slotted.within; proper = rw oe there; unique = slotted.unique };
        all = slotted.order.all;
        few = slotted.few;
        most = slotted.most;
      };
      functions = record {
        live = λ n live. rw oe (live_swapped d.slots e.slots u v pre post n swapped.partly (rw od at live));
        same = λ n live x. rw (oe, od) (ap (λ m. eqb m 1) (walk_swapped d.slots e.slots k u v pre post swapped vars proper n (rw od at live) x));
      };
    }
