-- The topmost variable of three nodes.
use Rattle.std.proofs.Common.{◌≡◌, ◌≢◌, ◌⊎◌, ℕ, suc, ◌+◌, ◌<◌, ◌≤◌, Bool, true, false, cond, eqb, List, [], ◌∷◌, length, get_or, Option, Some, None, inl, inr, refl, sym, ◌∙◌, ap, arith, eq-eqb}
use Rattle.std.proofs.lemmas.Bool.{cases_eq, cases_Bool, cond-true, cond-false, eqb-true, ne_eqb, false≢true}
use Rattle.bit_lists.specs.Orders.{has, after, place_in}
use Rattle.diagram_model.specs.declared.parts.Parts.{Parts}
use Rattle.diagram_model.specs.Nodes.{parts_of, follow}
use Rattle.diagram_model.specs.Stores.{Diagram, IsLive, IsSound, depth, depth_of, HasVariable}
use Rattle.diagram_model.proofs.Heights.{follow_some, follow_else, follow_none, live_from}
use Rattle.diagram_ops.specs.declared.operands.Operands.{Operands}
use Rattle.diagram_ops.specs.declared.split.Seen.{Seen}
use Rattle.diagram_ops.specs.Operands.{AreLive, SomeHas, IsSplit}
use Rattle.diagram_ops.specs.Seen.{IsSeen, child_at}

-- the variable at the place of v is v
place_at : (vs : List ℕ) (v : ℕ) → has vs v ≡ true → get_or vs (place_in vs v) 0 ≡ v
unfolding has place_in
place_at [] v h = absurd (false≢true h)
place_at (u ∷ us) v h =
    elim (cases_Bool (eqb u v)) [
      | inl e ↦ ap (λ i. get_or (u ∷ us) i 0) (cond-true (eqb u v) 0 (suc (place_in us v)) e) ∙ eqb-true u v e
      | inr e ↦ ap (λ i. get_or (u ∷ us) i 0) (cond-false (eqb u v) 0 (suc (place_in us v)) e) ∙ place_at us v (sym (cond-false (eqb u v) true (has us v) e) ∙ h)
    ]

-- the variables above v, v, and those below it are all
pub place_after : (vs : List ℕ) (v : ℕ) → has vs v ≡ true → length vs ≡ 1 + length (after vs v) + place_in vs v
unfolding has place_in after
place_after [] v h = absurd (false≢true h)
place_after (u ∷ us) v h =
    elim (cases_Bool (eqb u v)) [
      | inl e ↦ omega (arith, ap length (cond-true (eqb u v) us (after us v) e), cond-true (eqb u v) 0 (suc (place_in us v)) e)
      | inr e ↦
          let less = place_after us v (sym (cond-false (eqb u v) true (has us v) e) ∙ h) in
          omega (arith, ap length (cond-false (eqb u v) us (after us v) e), cond-false (eqb u v) 0 (suc (place_in us v)) e, less)
    ]

one_place : (vs : List ℕ) (v w : ℕ) → has vs v ≡ true → has vs w ≡ true → place_in vs v ≡ place_in vs w → v ≡ w
one_place vs v w hv hw e = sym (place_at vs v hv) ∙ ap (λ i. get_or vs i 0) e ∙ place_at vs w hw

-- a node has parts, or none
pub cases_parts : (o : Option Parts) → ((p : Parts) × (o ≡ Some p)) ⊎ (o ≡ None)
cases_parts None = inr refl
cases_parts (Some p) = inl (p, refl)

held_parts : (d : Diagram) (n : ℕ) → IsLive d n → 2 ≤ n → (p : Parts) × (parts_of d.slots n ≡ Some p)
held_parts d n (inl small) big = absurd (omega (arith, small, big))
held_parts d n (inr h) big = (h.parts, h.is)

-- a node with a place among the variables has parts
pub placed_parts : (d : Diagram) (n : ℕ) (r : Seen) → IsSeen d n r → r.place < 256 → (p : Parts) × (parts_of d.slots n ≡ Some p)
placed_parts d n r seen lt = elim (cases_parts (parts_of d.slots n)) [ inl is ↦ is | inr none ↦ absurd (omega (arith, seen.none none, lt)) ]

depth_place : (d : Diagram) (n : ℕ) (p : Parts) → IsSound d → parts_of d.slots n ≡ Some p → depth d n + place_in d.order p.var ≡ length d.order
depth_place d n p s is =
    let at : depth d n ≡ 1 + length (after d.order p.var) = ap (depth_of d.order) is in
    omega (arith, at, place_after d.order p.var (s.diagram.within n p is))

-- a node whose place isn't above that of m is not higher than m
lower : (d : Diagram) (n m : ℕ) (p : Parts) (r t : Seen) → IsSound d → IsSeen d n r → IsSeen d m t → parts_of d.slots m ≡ Some p → t.place ≤ r.place → depth d n ≤ depth d m
lower d n m p r t s seen top is le =
    elim (cases_parts (parts_of d.slots n)) [
      | inl held ↦
          let a = depth_place d n held.0 s held.1 in
          let b = depth_place d m p s is in
          let pn = (seen.held held.0 held.1).place in
          let pm = (top.held p is).place in
          omega (arith, a, b, pn, pm, le)
      | inr none ↦ let z : depth d n ≡ 0 = ap (depth_of d.order) none in omega (arith, z)
    ]

-- what is left of a node once the variable at a place is fixed
pub left : (d : Diagram) (n v place : ℕ) (r : Seen) (b : Bool) → IsSound d → IsSeen d n r → has d.order v ≡ true → place ≡ place_in d.order v → place < 256 → child_at place b r ≡ follow d.slots v b n
left d n v place r b s seen is at within =
    elim (cases_parts (parts_of d.slots n)) [
      | inr none ↦
          let away : r.place ≢ place = λ e. omega (arith, e, seen.none none, within) in
          cond-false (eqb r.place place) (cond b r.high r.low) r.node (ne_eqb r.place place away) ∙ seen.node ∙ sym (follow_none d.slots v b n none)
      | inl held ↦
          let q : Parts = held.0 in
          let rq = seen.held q held.1 in
          elim (cases_eq r.place place) [
            | inl e ↦
                let same : q.var ≡ v = one_place d.order q.var v (s.diagram.within n q held.1) is (sym rq.place ∙ e ∙ at) in
                cond-true (eqb r.place place) (cond b r.high r.low) r.node (eq-eqb r.place place e)
                ∙ ap (λ x. cond b x r.low) rq.high ∙ ap (λ x. cond b q.high x) rq.low
                ∙ sym (follow_some d.slots v b n q held.1 same)
            | inr ne ↦
                let away : q.var ≢ v = λ e. ne (rq.place ∙ ap (place_in d.order) e ∙ sym at) in
                cond-false (eqb r.place place) (cond b r.high r.low) r.node (ne_eqb r.place place ne) ∙ seen.node ∙ sym (follow_else d.slots v b n q held.1 away)
          ]
    ]

-- the topmost of three nodes, with what was read of it
pub record IsTopmost (d : Diagram) (at : Operands) (t : Seen) (m : ℕ) : Type 0 where
  pub seen : IsSeen d m t
  pub one : (m ≡ at.f) ⊎ ((m ≡ at.g) ⊎ (m ≡ at.h))

pub record AreSeen (d : Diagram) (at : Operands) (f g h : Seen) : Type 0 where
  pub of_f : IsSeen d at.f f
  pub of_g : IsSeen d at.g g
  pub of_h : IsSeen d at.h h

pub record IsUpper (f g h t : Seen) : Type 0 where
  pub one : (t ≡ f) ⊎ ((t ≡ g) ⊎ (t ≡ h))
  pub over_f : t.place ≤ f.place
  pub over_g : t.place ≤ g.place
  pub over_h : t.place ≤ h.place

pub upper_of : (f g h u t : Seen) → (u ≡ f) ⊎ (u ≡ g) → u.place ≤ f.place → u.place ≤ g.place → (t ≡ u) ⊎ (t ≡ h) → t.place ≤ u.place → t.place ≤ h.place → IsUpper f g h t
upper_of f g h u t one uf ug two tu th = record {
  one = elim two [
    | inl e ↦ elim one [ inl k ↦ inl (e ∙ k) | inr k ↦ inr (inl (e ∙ k)) ]
    | inr e ↦ inr (inr e)
  ];
  over_f = omega (arith, tu, uf);
  over_g = omega (arith, tu, ug);
  over_h = th;
}

seen_as : (d : Diagram) (n : ℕ) (r t : Seen) → t ≡ r → IsSeen d n r → IsSeen d n t
seen_as d n r t e h = rw e h

top_of : (d : Diagram) (at : Operands) (f g h t : Seen) → AreSeen d at f g h → IsUpper f g h t → (m : ℕ) × IsTopmost d at t m
top_of d at f g h t seen up =
    elim up.one [
      | inl e ↦ (at.f, record { seen = seen_as d at.f f t e seen.of_f; one = inl refl })
      | inr more ↦ elim more [
        | inl e ↦ (at.g, record { seen = seen_as d at.g g t e seen.of_g; one = inr (inl refl) })
        | inr e ↦ (at.h, record { seen = seen_as d at.h h t e seen.of_h; one = inr (inr refl) })
      ]
    ]

placed : (d : Diagram) (n : ℕ) (r t : Seen) → IsLive d n → 2 ≤ n → IsSeen d n r → t.place ≤ r.place → t.place < 256
placed d n r t live big seen le = let p = held_parts d n live big in omega (arith, (seen.held p.0 p.1).within, le)

top_placed : (d : Diagram) (at : Operands) (f g h t : Seen) → AreLive d at → AreSeen d at f g h → IsUpper f g h t → (2 ≤ at.f) ⊎ ((2 ≤ at.g) ⊎ (2 ≤ at.h)) → t.place < 256
top_placed d at f g h t live seen up (inl big) = placed d at.f f t live.0 big seen.of_f up.over_f
top_placed d at f g h t live seen up (inr (inl big)) = placed d at.g g t live.1 big seen.of_g up.over_g
top_placed d at f g h t live seen up (inr (inr big)) = placed d at.h h t live.2 big seen.of_h up.over_h

some_has : (d : Diagram) (at : Operands) (m v : ℕ) → HasVariable d v m → (m ≡ at.f) ⊎ ((m ≡ at.g) ⊎ (m ≡ at.h)) → SomeHas d v at
some_has d at m v has_it (inl e) = inl (rw (sym e) has_it)
some_has d at m v has_it (inr (inl e)) = inr (inl (rw (sym e) has_it))
some_has d at m v has_it (inr (inr e)) = inr (inr (rw (sym e) has_it))

abbrev pub three : ℕ → ℕ → ℕ → Operands
three a b c = record { f = a; g = b; h = c }

operands_same : (a b c x y z : ℕ) → a ≡ x → b ≡ y → c ≡ z → three a b c ≡ three x y z
operands_same a b c x y z p q r = ap (λ k. three k b c) p ∙ ap (λ k. three x k c) q ∙ ap (λ k. three x y k) r

-- the topmost variable, and what is left of the nodes on either side
pub split_is : (d : Diagram) (at : Operands) (f g h t : Seen) (fl gl hl fh gh hh : ℕ) → IsSound d → AreLive d at → AreSeen d at f g h → IsUpper f g h t → (2 ≤ at.f) ⊎ ((2 ≤ at.g) ⊎ (2 ≤ at.h)) → fl ≡ child_at t.place false f → gl ≡ child_at t.place false g → hl ≡ child_at t.place false h → fh ≡ child_at t.place true f → gh ≡ child_at t.place true g → hh ≡ child_at t.place true h → IsSplit d at (record { var = t.var; low = three fl gl hl; high = three fh gh hh })
split_is d at f g h t fl gl hl fh gh hh s live seen up some efl egl ehl efh egh ehh =
    let top = top_of d at f g h t seen up in
    let m = top.0 in
    let lt = top_placed d at f g h t live seen up some in
    let held = placed_parts d m t top.1.seen lt in
    let p : Parts = held.0 in
    let is = held.1 in
    let var : t.var ≡ p.var = (top.1.seen.held p is).var in
    let from_p = λ (n : ℕ) (r : Seen) (l : IsLive d n) (i : IsSeen d n r) (le : t.place ≤ r.place). live_from d n m p s l is (lower d n m p r t s i top.1.seen is le) in
    let of = λ (n c : ℕ) (r : Seen) (b : Bool) (i : IsSeen d n r) (e : c ≡ child_at t.place b r). e ∙ left d n p.var t.place r b s i (s.diagram.within m p is) (top.1.seen.held p is).place lt ∙ ap (λ v. follow d.slots v b n) (sym var) in
    record {
      var = ap (has d.order) var ∙ s.diagram.within m p is;
      below = rw var (from_p at.f f live.0 seen.of_f up.over_f, from_p at.g g live.1 seen.of_g up.over_g, from_p at.h h live.2 seen.of_h up.over_h);
      some = some_has d at m t.var (p, is, sym var) top.1.one;
      low = operands_same fl gl hl (follow d.slots t.var false at.f) (follow d.slots t.var false at.g) (follow d.slots t.var false at.h) (of at.f fl f false seen.of_f efl) (of at.g gl g false seen.of_g egl) (of at.h hl h false seen.of_h ehl);
      high = operands_same fh gh hh (follow d.slots t.var true at.f) (follow d.slots t.var true at.g) (follow d.slots t.var true at.h) (of at.f fh f true seen.of_f efh) (of at.g gh g true seen.of_g egh) (of at.h hh h true seen.of_h ehh);
    }
