-- How a product goes on, gate by gate, whatever its gates are and however it is kept.
use Rattle.std.proofs.Common.{◌≡◌, ℕ, ◌+◌, List, [], ◌∷◌, ◌++◌, length, suc, ◌<◌, get_or, take, drop, All, Result, Ok, Err, refl, sym, ◌∙◌, ap, subst}
use Rattle.std.proofs.Math.Seq.{split_at}
use Rattle.std.proofs.lemmas.List.{append_assoc, append-nil, take_more}
use Rattle.std.proofs.lemmas.List.Elements.{All-head, All-tail}
use Rattle.circuit_model.specs.Prefixes.{AtEach, IsFirstFailing}
use Rattle.circuit_model.proofs.PrefixLemmas.{AtEach-more}
use Rattle.phases.specs.Phases.{Phase, GoesOn, Through, HasOneEnd, HasSomeEnd}
use Rattle.phases.proofs.Ends.{one_through, some_hands_on, through_more, through_stops}
use Rattle.amp_dense.specs.declared.stop.Stop.{Stop}
use Rattle.amp_dense.specs.declared.stop.Stop.TheVariants.{Width, Nodes, OutOfMemory}
use Rattle.amp_dense.specs.Chains.{StandingOf, PolicyOf, in_order, with_gate, AcceptsWhere, LacksNodes, AppliesWhere, MayStop}

-- t stands by the input and the rules of s, and by these gates more
pub record GoesBy {X G : Type 0} (s : StandingOf X G) (gates : List G) (t : StandingOf X G) : Type 0 where
  pub input : t.input ≡ s.input
  pub rules : t.rules ≡ s.rules
  pub accepted : t.gates ≡ s.gates ++ gates

module _ {X G : Type 0} (Fits : ℕ → X → List G → G → Type 0) (p : PolicyOf X G) where
  abbrev Here : Type 0
  Here = StandingOf X G

  abbrev Comes : Here → G → Phase Here Stop
  Comes = AppliesWhere Fits p

  abbrev Come : Here → List G → Phase Here Stop
  Come = Through (AppliesWhere Fits p)

  -- ---- what stays
  -- gates that came one after the other are the accepted ones
  pub chained : (s : Here) (gates : List G) (t : Here) → Come s gates (Ok t) → GoesBy s gates t
  chained s [] t h =
      let e : t ≡ s = cc in
      record { input = ap (λ (u : Here). u.input) e; rules = ap (λ (u : Here). u.rules) e; accepted = ap (λ (u : Here). u.gates) e ∙ sym (append-nil s.gates) }
  chained s (g ∷ gates) t h = by h.0 h.1 h.2 (λ u. chained u gates t)
    where
      by : (at : Result Here Stop) → Comes s g at → GoesOn (λ u. Come u gates) at (Ok t) → ((u : Here) → Come u gates (Ok t) → GoesBy u gates t) → GoesBy s (g ∷ gates) t
      by (Ok u) a w more =
          let m = more u w in
          let e = a.same in
          record {
            input = m.input ∙ ap (λ (v : Here). v.input) e;
            rules = m.rules ∙ ap (λ (v : Here). v.rules) e;
            accepted = m.accepted ∙ ap (λ (v : Here). v.gates ++ gates) e ∙ append_assoc s.gates (g ∷ []) gates;
          }
      by (Err stop) a w more = absurd (let none : Ok t ≡ Err stop = w in cc)

  -- ---- the gates before a place, and the one there
  module _ (s u : Here) (gates : List G) (i : ℕ) (g : G) (within : i < length gates) (here : g ≡ get_or gates i g) (h : Come s (take i gates) (Ok u)) where
    -- the gate there comes too
    pub chain_on : (t : Here) → Comes u g (Ok t) → Come s (take (i + 1) gates) (Ok t)
    chain_on t a =
        let more = take_more gates i g within ∙ ap (λ (k : G). take i gates ++ k ∷ []) (sym here) in
        subst (λ l. Come s l (Ok t)) (sym more) (through_more (AppliesWhere Fits p) u g s (take i gates) (Ok t) h a)

    -- a stop at it is a stop of all
    halted : (stop : Stop) → Comes u g (Err stop) → Come s gates (Err stop)
    halted stop a =
        let rest = drop (suc i) gates in
        let split = split_at gates i g within ∙ ap (λ (k : G). take i gates ++ k ∷ rest) (sym here) in
        subst (λ l. Come s l (Err stop)) (sym split) (through_stops (AppliesWhere Fits p) u g s (take i gates) rest stop h a)

    -- the same where memory may be wanted
    pub chain_stops : (stop : Stop) → MayStop (Comes u g) stop → MayStop (Come s gates) stop
    chain_stops (Width number) a = halted (Width number) a
    chain_stops (Nodes number order held) a = halted (Nodes number order held) a
    chain_stops OutOfMemory a = tt

  -- ---- at most one end
  module _ (S : Stop → Type 0) (orders : (s : Here) (o q : List ℕ) → p.next_order s o → p.next_order s q → o ≡ q)
      (nodes : (s : Here) (g : G) (number : ℕ) (order : List ℕ) (held : ℕ) → number ≡ length s.gates + 1 → LacksNodes p s g order held → S (Nodes number order held) → ⊥) where
    -- one gate has one end
    pub one_applies : (s : Here) (g : G) → HasOneEnd S (AppliesWhere Fits p s g)
    one_applies s g (Ok t) (Ok u) a b x y = ap Ok (a.same ∙ ap (λ o. with_gate (in_order s o) g) (orders s t.order u.order a.order b.order) ∙ sym b.same)
    one_applies s g (Ok t) (Err (Width m)) a b x y = absurd (b.1 a.fits)
    one_applies s g (Err (Width m)) (Ok t) a b x y = absurd (a.1 b.fits)
    one_applies s g (Err (Width m)) (Err (Width n)) a b x y = ap (λ k. Err (Width k)) (a.0 ∙ sym b.0)
    one_applies s g (Err (Nodes m o h)) b a c x y = absurd (nodes s g m o h a.0 a.1 x)
    one_applies s g a (Err (Nodes m o h)) c b x y = absurd (nodes s g m o h b.0 b.1 y)
    one_applies s g (Err OutOfMemory) b a c x y = absurd a
    one_applies s g a (Err OutOfMemory) c b x y = absurd b

    -- gates in a row have one end
    pub one_chain : (s : Here) (gates : List G) → HasOneEnd S (Through (AppliesWhere Fits p) s gates)
    one_chain = one_through S (AppliesWhere Fits p) one_applies

  -- ---- some end
  module _ (S : Stop → Type 0) (IsReady : Here → Type 0) (On : X → G → Type 0) (comes : (s : Here) (g : G) → IsReady s → On s.input g → HasSomeEnd S (AppliesWhere Fits p s g))
      (next : (s : Here) (g : G) (t : Here) → IsReady s → AcceptsWhere Fits p s g t → IsReady t) where
    -- gates in a row have some end where each has one on what the gates before it leave
    pub some_chain : (s : Here) (gates : List G) → IsReady s → All (On s.input) gates → HasSomeEnd S (Through (AppliesWhere Fits p) s gates)
    some_chain s [] ready on = some_hands_on S s
    some_chain s (g ∷ gates) ready on =
        by (comes s g ready (All-head (On s.input) g gates on))
        (λ t a. some_chain t gates (next s g t ready a) (subst (λ x. All (On x) gates) (sym (ap (λ (v : Here). v.input) a.same)) (All-tail (On s.input) g gates on)))
      where
        by : HasSomeEnd S (Comes s g) → ((t : Here) → AcceptsWhere Fits p s g t → HasSomeEnd S (Come t gates)) → HasSomeEnd S (Come s (g ∷ gates))
        by (Ok t, a, sure) more = let m = more t a in (m.0, (Ok t, a, m.1), m.2)
        by (Err stop, a, sure) more = (Err stop, (Err stop, a, refl), sure)

  -- ---- the first gate that doesn't fit

  -- gates that came all fit
  pub chain_fits : (s : Here) (gates : List G) (t : Here) → AtEach (Fits s.rules.width s.input) s.gates → Come s gates (Ok t) → AtEach (Fits s.rules.width s.input) (s.gates ++ gates)
  chain_fits s [] t all h = subst (AtEach (Fits s.rules.width s.input)) (sym (append-nil s.gates)) all
  chain_fits s (g ∷ gates) t all h = by h.0 h.1 h.2 (λ u more w. chain_fits u gates t more w)
    where
      by : (at : Result Here Stop) → Comes s g at → GoesOn (λ u. Come u gates) at (Ok t)
          → ((u : Here) → AtEach (Fits u.rules.width u.input) u.gates → Come u gates (Ok t) → AtEach (Fits u.rules.width u.input) (u.gates ++ gates))
          → AtEach (Fits s.rules.width s.input) (s.gates ++ g ∷ gates)
      by (Ok u) a w more =
          let v = with_gate (in_order s u.order) g in
          let here = more v (AtEach-more (Fits s.rules.width s.input) s.gates g all a.fits) (subst (λ x. Come x gates (Ok t)) a.same w) in
          subst (AtEach (Fits s.rules.width s.input)) (append_assoc s.gates (g ∷ []) gates) here
      by (Err stop) a w more = absurd (let none : Ok t ≡ Err stop = w in cc)

  -- the one that stops is the first that doesn't fit
  pub chain_unfit : (s : Here) (gates : List G) (number : ℕ) → AtEach (Fits s.rules.width s.input) s.gates → Come s gates (Err (Width number))
      → IsFirstFailing (Fits s.rules.width s.input) (s.gates ++ gates) number
  chain_unfit s [] number all h = absurd (let none : Err (Width number) ≡ Ok s = h in cc)
  chain_unfit s (g ∷ gates) number all h = by h.0 h.1 h.2 (λ u more w. chain_unfit u gates number more w)
    where
      by : (at : Result Here Stop) → Comes s g at → GoesOn (λ u. Come u gates) at (Err (Width number))
          → ((u : Here) → AtEach (Fits u.rules.width u.input) u.gates → Come u gates (Err (Width number)) → IsFirstFailing (Fits u.rules.width u.input) (u.gates ++ gates) number)
          → IsFirstFailing (Fits s.rules.width s.input) (s.gates ++ g ∷ gates) number
      by (Ok u) a w more =
          let v = with_gate (in_order s u.order) g in
          let here = more v (AtEach-more (Fits s.rules.width s.input) s.gates g all a.fits) (subst (λ x. Come x gates (Err (Width number))) a.same w) in
          subst (λ l. IsFirstFailing (Fits s.rules.width s.input) l number) (append_assoc s.gates (g ∷ []) gates) here
      by (Err stop) a w more =
          let same : stop ≡ Width number = let e : Err (Width number) ≡ Err stop = w in cc in
          let here : (number ≡ length s.gates + 1) × (¬ Fits s.rules.width s.input s.gates g) = subst (λ (x : Stop). Comes s g (Err x)) same a in
          record { front = s.gates; element = g; rest = gates; split = refl; count = here.0; before = all; fails = here.1 }
