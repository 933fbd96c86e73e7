-- Cofactors of a list of nodes, one after another.
use Rattle.std.proofs.Common.{◌≡◌, ◌⊎◌, ℕ, zero, suc, ◌<◌, Bool, List, [], ◌∷◌, ◌++◌, length, get_or, inl, inr, refl, sym, ◌∙◌, ap, arith, length-append}
use Rattle.std.proofs.lemmas.Bool.{cases_eq}
use Rattle.std.proofs.lemmas.List.{get_or_append_left, get_or_push}
use Rattle.diagram_model.specs.Bryant.{IsOneOf}
use Rattle.diagram_model.specs.Functions.{Function, fix, IsPrefixOf}
use Rattle.diagram_model.specs.Stores.{Diagram, IsLive, IsSound, Extends, function_of}
use Rattle.diagram_model.proofs.Growing.{extends_trans, live_on, function_on}
use Rattle.node_store.specs.declared.node.Node.{Node}
use Rattle.node_store.specs.declared.node.StoreStop.{StoreStop}
use Rattle.diagram_ops.specs.declared.operands.Operands.{Operands}
use Rattle.diagram_ops.specs.Bounds.{size_in, TakesAtMost}
use Rattle.diagram_ops.specs.Cofactors.{numbers_of, functions_of, cofactors_of, AreAllLive, InCofactors}
use Rattle.diagram_ops.specs.Keeping.{IsPart, Keeps}
use Rattle.diagram_ops.specs.Made.{MakesOnly, StopIs, IsPrefixOfSome}
use Rattle.diagram_ops.specs.Operands.{alone}
use Rattle.diagram_ops.specs.Operations.{Results, restricted, IsResult, AreResults}
use Rattle.diagram_ops.specs.Taken.{plain, IsMet, Takes, TakesAll}
use Rattle.diagram_ops.proofs.Bounds.{IsMetFrom, takes_size}
use Rattle.diagram_ops.proofs.Making.{makes_none, makes_then, makes_wider, stop_wider}
use Rattle.diagram_ops.proofs.Results.{same_store}
use Rattle.diagram_ops.proofs.Taking.{Stays, takes_none, takes_as, all_as, takes_then, all_then, met_on, met_from}

-- the numbers of a list with one node more
pub numbers_push : (xs : List Node) (y : Node) → numbers_of (xs ++ y ∷ []) ≡ numbers_of xs ++ y.0 ∷ []
numbers_push [] y = refl
numbers_push (x ∷ xs) y = ap (λ ns. x.0 ∷ ns) (numbers_push xs y)

-- one function of a list
one_at : (d : Diagram) (fs : List ℕ) (i : ℕ) → i < length fs → IsOneOf (functions_of d fs) (function_of d (get_or fs i 0))
one_at d [] i lt = absurd (omega (arith, lt))
one_at d (f ∷ fs) zero lt = inl refl
one_at d (f ∷ fs) (suc i) lt = inr (one_at d fs i (omega (arith, lt)))

some_at : (vs : List ℕ) (v : ℕ) (b : Bool) (d : Diagram) (fs : List ℕ) (i : ℕ) (p : Function) → i < length fs → IsPrefixOf vs (fix v b (function_of d (get_or fs i 0))) p → IsPrefixOfSome vs (cofactors_of v b d fs) p
unfolding IsPrefixOfSome
some_at vs v b d [] i p lt h = absurd (omega (arith, lt))
some_at vs v b d (f ∷ fs) zero p lt h = inl h
some_at vs v b d (f ∷ fs) (suc i) p lt h = inr (some_at vs v b d fs i p (omega (arith, lt)) h)

-- What the first calls have left: e is the store, m what is kept, ns the nodes, from s to t the steps.
pub record Restricts (v : ℕ) (b : Bool) (d : Diagram) (fs : List ℕ) (m0 : Results) (e : Diagram) (m : Results) (ns : List ℕ) (s t : ℕ) : Type 0 where
  pub sound : IsSound e
  pub extends : Extends d e
  pub results : AreResults (restricted v b) e m
  pub still : Stays m0 m
  pub made : MakesOnly d e (InCofactors v b d fs)
  pub live : AreAllLive e ns
  pub denote : (i : ℕ) → i < length ns → function_of e (get_or ns i 0) ≡ fix v b (function_of d (get_or fs i 0))
  pub takes : TakesAll (IsMetFrom d (functions_of d fs)) d e m0 m s t

-- what each way out leaves
pub record Leaves (v : ℕ) (b : Bool) (d : Diagram) (fs : List ℕ) (e : Diagram) (s t : ℕ) : Type 0 where
  pub sound : IsSound e
  pub extends : Extends d e
  pub made : MakesOnly d e (InCofactors v b d fs)
  pub steps : TakesAtMost (size_in d (functions_of d fs)) d e s t

pub restricts_none : (v : ℕ) (b : Bool) (d : Diagram) (fs : List ℕ) (m : Results) (s : ℕ) → IsSound d → AreResults (restricted v b) d m → Restricts v b d fs m d m [] s s
restricts_none v b d fs m s sound results = record {
  sound = sound;
  extends = same_store d;
  results = results;
  still = λ to n is. is;
  made = makes_none d (InCofactors v b d fs);
  live = λ i lt. absurd (omega (arith, lt));
  denote = λ i lt. absurd (omega (arith, lt));
  takes = takes_none (IsMetFrom d (functions_of d fs)) d m s;
}

prefix_as : (us vs : List ℕ) (f g p : Function) → us ≡ vs → f ≡ g → IsPrefixOf vs g p → IsPrefixOf us f p
prefix_as us vs f g p ev ef h = rw (ev, ef) h

module _ {v : ℕ} {b : Bool} {d : Diagram} {fs : List ℕ} {m0 : Results} {e : Diagram} {m : Results} {ns : List ℕ} {s t : ℕ} (sd : IsSound d) (live : AreAllLive d fs) (h : Restricts v b d fs m0 e m ns s t) {i f : ℕ} (lt : i < length fs) (at : f ≡ get_or fs i 0) where
  f_live : IsLive d f
  f_live = rw at (live i lt)

  same_function : function_of e f ≡ function_of d (get_or fs i 0)
  same_function = function_on d e f sd h.sound h.extends f_live ∙ ap (function_of d) at

  -- the node is live in the store that it is fixed in
  pub next_live : IsLive e f
  next_live = live_on d e f h.extends f_live

  wanted : (p : Function) → IsPart (restricted v b) e (alone f) p → InCofactors v b d fs p
  unfolding restricted
  wanted p part =
      some_at d.order v b d fs i p lt (prefix_as d.order e.order (fix v b (function_of d (get_or fs i 0))) (fix v b (function_of e f)) p (sym h.extends.order) (ap (fix v b) (sym same_function)) part)

  from_list : (k : Diagram) (to : Operands) → IsMet plain e (alone f) k to → IsMetFrom d (functions_of d fs) k to
  from_list k to met = record {
    root = f;
    one = rw (ap (function_of d) at) (one_at d fs i lt);
    met = met_from plain d e (alone f) k to sd h.sound h.extends (f_live, inl (omega arith), inl (omega arith)) met;
  }

  list_on : (k : Diagram) → IsSound k → Extends e k → (to : Operands) → IsMetFrom d (functions_of d fs) e to → IsMetFrom d (functions_of d fs) k to
  list_on k sk ext to from = record { root = from.root; one = from.one; met = met_on plain d (alone from.root) e k to h.sound sk ext from.met }

  -- the next call, whether it answers or stops
  module _ {k : Diagram} {m1 : Results} (keeps : Keeps (restricted v b) (alone f) e k m m1) where
    pub next_leaves : {u : ℕ} → Takes (IsMet plain e (alone f)) e k m t u → Leaves v b d fs k s u
    next_leaves {u} taken =
        let extends = extends_trans d e k h.extends keeps.extends in
        record {
          sound = keeps.sound;
          extends = extends;
          made = makes_then d e k (InCofactors v b d fs) h.sound keeps.sound keeps.extends h.made (makes_wider e k (IsPart (restricted v b) e (alone f)) (InCofactors v b d fs) (λ p q. wanted p q) keeps.made);
          steps = takes_size d (functions_of d fs) k m0 s u sd keeps.sound extends
              (takes_then (IsMetFrom d (functions_of d fs)) d e k m0 m s t u (list_on k keeps.sound keeps.extends) h.still h.takes
              (takes_as (IsMet plain e (alone f)) (IsMetFrom d (functions_of d fs)) e k m t u (from_list k) taken));
        }

    pub next_stop : (r : StoreStop) → StopIs k (IsPart (restricted v b) e (alone f)) r → StopIs k (InCofactors v b d fs) r
    next_stop r stop = stop_wider k (IsPart (restricted v b) e (alone f)) (InCofactors v b d fs) (λ p q. wanted p q) r stop

    pub restricts_more : {n u : ℕ} {zs : List ℕ} → length ns ≡ i → IsResult (restricted v b) k (alone f) n → TakesAll (IsMet plain e (alone f)) e k m m1 t u → zs ≡ ns ++ n ∷ [] → Restricts v b d fs m0 k m1 zs s u
    unfolding restricted
    restricts_more {n} {u} {zs} count is taken made =
        let left = next_leaves taken.takes in
        let of_old = λ (j : ℕ) (less : j < length ns). get_or_append_left ns (n ∷ []) 0 j less in
        let cases : (j : ℕ) → j < length (ns ++ n ∷ []) → (j < length ns) ⊎ (j ≡ length ns) = λ j less.
        elim (cases_eq j (length ns)) [ inl e ↦ inr e | inr ne ↦ inl (omega (arith, less, ne, length-append ns (n ∷ []))) ] in
        let last : get_or (ns ++ n ∷ []) (length ns) 0 ≡ n = get_or_push ns n 0 (length ns) refl in
        let here : function_of k n ≡ fix v b (function_of d (get_or fs i 0)) = is.denotes ∙ ap (fix v b) (function_on e k f h.sound keeps.sound keeps.extends next_live ∙ same_function) in
        let out : Restricts v b d fs m0 k m1 (ns ++ n ∷ []) s u = record {
          sound = keeps.sound;
          extends = left.extends;
          results = keeps.results;
          still = λ to j was. keeps.still to j (h.still to j was);
          made = left.made;
          live = λ j less. elim (cases j less) [
            | inl old ↦ rw (of_old j old) (live_on e k (get_or ns j 0) keeps.extends (h.live j old))
            | inr e ↦ rw (ap (λ w. get_or (ns ++ n ∷ []) w 0) e ∙ last) is.live
          ];
          denote = λ j less. elim (cases j less) [
            | inl old ↦ ap (function_of k) (of_old j old) ∙ function_on e k (get_or ns j 0) h.sound keeps.sound keeps.extends (h.live j old) ∙ h.denote j old
            | inr e ↦ ap (function_of k) (ap (λ w. get_or (ns ++ n ∷ []) w 0) e ∙ last) ∙ here ∙ ap (λ w. fix v b (function_of d (get_or fs w 0))) (sym (e ∙ count))
          ];
          takes = all_then (IsMetFrom d (functions_of d fs)) d e k m0 m m1 s t u (list_on k keeps.sound keeps.extends) h.still keeps.still h.takes
              (all_as (IsMet plain e (alone f)) (IsMetFrom d (functions_of d fs)) e k m m1 t u (from_list k) taken);
        } in
        rw made out

-- all are fixed
pub restricts_done : {v : ℕ} {b : Bool} {d : Diagram} {fs : List ℕ} {m0 : Results} {e : Diagram} {m : Results} {ns : List ℕ} {s t : ℕ} → IsSound d → Restricts v b d fs m0 e m ns s t → Leaves v b d fs e s t
restricts_done {v} {b} {d} {fs} {m0} {e} {m} {ns} {s} {t} sd h = record {
  sound = h.sound;
  extends = h.extends;
  made = h.made;
  steps = takes_size d (functions_of d fs) e m0 s t sd h.sound h.extends h.takes.takes;
}
