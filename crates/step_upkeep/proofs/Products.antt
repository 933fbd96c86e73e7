-- What the answer to a step on integers says of the product that they hold.
use Rattle.std.proofs.Common.{◌≡◌, ◌⊎◌, inl, inr, ℕ, suc, ◌+◌, ◌≤◌, List, [], ◌∷◌, ◌++◌, length, Result, Ok, Err, refl, sym, ◌∙◌, ap, subst, arith}
use Rattle.amp_dense.specs.Chains.{StandingOf, Reorders, in_order, with_gate, AppliesWhere, MayStop, NamesOrder}
use Rattle.amp_dense.specs.Rules.{Settings}
use Rattle.amp_dense.specs.declared.stop.Stop.{Stop}
use Rattle.amp_dense.specs.declared.stop.Stop.TheVariants.{Width, Nodes, OutOfMemory}
use Rattle.bit_lists.specs.Orders.{AreVars, IsOrder}
use Rattle.diagram_model.specs.Bryant.{IsOneOf}
use Rattle.diagram_model.specs.Functions.{Assignment, Function}
use Rattle.diagram_model.specs.Size.{size}
use Rattle.diagram_model.specs.Stores.{Diagram, function_of}
use Rattle.diagram_ops.specs.Diagrams.{StoreAndCache, IsConsistent}
use Rattle.diagram_ops.specs.Made.{IsPrefixOfSome}
use Rattle.node_reclaim.specs.Reclaims.{HoldsOnly}
use Rattle.node_reclaim.proofs.Bound.{size-le, one_some}
use Rattle.phases.specs.Phases.{HasSomeEnd}
use Rattle.slice_gates.proofs.Doubles.{doubled_quad}
use Rattle.slice_quad.specs.declared.kind.Step.{Step}
use Rattle.slice_quad.specs.declared.quad.SliceQuad.{SliceQuad}
use Rattle.slice_quad.specs.Bits.{bits_of}
use Rattle.slice_quad.specs.Mix.{Vector, Coordinates}
use Rattle.slice_quad.specs.Stepping.{stepped, step_functions, work_functions, IsStepOn, IsWork}
use Rattle.slice_quad.specs.Vectors.{vector_in, FitsWidth, Stands}
use Rattle.step_upkeep.specs.Accepted.{IsAccepted}
use Rattle.step_upkeep.specs.Chains.{Chain, work_of, InWork, stored_of, needed, IsNextOrder, MayLeave, Proceeds, policy_of}
use Rattle.step_upkeep.specs.Due.{is_due, IsInForce}
use Rattle.step_upkeep.specs.Stored.{stored_functions}
use Rattle.step_upkeep.specs.Upkept.{functions_in, work_in}
use Rattle.step_upkeep.proofs.Orders.{some_next_order, is_next_order}
use Rattle.step_upkeep.proofs.Stored.{stored_held, in_force_stored}
use Rattle.step_upkeep.proofs.StoredAfter.{stored_wanted, either_end}
use Rattle.step_upkeep.proofs.Values.{AreIn}
use Rattle.step_upkeep.proofs.Widths.{work_within}

-- the integers are the product of these gates, under these rules
pub record Holds {X G : Type 0} (c : Chain X G) (x : X) (rules : Settings) (gates : List G) (d : StoreAndCache) (q : SliceQuad) : Type 0 where
  pub sound : IsConsistent d
  pub limit : d.store.limit ≡ rules.nodes
  pub stands : Stands d.store q
  pub narrow : length q.four.a ≤ rules.width
  pub function : function_of d.store q.kept.0 ≡ c.kept x
  pub vector : vector_in d.store q.four ≡ c.entries x gates

-- what the product then stands by
abbrev pub standing : {X : Type 0} → {G : Type 0} → X → Settings → List G → StoreAndCache → StandingOf X G
standing x rules gates d = record { input = x; rules = rules; gates = gates; order = d.store.order }

-- the functions that a gate works with are those of the step s
abbrev pub HasStep : {X : Type 0} → {G : Type 0} → Chain X G → X → G → Step → Type 0
HasStep c x g s = (w : ℕ) (q : Coordinates) → c.functions x g w q ≡ step_functions w s q

work_as : {X G : Type 0} (c : Chain X G) (x : X) (g : G) (s : Step) → HasStep c x g s → (w : ℕ) (v : Vector) → work_functions w (c.kept x) s v ≡ c.kept x ∷ c.functions x g w (bits_of v)
unfolding work_functions
work_as c x g s is w v = ap (λ (fs : List Function). c.kept x ∷ fs) (sym (is w (bits_of v)))

-- ---- functions
module _ {X G : Type 0} (c : Chain X G) (x : X) (rules : Settings) (gates : List G) (d : StoreAndCache) (q : SliceQuad) (h : Holds c x rules gates d q) where
  abbrev now : StandingOf X G
  now = standing x rules gates d

  -- the work functions of the integers are those of the product, at the width at which it is stored
  work_is : (s : Step) → work_in d.store s q ≡ work_functions (length q.four.a) (c.kept x) s (c.entries x gates)
  work_is s =
      ap (λ (f : Function). work_functions (length q.four.a) f s (vector_in d.store q.four)) h.function
      ∙ ap (λ (v : Vector). work_functions (length q.four.a) (c.kept x) s v) h.vector

  -- and the width of the rules takes none away, whatever order is in force
  work_wider : (order : List ℕ) (g : G) (s : Step) → HasStep c x g s → (p : Function) → IsPrefixOfSome order (work_in d.store s q) p → IsPrefixOfSome order (work_of c now g) p
  work_wider order g s has p is =
      let mine = subst (λ (fs : List Function). IsPrefixOfSome order fs p) (work_is s) is in
      let wider = work_within order p (length q.four.a) rules.width h.narrow (c.kept x) s (c.entries x gates) mine in
      subst (λ (fs : List Function). IsPrefixOfSome order fs p) (work_as c x g s has rules.width (c.entries x gates)) wider

  -- what holds only those of the integers holds only those of the gate
  pub holds_work : (g : G) (s : Step) → HasStep c x g s → (e : Diagram) → HoldsOnly e (IsWork d.store s q) → HoldsOnly e (InWork c now g)
  holds_work g s has e all n p at = work_wider d.store.order g s has (function_of e n) (all n p at)

  -- where those of the integers need as many nodes as the limit in an order, those of the gate do
  pub gate_needs : (g : G) (s : Step) → HasStep c x g s → (order : List ℕ) → AreVars (length order) order → d.store.limit ≤ size (length order) order (work_in d.store s q)
      → rules.nodes ≤ needed (in_order now order) (work_of c (in_order now order) g)
  gate_needs g s has order vars most =
      let k = length order in
      let fs = work_in d.store s q in
      let le : size k order fs ≤ size k order (work_of c now g) = size-le k k order (work_of c now g) fs vars (λ f is. work_wider order g s has f (one_some order fs f is)) in
      let limit = h.limit in
      omega (arith, most, le, limit)

  -- the functions that the product is stored by are those of the integers, at the width of the rules
  stored_is : stored_of c now ≡ stored_functions rules.width (function_of d.store q.kept.0) (vector_in d.store q.four)
  stored_is =
      sym (ap (λ (f : Function). stored_functions rules.width f (vector_in d.store q.four)) h.function ∙ ap (λ (v : Vector). stored_functions rules.width (c.kept x) v) h.vector)

  -- they are stored by as many nodes as the rules allow at most
  pub stored_few : needed now (stored_of c now) ≤ rules.nodes
  stored_few =
      let counts = ap (λ (fs : List Function). size (length d.store.order) d.store.order fs) stored_is in
      let le = stored_held d.store q h.stands rules.width h.sound.store in
      let few = h.sound.store.few in let limit = h.limit in
      omega (arith, counts, le, few, limit)

  -- the order that is in force for the integers is the one for the product
  pub next_order : (accepted : ℕ) (order : List ℕ) → accepted ≡ length gates → IsInForce rules.sift accepted (functions_in d.store q) d.store.limit d.store.order order → IsNextOrder c now order
  next_order accepted order count force =
      let F : ℕ → List Function → ℕ → Type 0 = λ done fs limit. IsInForce rules.sift done fs limit d.store.order order in
      let stored = in_force_stored d.store q h.stands rules.sift accepted d.store.limit rules.width d.store.order order h.narrow force in
      let mine = subst (λ (fs : List Function). F accepted fs d.store.limit) (sym stored_is) stored in
      subst (λ n. F n (stored_of c now) rules.nodes) count (subst (λ n. F accepted (stored_of c now) n) h.limit mine)

-- ---- the answer to a gate's step
module _ {X G : Type 0} (c : Chain X G) (Fits : ℕ → X → List G → G → Type 0) (x : X) (rules : Settings) (gates : List G) (d : StoreAndCache) (q : SliceQuad) (h : Holds c x rules gates d q)
    (g : G) (s : Step) (has : HasStep c x g s) (accepted : ℕ) (count : accepted ≡ length gates) (e : StoreAndCache) (r : SliceQuad) where
  abbrev before : StandingOf X G
  before = standing x rules gates d

  abbrev Answers : Result (Unit {0}) Stop → Type 0
  Answers answer = IsAccepted rules accepted d e s q r answer

  abbrev StepFits : Type 0
  StepFits = FitsWidth rules.width (stepped s (vector_in d.store q.four))

  number_is : (number : ℕ) → number ≡ accepted + 1 → number ≡ length gates + 1
  number_is number is = is ∙ ap (λ k. k + 1) count

  next : IsInForce rules.sift accepted (functions_in d.store q) d.store.limit d.store.order e.store.order → IsNextOrder c before e.store.order
  next force = next_order c x rules gates d q h accepted e.store.order count force

  -- it is accepted
  pub proceeded : Answers (Ok tt) → (StepFits → Fits rules.width x gates g) → Holds c x rules (gates ++ g ∷ []) e r → Proceeds c Fits before g (Ok tt) (standing x rules (gates ++ g ∷ []) e) e.store
  proceeded a fits after = record {
    accepts = record { fits = fits a.fits; order = next a.order; allowed = stored_few c x rules (gates ++ g ∷ []) e r after; same = refl };
    stops = tt;
    in_force = tt;
    refused = tt;
    order = next a.order;
    after_reclaim = λ due not_sifted. holds_work c x rules gates d q h g s has e.store (a.holds (ap (is_due rules.reclaim) count ∙ due) (ap (is_due rules.sift) count ∙ not_sifted));
  }

  -- or it stops
  stop_told : (stop : Stop) → Answers (Err stop) → (Fits rules.width x gates g → StepFits) → MayStop (AppliesWhere Fits (policy_of c) before g) stop
  stop_told (Width number) a fits = (number_is number a.stops.0, λ fit. a.stops.1 (fits fit))
  stop_told (Nodes number order held) a fits =
      let limit = a.keeps.limit in
      let most = subst (λ i. i ≤ size (length e.store.order) e.store.order (work_in d.store s q)) limit a.stops.3 in
      let needs = gate_needs c x rules gates d q h g s has e.store.order a.keeps.sound.store.diagram.order most in (
        number_is number a.stops.0,
        record {
          reordered = subst (IsNextOrder c before) (sym a.stops.1) (next a.order);
          allowed = subst (λ (l : List ℕ). rules.nodes ≤ needed (in_order before l) (work_of c (in_order before l) g)) (sym a.stops.1) needs;
          full = a.stops.2 ∙ limit ∙ h.limit;
        },
      )
  stop_told OutOfMemory a fits = tt

  stop_names : (stop : Stop) → Answers (Err stop) → NamesOrder e.store.order stop
  stop_names (Width number) a = tt
  stop_names (Nodes number order held) a = a.stops.1
  stop_names OutOfMemory a = tt

  stop_orders : (stop : Stop) → Answers (Err stop) → Reorders (policy_of c) MayLeave before (Err stop) e.store.order
  stop_orders (Width number) a = next a.order
  stop_orders (Nodes number order held) a = next a.order
  stop_orders OutOfMemory a = let left = a.order in record { is_order = left.is_order; variables = left.variables; same = λ due. left.same (ap (is_due rules.sift) count ∙ due) }

  pub stood : (stop : Stop) → Answers (Err stop) → (Fits rules.width x gates g → StepFits) → Proceeds c Fits before g (Err stop) (standing x rules gates e) e.store
  stood stop a fits = record { accepts = tt; stops = stop_told stop a fits; in_force = stop_names stop a; refused = refl; order = stop_orders stop a; after_reclaim = λ due not_sifted. tt }

-- where memory ran out before the step
pub stayed : {X G : Type 0} (c : Chain X G) (Fits : ℕ → X → List G → G → Type 0) (x : X) (rules : Settings) (gates : List G) (d : StoreAndCache) (g : G) → IsConsistent d
    → Proceeds c Fits (standing x rules gates d) g (Err OutOfMemory) (standing x rules gates d) d.store
stayed c Fits x rules gates d g sound = record {
  accepts = tt;
  stops = tt;
  in_force = tt;
  refused = refl;
  order = record { is_order = record { once = sound.store.diagram.order; all = sound.store.all }; variables = refl; same = λ due. refl };
  after_reclaim = λ due not_sifted. tt;
}

-- ---- a gate has an end
-- where the new entries, as many times doubled as they were halved, are the step's, the gate may be accepted, or be refused for want of nodes
pub accepted_or_refused : {X G : Type 0} (c : Chain X G) (s : StandingOf X G) (g : G) (u : Step) → HasStep c s.input g u → (n m t : ℕ) → s.rules.width ≡ suc m → AreVars (length s.order) s.order → IsStepOn n u → AreIn m (c.entries s.input s.gates)
    → ((y : Assignment) → doubled_quad t (c.entries s.input (s.gates ++ g ∷ []) y) ≡ stepped u (c.entries s.input s.gates) y)
    → (needed s (stored_of c (with_gate s g)) ≤ s.rules.nodes) ⊎ (s.rules.nodes ≤ needed s (work_of c s g))
accepted_or_refused c s g u has n m t wide vars on narrow halved =
    let k = length s.order in
    let stored = stored_of c (with_gate s g) in
    let wanted = stored_wanted s.order s.rules.width m t (c.kept s.input) u (c.entries s.input s.gates) (c.entries s.input (s.gates ++ g ∷ [])) wide narrow halved n on in
    let Among : List Function → Type 0 = λ fs. (f : Function) → IsOneOf stored f → IsPrefixOfSome s.order fs f in
    let among = subst Among (work_as c s.input g u has s.rules.width (c.entries s.input s.gates)) wanted in
    either_end (needed s stored) (needed s (work_of c s g)) s.rules.nodes (size-le k k s.order (work_of c s g) stored vars among)

-- so it has an end, whatever order is in force before it
pub some_end : {X G : Type 0} (S : Stop → Type 0) (c : Chain X G) (Fits : ℕ → X → List G → G → Type 0) (s : StandingOf X G) (g : G) → ((stop : Stop) → S stop) → IsOrder s.order
    → Fits s.rules.width s.input s.gates g ⊎ (¬ Fits s.rules.width s.input s.gates g)
    → ((order : List ℕ) → IsOrder order → (needed (in_order s order) (stored_of c (with_gate (in_order s order) g)) ≤ s.rules.nodes) ⊎ (s.rules.nodes ≤ needed (in_order s order) (work_of c (in_order s order) g)))
    → HasSomeEnd S (AppliesWhere Fits (policy_of c) s g)
some_end {X} {G} S c Fits s g all is fit either = by fit (either next.0 (is_next_order c s next.0 is next.1).0)
  where
    next : (order : List ℕ) × IsNextOrder c s order
    next = some_next_order c s is

    there : StandingOf X G
    there = in_order s next.0

    by : Fits s.rules.width s.input s.gates g ⊎ (¬ Fits s.rules.width s.input s.gates g) → (needed there (stored_of c (with_gate there g)) ≤ s.rules.nodes) ⊎ (s.rules.nodes ≤ needed there (work_of c there g))
        → HasSomeEnd S (AppliesWhere Fits (policy_of c) s g)
    by (inl fits) (inl stored) = (Ok (with_gate there g), record { fits = fits; order = next.1; allowed = stored; same = refl }, tt)
    by (inl fits) (inr lacks) =
        let stop : Stop = Nodes (length s.gates + 1) next.0 s.rules.nodes in
        (Err stop, (refl, record { reordered = next.1; allowed = lacks; full = refl }), all stop)
    by (inr unfit) _ = let stop : Stop = Width (length s.gates + 1) in (Err stop, (refl, unfit), all stop)
