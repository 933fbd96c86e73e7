-- What keeps a state, at its start and from gate to gate, and what is read of it.
use Rattle.std.proofs.Common.{◌≡◌, ℕ, suc, ◌+◌, ◌<◌, ◌≤◌, Bool, true, false, not, cond, List, [], ◌∷◌, ◌++◌, length, get_or, fold, Option, None, Some, Result, Ok, Err, refl, sym, ◌∙◌, ap, subst, arith, length-append}
use Rattle.std.specs.List.{range_with_len}
use Rattle.std.specs.Prelude.{IfOk, IfSome, IfNone}
use Rattle.std.proofs.lemmas.List.FromFn.{length-range_with_len}
use Rattle.std.proofs.lemmas.List.Elements.{All-nil, All-cons, All-append}
use Rattle.ring_omega.specs.declared.quad.Quad.{Quad}
use Rattle.ring_omega.specs.Ring.{zero_quad, one_quad, is_zero}
use Rattle.bit_lists.specs.Lists.{all_lists}
use Rattle.bit_lists.proofs.Places.{listed, length-all_lists}
use Rattle.gate_set.specs.declared.gate.Gate.{Gate}
use Rattle.gate_set.specs.Shape.{IsOn}
use Rattle.circuit_model.specs.Product.{basis_state, same_bits}
use Rattle.circuit_model.specs.Working.{Scaled, step, work}
use Rattle.circuit_model.proofs.VectorLemmas.{same_bits-refl, same_bits-true}
use Rattle.circuit_model.proofs.WorkingLemmas.{work-last, step_exponent}
use Rattle.diagram_model.specs.Functions.{bit}
use Rattle.diagram_model.specs.Stores.{Diagram, function_of}
use Rattle.diagram_ops.specs.Diagrams.{StoreAndCache, IsConsistent}
use Rattle.amp_dense.specs.Nonzero as amplitudes
use Rattle.amp_dense.specs.Rules.{Settings, AreRules}
use Rattle.amp_dense.specs.Standing.{FitsAfter}
use Rattle.amp_dense.specs.declared.stop.Stop.{Stop}
use Rattle.slice_vec.proofs.Places.{false_function}
use Rattle.slice_quad.specs.declared.kind.Step.{Step}
use Rattle.slice_quad.specs.declared.quad.SliceQuad.{SliceQuad}
use Rattle.slice_quad.specs.Nonzero.{IsAfter, IsNextNonzero, NoneAfter}
use Rattle.slice_quad.specs.Started.{IsStart}
use Rattle.slice_quad.specs.Vectors.{vector_in, Stands}
use Rattle.slice_quad.specs.Walks.{entries_in}
use Rattle.slice_gates.specs.declared.side.Side.TheVariants as sides
use Rattle.slice_gates.specs.Shown.{IsShown, Shows}
use Rattle.slice_gates.specs.Stepped.{IsStepOf, step_for}
use Rattle.slice_gates.proofs.GateWorks.{functions_same}
use Rattle.slice_gates.proofs.Shown.{fits_shown, fits_from, step_at}
use Rattle.step_upkeep.specs.Accepted.{IsAccepted}
use Rattle.step_upkeep.specs.Chains.{Proceeds}
use Rattle.step_upkeep.proofs.Gates.{shown_vector, shows_kept, gate_shown}
use Rattle.step_upkeep.proofs.Products.{Holds, proceeded, stood}
use Rattle.step_upkeep.proofs.StepFor.{step_is}
use Rattle.state_update.specs.Kept.{State, IsKept, standing_of, vector_chain}

-- ---- the start
-- the integers at the start are the basis state
start_entry : (e : Diagram) (input : List Bool) (q : SliceQuad) (x : List Bool) → IsStart e input q → length x ≡ length input → basis_state input x ≡ vector_in e q.four (bit x)
unfolding entries_in
start_entry e input q x h len = by_test (same_bits x input) refl
  where
    by_test : (b : Bool) → same_bits x input ≡ b → cond b one_quad zero_quad ≡ vector_in e q.four (bit x)
    by_test true is =
        let same : x ≡ input = same_bits-true x input is in
        sym h.there ∙ ap (λ (y : List Bool). vector_in e q.four (bit y)) (sym same)
    by_test false is = sym (h.elsewhere x len (λ same. let no : true ≡ false = sym (same_bits-refl x) ∙ ap (same_bits x) same ∙ is in cc))

start_shows : (e : Diagram) (input : List Bool) (q : SliceQuad) → IsStart e input q → length e.order ≡ length input → Shows e q (work [] input)
unfolding work
start_shows e input q h size = record { exponent = sym h.exponent; entries = λ x len. start_entry e input q x h (len ∙ size) }

-- as many variables as qubits
pub size_of_order : (order : List ℕ) (n : ℕ) → order ≡ range_with_len 0 n → length order ≡ n
size_of_order order n e = ap (λ (l : List ℕ). length l) e ∙ length-range_with_len 0 n

abbrev pub state_with : List Bool → Settings → List Gate → StoreAndCache → SliceQuad → State
state_with input rules gates d q = record { input = input; rules = rules; gates = gates; diagrams = d; quad = q }

pub kept_start : (input : List Bool) (rules : Settings) (gates : List Gate) (d : StoreAndCache) (q : SliceQuad) → length input ≤ 64 → AreRules rules → gates ≡ [] → IsConsistent d
    → d.store.order ≡ range_with_len 0 (length input) → d.store.limit ≡ rules.nodes → d.cache.capacity ≡ rules.cache → IsStart d.store input q → IsKept (state_with input rules gates d q)
kept_start input rules gates d q few are none sound order limit capacity h = rw none begun
  where
    begun : IsKept (state_with input rules [] d q)
    begun = record {
      few_qubits = few;
      few_gates = omega arith;
      within = All-nil (IsOn (length input));
      sound = sound;
      variables = size_of_order d.store.order (length input) order;
      limit = limit;
      capacity = capacity;
      stands = h.stands;
      shows = start_shows d.store input q h (size_of_order d.store.order (length input) order);
      small = let e = h.exponent in omega (arith, e);
      narrow = let w = h.width in let two = are.least_width in omega (arith, w, two);
      kept = h.kept;
    }

-- ---- the product that the integers hold
-- over other diagrams that keep it
pub kept_stop : (s : State) (v : StoreAndCache) → IsKept s → IsConsistent v → length v.store.order ≡ length s.diagrams.store.order → v.store.limit ≡ s.diagrams.store.limit → v.cache.capacity ≡ s.diagrams.cache.capacity → Stands v.store s.quad
    → Shows v.store s.quad (work s.gates s.input) → IsKept (state_with s.input s.rules s.gates v s.quad)
kept_stop s v h sound variables limit capacity stands shows = record {
  few_qubits = h.few_qubits;
  few_gates = h.few_gates;
  within = h.within;
  sound = sound;
  variables = variables ∙ h.variables;
  limit = limit ∙ h.limit;
  capacity = capacity ∙ h.capacity;
  stands = stands;
  shows = shows;
  small = h.small;
  narrow = h.narrow;
  kept = h.kept;
}

-- over a variable for each qubit
shown_on : (s : State) → IsKept s → IsShown (length s.input) s.diagrams.store s.quad.four s.quad.exponent (work s.gates s.input)
shown_on s h = subst (λ n. IsShown n s.diagrams.store s.quad.four s.quad.exponent (work s.gates s.input)) h.variables h.shows

pub holds : (s : State) → IsKept s → Holds vector_chain s.input s.rules s.gates s.diagrams s.quad
holds s h = record {
  sound = h.sound;
  limit = h.limit;
  stands = h.stands;
  narrow = h.narrow;
  function = ap (function_of s.diagrams.store) h.kept ∙ false_function s.diagrams.store h.sound.store;
  vector = sym (shown_vector (length s.input) s.diagrams.store s.quad.four s.quad.exponent (work s.gates s.input) h.sound.store h.variables (shown_on s h));
}

-- ---- a gate
-- the step u on variables, which is the gate g, came or stopped
module _ (s : State) (g : Gate) (u : Step) (v : StoreAndCache) (r : SliceQuad) (accepted : ℕ) (h : IsKept s) (on : IsOn (length s.input) g) (is : IsStepOf (length s.input) sides.State g u) (count : accepted ≡ length s.gates) where
  abbrev Told : Result (Unit {0}) Stop → Type 0
  Told answer = IsAccepted s.rules accepted s.diagrams v u s.quad r answer

  own : (answer : Result (Unit {0}) Stop) → Told answer → IsAccepted s.rules accepted s.diagrams v (step_for (length s.input) sides.State g) s.quad r answer
  own answer a = subst (λ (k : Step). IsAccepted s.rules accepted s.diagrams v k s.quad r answer) is.value a

  own_is : IsStepOf (length s.input) sides.State g (step_for (length s.input) sides.State g)
  own_is = step_is (length s.input) sides.State g on.placed on.below

  pub kept_next : length s.gates < 2000000 → Told (Ok tt) → IsKept (state_with s.input s.rules (s.gates ++ g ∷ []) v r)
  kept_next few a = record {
    few_qubits = h.few_qubits;
    few_gates = omega (arith, long, few);
    within = All-append (IsOn (length s.input)) s.gates (g ∷ []) h.within (All-cons (IsOn (length s.input)) g [] on (All-nil (IsOn (length s.input))));
    sound = a.keeps.sound;
    variables = a.keeps.variables ∙ h.variables;
    limit = a.keeps.limit ∙ h.limit;
    capacity = a.keeps.capacity ∙ h.capacity;
    stands = a.stands;
    shows = subst (λ (w : Scaled). Shows v.store r w) vector shown;
    small =
        let raised = shown.exponent in
        let before = h.shows.exponent in
        let more = step_exponent (length s.diagrams.store.order) (work s.gates s.input) g in
        let small = h.small in
        omega (arith, raised, before, more, small, long);
    narrow = a.narrow;
    kept = ap (λ k. k.0) a.kept ∙ h.kept;
  }
    where
      long : length (s.gates ++ g ∷ []) ≡ length s.gates + 1
      long = length-append {A = Gate} s.gates (g ∷ [])

      vector : step (length s.diagrams.store.order) (work s.gates s.input) g ≡ work (s.gates ++ g ∷ []) s.input
      vector = ap (λ (m : ℕ). step m (work s.gates s.input) g) h.variables ∙ sym (work-last s.gates g s.input)

      shown : Shows v.store r (step (length s.diagrams.store.order) (work s.gates s.input) g)
      shown =
          gate_shown s.diagrams.store v.store s.quad r (work s.gates s.input) g u h.shows (step_at (length s.input) (length s.diagrams.store.order) g u (sym h.variables) is)
          a.keeps.sound.store a.keeps.variables a.settled

  pub kept_stopped : (stop : Stop) → Told (Err stop) → IsKept (state_with s.input s.rules s.gates v r)
  kept_stopped stop a =
      subst (λ (q : SliceQuad). IsKept (state_with s.input s.rules s.gates v q)) (sym a.refused)
      (kept_stop s v h a.keeps.sound a.keeps.variables a.keeps.limit a.keeps.capacity a.keeps.stands (shows_kept s.diagrams v s.quad (work s.gates s.input) a.keeps h.shows))

  pub gate_came : length s.gates < 2000000 → Told (Ok tt) → Proceeds vector_chain FitsAfter (standing_of s) g (Ok tt) (standing_of (state_with s.input s.rules (s.gates ++ g ∷ []) v r)) v.store
  gate_came few a =
      proceeded vector_chain FitsAfter s.input s.rules s.gates s.diagrams s.quad (holds s h) g (step_for (length s.input) sides.State g) (functions_same (length s.input) sides.State g) accepted count v r (own (Ok tt) a)
      (fits_shown (length s.input) s.rules.width s.diagrams.store s.quad.four s.quad.exponent (work s.gates s.input) g (step_for (length s.input) sides.State g) (shown_on s h) own_is)
      (holds (state_with s.input s.rules (s.gates ++ g ∷ []) v r) (kept_next few a))

  pub gate_stopped : (stop : Stop) → Told (Err stop) → Proceeds vector_chain FitsAfter (standing_of s) g (Err stop) (standing_of (state_with s.input s.rules s.gates v r)) v.store
  gate_stopped stop a =
      stood vector_chain FitsAfter s.input s.rules s.gates s.diagrams s.quad (holds s h) g (step_for (length s.input) sides.State g) (functions_same (length s.input) sides.State g) accepted count v r stop (own (Err stop) a)
      (fits_from (length s.input) s.rules.width s.diagrams.store s.quad.four s.quad.exponent (work s.gates s.input) g (step_for (length s.input) sides.State g) h.sound.store h.variables (shown_on s h) own_is)

-- ---- what is read
pub entry_is : (s : State) (x : List Bool) → IsKept s → length x ≡ length s.input → entries_in s.diagrams.store s.quad.four x ≡ (work s.gates s.input).entries x
unfolding entries_in
entry_is s x h len = sym (h.shows.entries x (len ∙ sym h.variables))

pub next_is : (s : State) (m : ℕ) (given : Option (List Bool)) (x : List Bool) → IsKept s → m ≡ length s.input → IsNextNonzero m (entries_in s.diagrams.store s.quad.four) given x
    → amplitudes.IsNextNonzero (length s.input) (work s.gates s.input).entries given x
next_is s m given x h size is = record {
  long = is.long ∙ size;
  after = after_as given x is.after;
  nonzero = λ zero. is.nonzero (entry_is s x h (is.long ∙ size) ∙ zero);
  first = λ y len after before. sym (entry_is s y h len) ∙ is.first y (len ∙ sym size) (after_from given y after) before;
}
  where
    after_as : (o : Option (List Bool)) (y : List Bool) → IsAfter o y → amplitudes.IsAfter o y
    after_as None y a = a
    after_as (Some z) y a = a

    after_from : (o : Option (List Bool)) (y : List Bool) → amplitudes.IsAfter o y → IsAfter o y
    after_from None y a = a
    after_from (Some z) y a = a

pub none_is : (s : State) (m : ℕ) (given : Option (List Bool)) → IsKept s → m ≡ length s.input → NoneAfter m (entries_in s.diagrams.store s.quad.four) given
    → amplitudes.NoneAfter (length s.input) (work s.gates s.input).entries given
none_is s m given h size none x len after = sym (entry_is s x h len) ∙ none x (len ∙ sym size) (after_from given x after)
  where
    after_from : (o : Option (List Bool)) (y : List Bool) → amplitudes.IsAfter o y → IsAfter o y
    after_from None y a = a
    after_from (Some z) y a = a

pub last_is : (s : State) (m : ℕ) (x : List Bool) → IsKept s → m ≡ length s.input → amplitudes.IsLastNonzero m (entries_in s.diagrams.store s.quad.four) x
    → amplitudes.IsLastNonzero (length s.input) (work s.gates s.input).entries x
last_is s m x h size is = record {
  long = is.long ∙ size;
  nonzero = λ zero. is.nonzero (entry_is s x h (is.long ∙ size) ∙ zero);
  last = λ y len after. sym (entry_is s y h len) ∙ is.last y (len ∙ sym size) after;
}

-- a count of zeros reads the lists alone
count_same : (f g : List Bool → Quad) (xs : List (List Bool)) (a : ℕ) → ((i : ℕ) → i < length xs → f (get_or xs i []) ≡ g (get_or xs i []))
    → fold (λ m x. m + cond (not (is_zero (f x))) 1 0) a xs ≡ fold (λ m x. m + cond (not (is_zero (g x))) 1 0) a xs
count_same f g [] a h = refl
count_same f g (x ∷ xs) a h =
    count_same f g xs (a + cond (not (is_zero (f x))) 1 0) (λ i lt. h (suc i) (omega arith))
    ∙ ap (λ q. fold (λ m y. m + cond (not (is_zero (g y))) 1 0) (a + cond (not (is_zero q)) 1 0) xs) (h 0 (omega arith))

pub number_is : (s : State) (m : ℕ) → IsKept s → m ≡ length s.input → amplitudes.number_nonzero m (entries_in s.diagrams.store s.quad.four) ≡ amplitudes.number_nonzero (length s.input) (work s.gates s.input).entries
number_is s m h size =
    let n = length s.input in
    ap (λ (k : ℕ). amplitudes.number_nonzero k (entries_in s.diagrams.store s.quad.four)) size
    ∙ count_same (entries_in s.diagrams.store s.quad.four) (work s.gates s.input).entries (all_lists n) 0 (λ i lt.
    entry_is s (get_or (all_lists n) i []) h (listed n i [] (omega (arith, lt, length-all_lists n))).0)

-- ---- answers by other words
pub ok_some : {X E : Type 0} (r : Result (Option X) E) (P Q : X → Type 0) → IfOk r (λ next. IfSome next P) → ((x : X) → P x → Q x) → IfOk r (λ next. IfSome next Q)
ok_some (Ok (Some x)) P Q h to = to x h
ok_some (Ok None) P Q h to = tt
ok_some (Err e) P Q h to = tt

pub ok_both : {X E : Type 0} (r : Result (Option X) E) (P Q R : X → Type 0) → IfOk r (λ next. IfSome next P) → IfOk r (λ next. IfSome next Q) → ((x : X) → P x → Q x → R x) → IfOk r (λ next. IfSome next R)
ok_both (Ok (Some x)) P Q R h k to = to x h k
ok_both (Ok None) P Q R h k to = tt
ok_both (Err e) P Q R h k to = tt

pub ok_as : {X E : Type 0} (r : Result X E) (P Q : X → Type 0) → IfOk r P → ((x : X) → P x → Q x) → IfOk r Q
ok_as (Ok x) P Q h to = to x h
ok_as (Err e) P Q h to = tt

pub ok_none : {X E : Type 0} (r : Result (Option X) E) (P Q : Type 0) → IfOk r (λ next. IfNone next P) → (P → Q) → IfOk r (λ next. IfNone next Q)
ok_none (Ok (Some x)) P Q h to = tt
ok_none (Ok None) P Q h to = to h
ok_none (Err e) P Q h to = tt
