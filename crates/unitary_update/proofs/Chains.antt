-- Steps one after the other: what stays, that they come to one end and to some end, and what an end says of the width and of nodes.
use Rattle.std.proofs.Common.{◌≡◌, ◌⊎◌, inl, inr, ℕ, zero, suc, ◌+◌, ◌*◌, ◌-◌, ◌^◌, ◌<◌, ◌≤◌, List, [], ◌∷◌, ◌++◌, length, All, Result, Ok, Err, refl, sym, ◌∙◌, ap, subst, arith}
use Rattle.std.specs.List.{range_with_len}
use Rattle.std.proofs.Math.Nat.{mul-le-mul_right}
use Rattle.std.proofs.lemmas.Bool.{cases_lt}
use Rattle.std.proofs.lemmas.List.Elements.{All-head, All-tail}
use Rattle.std.proofs.lemmas.List.FromFn.{length-range_with_len}
use Rattle.std.proofs.lemmas.Nat.{pow_below}
use Rattle.bit_lists.specs.Orders.{IsOrder}
use Rattle.bit_lists.proofs.Variables.{natural_is_order}
use Rattle.gate_set.specs.Shape.{IsOn}
use Rattle.circuit_model.specs.Working.{FitsWidth}
use Rattle.circuit_model.proofs.FitLemmas.{fits_or_not}
use Rattle.circuit_model.proofs.PrefixLemmas.{AtEach-nil}
use Rattle.comparison.specs.Products.{Step, gate_of, raw_matrix, work_matrix, RawStepFits, AllStepsFit, IsFirstUnfitStep}
use Rattle.amp_dense.specs.Rules.{Settings}
use Rattle.amp_dense.specs.declared.stop.Stop.{Stop}
use Rattle.amp_dense.specs.declared.stop.Stop.TheVariants.{Width, Nodes, OutOfMemory}
use Rattle.phases.specs.Phases.{GoesOn, Through, HasOneEnd, HasSomeEnd}
use Rattle.phases.proofs.Ends.{one_after, one_stops_where, some_stops_where}
use Rattle.amp_dense.specs.Chains.{in_order}
use Rattle.amp_dense.proofs.Chains as chains
use Rattle.amp_dense.proofs.Chains.{GoesBy}
use Rattle.step_upkeep.specs.Chains.{policy_of}
use Rattle.step_upkeep.proofs.Orders.{one_next_order, is_next_order}
use Rattle.step_upkeep.proofs.Products.{some_end}
use Rattle.unitary_update.specs.Kept.{Standing, begun, matrix_chain, Accepts, Applies, Starts, Multiplies}
use Rattle.unitary_update.proofs.Enough.{enough}
use Rattle.unitary_update.proofs.StepEnds.{accepted_or_refused, fits_begun, fits_next}

-- ---- what stays
-- steps that came from the identity on are the accepted ones
pub multiplied : (rules : Settings) (n : ℕ) (steps : List Step) (r : Standing) → Multiplies rules n steps (Ok r) → GoesBy (begun n rules) steps r
multiplied rules n steps r h = by h.0 h.1 h.2
  where
    by : (at : Result (Unit {0}) Stop) → Starts rules n at → GoesOn (λ _. Through Applies (begun n rules) steps) at (Ok r) → GoesBy (begun n rules) steps r
    by (Ok x) room w = chains.chained RawStepFits (policy_of matrix_chain) (begun n rules) steps r w
    by (Err stop) lacks w = absurd (let none : Ok r ≡ Err stop = w in cc)

-- ---- at most one end
-- a want of nodes at a step, which may come or not, is none of the sure stops
pub one_multiplies : (S : Stop → Type 0) → ((k : ℕ) (order : List ℕ) (held : ℕ) → S (Nodes (k + 1) order held) → ⊥) → (rules : Settings) (n : ℕ) (steps : List Step) → HasOneEnd S (Multiplies rules n steps)
one_multiplies S unsure rules n steps =
    one_after S (Starts rules n) (λ _. Through Applies (begun n rules) steps) (one_stops_where S (rules.nodes < 3 * n) (Nodes 0 (range_with_len 0 (2 * n)) rules.nodes))
    (λ _. chains.one_chain RawStepFits (policy_of matrix_chain) S (one_next_order matrix_chain)
    (λ s t number order held is lacks sure. unsure (length s.gates) order held (subst (λ k. S (Nodes k order held)) is sure)) (begun n rules) steps)

-- ---- some end
-- what each step finds: rules that let coefficients have two bits, an order of the variables, and a matrix that fits the width
pub record IsReady (s : Standing) : Type 0 where
  pub wide : 2 ≤ s.rules.width
  pub is_order : IsOrder s.order
  pub fits : FitsWidth (s.input + s.input) s.rules.width (work_matrix s.input s.gates).entries

-- the first one
ready_begun : (n : ℕ) (rules : Settings) → 2 ≤ rules.width → IsReady (begun n rules)
ready_begun n rules wide = record { wide = wide; is_order = natural_is_order (2 * n); fits = fits_begun n rules.width wide }

-- and the one after a step that is accepted
ready_next : (s : Standing) (t : Step) (r : Standing) → IsReady s → Accepts s t r → IsReady r
ready_next s t r ready a =
    subst IsReady (sym a.same) (record { wide = ready.wide; is_order = (is_next_order matrix_chain s r.order ready.is_order a.order).0; fits = fits_next s.input s.rules.width s.gates t a.fits })

module _ (S : Stop → Type 0) (stops : (stop : Stop) → S stop) where
  -- one step
  pub some_applies : (s : Standing) (t : Step) → IsReady s → IsOn s.input (gate_of t) → HasSomeEnd S (Applies s t)
  some_applies s t ready on =
      some_end S matrix_chain RawStepFits s t stops ready.is_order (fits_or_not (s.input + s.input) s.rules.width (raw_matrix s.input (work_matrix s.input s.gates) t).entries)
      (λ order is. let wide : 2 ≤ s.rules.width = ready.wide in accepted_or_refused (in_order s order) t (s.rules.width - 1) (omega (arith, wide)) is.once on ready.fits)

  pub some_multiplies : (rules : Settings) (n : ℕ) (steps : List Step) → 2 ≤ rules.width → All (λ t. IsOn n (gate_of t)) steps → HasSomeEnd S (Multiplies rules n steps)
  some_multiplies rules n steps wide on =
      by (some_stops_where S (rules.nodes < 3 * n) stop (stops stop) (elim (cases_lt rules.nodes (3 * n)) [ inl few ↦ inl few | inr room ↦ inr (λ few. omega (arith, room, few)) ]))
    where
      stop : Stop
      stop = Nodes 0 (range_with_len 0 (2 * n)) rules.nodes

      by : HasSomeEnd S (Starts rules n) → HasSomeEnd S (Multiplies rules n steps)
      by (Ok x, room, sure) = let m = chains.some_chain RawStepFits (policy_of matrix_chain) S IsReady (λ n t. IsOn n (gate_of t)) some_applies ready_next (begun n rules) steps (ready_begun n rules wide) on in (m.0, (Ok x, room, m.1), m.2)
      by (Err cause, lacks, sure) = (Err cause, (Err cause, lacks, refl), sure)

-- ---- the width
module _ (rules : Settings) (n : ℕ) (steps : List Step) where
  -- where all steps came, each fits
  pub chain_fits : (r : Standing) → Multiplies rules n steps (Ok r) → AllStepsFit rules.width n steps
  chain_fits r h = by h.0 h.1 h.2
    where
      by : (at : Result (Unit {0}) Stop) → Starts rules n at → GoesOn (λ _. Through Applies (begun n rules) steps) at (Ok r) → AllStepsFit rules.width n steps
      by (Ok x) room w = chains.chain_fits RawStepFits (policy_of matrix_chain) (begun n rules) steps r (AtEach-nil (RawStepFits rules.width n)) w
      by (Err stop) lacks w = absurd (let none : Ok r ≡ Err stop = w in cc)

  -- where one doesn't fit that is named, it is the first
  pub chain_unfit : (number : ℕ) → Multiplies rules n steps (Err (Width number)) → IsFirstUnfitStep rules.width n steps number
  chain_unfit number h = by h.0 h.1 h.2
    where
      by : (at : Result (Unit {0}) Stop) → Starts rules n at → GoesOn (λ _. Through Applies (begun n rules) steps) at (Err (Width number)) → IsFirstUnfitStep rules.width n steps number
      by (Ok x) room w = chains.chain_unfit RawStepFits (policy_of matrix_chain) (begun n rules) steps number (AtEach-nil (RawStepFits rules.width n)) w
      by (Err stop) lacks w = absurd (let same : Err (Width number) ≡ Err stop = w in let is : stop ≡ Nodes 0 (range_with_len 0 (2 * n)) rules.nodes = lacks.1 in cc)

-- ---- enough nodes
-- the steps left are still on as many qubits
rest_on : (s : Standing) (t : Step) (r : Standing) (steps : List Step) → Accepts s t r → All (λ u. IsOn s.input (gate_of u)) (t ∷ steps) → All (λ u. IsOn r.input (gate_of u)) steps
rest_on s t r steps a on = subst (λ n. All (λ u. IsOn n (gate_of u)) steps) (sym (ap (λ (v : Standing). v.input) a.same)) (All-tail (λ u. IsOn s.input (gate_of u)) t steps on)

-- what each step finds under a limit that is always enough
record HasRoom (s : Standing) : Type 0 where
  is_order : IsOrder s.order
  long : length s.order ≡ 2 * s.input
  limit : (64 * (s.rules.width + 2) + 130) * 2 ^ (2 * s.input) ≤ s.rules.nodes

room_next : (s : Standing) (t : Step) (r : Standing) → HasRoom s → Accepts s t r → HasRoom r
room_next s t r room a =
    let kept = is_next_order matrix_chain s r.order room.is_order a.order in
    subst HasRoom (sym a.same) (record { is_order = kept.0; long = kept.1 ∙ room.long; limit = room.limit })

-- the stop says that a step doesn't fit the width
abbrev pub IsWidth : Stop → Type 0
IsWidth (Width number) = Unit {0}
IsWidth _ = ⊥

stops_by_width : (s : Standing) (t : Step) → HasRoom s → IsOn s.input (gate_of t) → (stop : Stop) → Applies s t (Err stop) → IsWidth stop
stops_by_width s t room on (Width number) a = tt
stops_by_width s t room on (Nodes number order held) a = absurd (enough s t on room.is_order room.long room.limit number order held a)
stops_by_width s t room on OutOfMemory a = a

width_through : (s : Standing) (steps : List Step) → HasRoom s → All (λ t. IsOn s.input (gate_of t)) steps → (stop : Stop) → Through Applies s steps (Err stop) → IsWidth stop
width_through s [] room on stop h = absurd (let none : Err stop ≡ Ok s = h in cc)
width_through s (t ∷ steps) room on stop h = by h.0 h.1 h.2 (λ r a w. width_through r steps (room_next s t r room a) (rest_on s t r steps a on) stop w)
  where
    by : (at : Result Standing Stop) → Applies s t at → GoesOn (λ u. Through Applies u steps) at (Err stop) → ((r : Standing) → Accepts s t r → Through Applies r steps (Err stop) → IsWidth stop) → IsWidth stop
    by (Ok r) a w more = more r a w
    by (Err cause) a w more =
        let same : cause ≡ stop = let e : Err stop ≡ Err cause = w in cc in
        subst IsWidth same (stops_by_width s t room (All-head (λ u. IsOn s.input (gate_of u)) t steps on) cause a)

below_power : (m : ℕ) → m < 2 ^ m
below_power zero = omega arith
below_power (suc m) = let before = below_power m in let next : 2 ^ m < 2 ^ suc m = pow_below m (suc m) (omega arith) in omega (arith, before, next)

-- the identity has its nodes: three a qubit are fewer
identity_room : (w n nodes : ℕ) → (64 * (w + 2) + 130) * 2 ^ (2 * n) ≤ nodes → 3 * n ≤ nodes
identity_room w n nodes limit =
    let some = below_power (2 * n) in
    let two : 2 ≤ 64 * (w + 2) + 130 = omega arith in
    let less : 2 * 2 ^ (2 * n) ≤ (64 * (w + 2) + 130) * 2 ^ (2 * n) = mul-le-mul_right (2 ^ (2 * n)) two in
    omega (arith, some, less, limit)

module _ (rules : Settings) (n : ℕ) (steps : List Step) (on : All (λ t. IsOn n (gate_of t)) steps) (limit : (64 * (rules.width + 2) + 130) * 2 ^ (2 * n) ≤ rules.nodes) where
  begins : HasRoom (begun n rules)
  begins = record { is_order = natural_is_order (2 * n); long = length-range_with_len 0 (2 * n); limit = limit }

  -- steps stop for no other reason than the width
  pub only_width : (stop : Stop) → Multiplies rules n steps (Err stop) → IsWidth stop
  only_width stop h = by h.0 h.1 h.2
    where
      by : (at : Result (Unit {0}) Stop) → Starts rules n at → GoesOn (λ _. Through Applies (begun n rules) steps) at (Err stop) → IsWidth stop
      by (Ok x) room w = width_through (begun n rules) steps begins on stop w
      by (Err cause) lacks w = absurd (let room = identity_room rules.width n rules.nodes limit in let few : rules.nodes < 3 * n = lacks.0 in omega (arith, room, few))
