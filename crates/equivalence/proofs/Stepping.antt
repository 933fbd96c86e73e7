-- The matrix after the steps so far, one more step, and all of them.
use Rattle.std.proofs.Common.{◌≡◌, ℕ, ◌+◌, ◌*◌, ◌<◌, ◌≤◌, refl, sym, ◌∙◌, ap, subst, List, ◌∷◌, All, length, take, drop, Result, Ok, Err, arith}
use Rattle.std.proofs.lemmas.List.{length-take-le}
use Rattle.ring_omega.specs.Ring.{times_power, root_of_two}
use Rattle.gate_set.specs.declared.gate.Gate.{Gate}
use Rattle.gate_set.specs.Shape.{IsOn}
use Rattle.circuit_model.specs.Product.{exponent}
use Rattle.diagram_model.specs.Stores.{Diagram}
use Rattle.phases.specs.Phases.{GoesOn, Through}
use Rattle.phases.proofs.Ends.{through_more, through_stops}
use Rattle.amp_dense.specs.declared.stop.Stop.{Stop}
use Rattle.amp_dense.specs.declared.stop.Stop.TheVariants.{Width, Nodes, OutOfMemory}
use Rattle.amp_dense.specs.Rules.{Settings}
use Rattle.amp_dense.specs.Chains.{MayStop}
use Rattle.amp_printer.specs.declared.verdict.Verdict.{Verdict}
use Rattle.comparison.specs.Scalars.{comparison, compared}
use Rattle.comparison.specs.Products.{Step, work_matrix}
use Rattle.comparison.specs.Steps.{steps_of}
use Rattle.comparison.specs.Verdicts.{IsVerdict}
use Rattle.comparison.proofs.TurnLemmas.{take-next}
use Rattle.comparison.proofs.Values.{SameValues, SameValues-sym}
use Rattle.comparison.proofs.Verdicts.{verdict-same}
use Rattle.comparison.proofs.Working.{work_matrix-value}
use Rattle.slice_quad.specs.declared.quad.SliceQuad.{SliceQuad}
use Rattle.slice_quad.specs.Walks.{entries_in}
use Rattle.diagram_ops.specs.Diagrams.{StoreAndCache}
use Rattle.unitary_update.specs.Kept.{State, Standing, standing_of, begun, Accepts, Applies, Starts, Multiplies, ShowsMatrix}
use Rattle.unitary_update.proofs.Chains.{multiplied}
use Rattle.equivalence.specs.Matrices.{matrix_in}

-- ---- one step more
-- the identity, before the first step
pub begins : (n : ℕ) (rules : Settings) (steps : List Step) (s : Standing) → s ≡ begun n rules → 3 * n ≤ rules.nodes → Multiplies rules n (take 0 steps) (Ok s)
begins n rules steps s e room = let start : Result Standing Stop = Ok (begun n rules) in (Ok tt, (λ few. omega (arith, room, few)), (let same : Ok s ≡ start = ap Ok e in same))

-- where it has too few nodes, all stops so
pub starts : (n : ℕ) (rules : Settings) (steps : List Step) (stop : Stop) → MayStop (Starts rules n) stop → MayStop (Multiplies rules n steps) stop
starts n rules steps (Width number) h = (Err (Width number), h, refl)
starts n rules steps (Nodes number order held) h = (Err (Nodes number order held), h, refl)
starts n rules steps OutOfMemory h = tt

-- the matrix stands by the first t steps, and s is the next one
module _ (n : ℕ) (rules : Settings) (steps : List Step) (t : ℕ) (s : Step) (rest : List Step) (next : drop t steps ≡ s ∷ rest) (m : Standing) (now : Multiplies rules n (take t steps) (Ok m)) where
  -- it comes too
  pub one_after : (new : Standing) → Accepts m s new → Multiplies rules n (take (t + 1) steps) (Ok new)
  one_after new a = by now.0 now.1 now.2
    where
      by : (at : Result (Unit {0}) Stop) → Starts rules n at → GoesOn (λ _. Through Applies (begun n rules) (take t steps)) at (Ok m) → Multiplies rules n (take (t + 1) steps) (Ok new)
      by (Ok x) room w =
          (Ok x, room, subst (λ l. Through Applies (begun n rules) l (Ok new)) (sym (take-next steps t s rest next).0) (through_more Applies m s (begun n rules) (take t steps) (Ok new) w a))
      by (Err stop) lacks w = absurd (let none : Ok m ≡ Err stop = w in cc)

  -- or it stops all
  halted : (stop : Stop) → Applies m s (Err stop) → Multiplies rules n steps (Err stop)
  halted stop a = by now.0 now.1 now.2
    where
      by : (at : Result (Unit {0}) Stop) → Starts rules n at → GoesOn (λ _. Through Applies (begun n rules) (take t steps)) at (Ok m) → Multiplies rules n steps (Err stop)
      by (Ok x) room w =
          (Ok x, room, subst (λ l. Through Applies (begun n rules) l (Err stop)) (sym (take-next steps t s rest next).1.1) (through_stops Applies m s (begun n rules) (take t steps) rest stop w a))
      by (Err cause) lacks w = absurd (let none : Ok m ≡ Err cause = w in cc)

  pub stops_after : (stop : Stop) → MayStop (Applies m s) stop → MayStop (Multiplies rules n steps) stop
  stops_after (Width number) a = halted (Width number) a
  stops_after (Nodes number order held) a = halted (Nodes number order held) a
  stops_after OutOfMemory a = tt

-- fewer steps are done than may be
pub few_steps : (n : ℕ) (rules : Settings) (steps : List Step) (t most : ℕ) (m : Standing) → Multiplies rules n (take t steps) (Ok m) → t < length steps → length steps ≤ most → length m.gates < most
few_steps n rules steps t most m now lt le =
    let long = ap length (multiplied rules n (take t steps) m now).accepted ∙ length-take-le t steps (omega (arith, lt)) in omega (arith, long, lt, le)

-- ---- what is said of the matrix after all of them
-- after all steps the integers have the values of U·V†
shown_values : (n : ℕ) (us vs : List Gate) (d : Diagram) (q : SliceQuad) → All (IsOn n) us → All (IsOn n) vs → ShowsMatrix n d q (work_matrix n (steps_of us vs))
    → SameValues n (matrix_in d q) q.exponent (compared us vs) (exponent (comparison us vs))
unfolding entries_in
shown_values n us vs d q on_us on_vs shown r c er ec =
    let w = work_matrix n (steps_of us vs) in
    ap (times_power root_of_two (exponent (comparison us vs))) (sym (shown.entries r c er ec)) ∙ work_matrix-value n us vs r c on_us on_vs er ec
    ∙ ap (λ k. times_power root_of_two k (compared us vs r c)) shown.exponent

-- so what is said of them is said of U·V†
pub said : (n : ℕ) (us vs : List Gate) (d : Diagram) (q : SliceQuad) (v : Verdict) → All (IsOn n) us → All (IsOn n) vs → ShowsMatrix n d q (work_matrix n (steps_of us vs))
    → IsVerdict n (matrix_in d q) q.exponent v → IsVerdict n (compared us vs) (exponent (comparison us vs)) v
said n us vs d q v on_us on_vs shown h =
    verdict-same n (compared us vs) (exponent (comparison us vs)) (matrix_in d q) q.exponent v
    (SameValues-sym n (matrix_in d q) q.exponent (compared us vs) (exponent (comparison us vs)) (shown_values n us vs d q on_us on_vs shown)) h

-- what is said of the parts of a matrix after all steps
pub concluded : (rules : Settings) (n : ℕ) (us vs : List Gate) (m : State) (d : StoreAndCache) (q : SliceQuad) (v : Verdict) → All (IsOn n) us → All (IsOn n) vs
    → Multiplies rules n (steps_of us vs) (Ok (standing_of m)) → d ≡ m.diagrams → q ≡ m.quad → ShowsMatrix m.qubits m.diagrams.store m.quad (work_matrix m.qubits m.steps)
    → IsVerdict n (matrix_in d.store q) q.exponent v → IsVerdict n (compared us vs) (exponent (comparison us vs)) v
concluded rules n us vs m d q v on_us on_vs came ed eq shown h =
    let goes = multiplied rules n (steps_of us vs) (standing_of m) came in
    let whole : ShowsMatrix n m.diagrams.store m.quad (work_matrix n (steps_of us vs)) =
    subst (λ l. ShowsMatrix n m.diagrams.store m.quad (work_matrix n l)) goes.accepted (subst (λ i. ShowsMatrix i m.diagrams.store m.quad (work_matrix i m.steps)) goes.input shown) in
    let here : IsVerdict n (matrix_in m.diagrams.store m.quad) m.quad.exponent v =
    subst (λ (s : SliceQuad). IsVerdict n (matrix_in m.diagrams.store s) s.exponent v) eq (subst (λ (s : StoreAndCache). IsVerdict n (matrix_in s.store q) q.exponent v) ed h) in
    said n us vs m.diagrams.store m.quad v on_us on_vs whole here
