-- Lists of events, event by event.
use Rattle.std.proofs.Common.{◌≡◌, ℕ, zero, suc, ◌+◌, ◌<◌, ◌≤◌, Bool, List, [], ◌∷◌, ◌++◌, Result, Ok, Err, length, get_or, take, inl, inr, refl, sym, ◌∙◌, ap, subst, arith, length-append, append_assoc, append-nil}
use Rattle.std.specs.Prelude.{IfOk, IfErr, OnOk}
use Rattle.std.proofs.lemmas.List.{take_more}
use Rattle.gate_set.specs.declared.gate.Gate.{Gate}
use Rattle.amp_dense.specs.Standing.{Standing, vector}
use Rattle.circuit_model.specs.Working.{work}
use Rattle.amp_dense.specs.declared.stop.Stop.{Stop}
use Rattle.state_update.specs.declared.events.Event.{Event}
use Rattle.state_update.specs.declared.events.Event.TheVariants as events
use Rattle.state_update.specs.declared.events.EventStop.{EventStop}
use Rattle.state_update.specs.declared.events.Report.{Report}
use Rattle.state_update.specs.declared.events.Report.TheVariants as reports
use Rattle.state_update.specs.Kept.{State, standing_of}
use Rattle.state_update.specs.Events.{gate_of, gates_of, Reports, EventStops, IsAfter, Runs, RunStops, Stops}

-- ---- what stays of a state
gates_after : (old new : State) (gates : List Gate) → new.gates ≡ old.gates → gates ≡ [] → new.gates ≡ old.gates ++ gates
gates_after old new gates same none = same ∙ sym (append-nil old.gates) ∙ ap (λ (l : List Gate). old.gates ++ l) (sym none)

pub report_after : (old : State) (e : Event) (r : Report) (new : State) → Reports old e r new → IsAfter old (gate_of e) new
report_after old (events.Gate g) reports.Stepped new h = record {
  input = ap (λ (t : Standing). t.input) h.accepts.same;
  rules = ap (λ (t : Standing). t.rules) h.accepts.same;
  gates_are = ap (λ (t : Standing). t.gates) h.accepts.same;
}
report_after old (events.Gate g) _ new h = absurd h
report_after old _ r new h = record {
  input = ap (λ (t : State). t.input) h.0;
  rules = ap (λ (t : State). t.rules) h.0;
  gates_are = gates_after old new [] (ap (λ (t : State). t.gates) h.0) refl;
}

pub stop_after : (old : State) (e : Event) (stop : Stop) (new : State) → EventStops old e stop new → IsAfter old [] new
stop_after old (events.Gate g) stop new h = record {
  input = ap (λ (t : Standing). t.input) h.refused;
  rules = ap (λ (t : Standing). t.rules) h.refused;
  gates_are = gates_after old new [] (ap (λ (t : Standing). t.gates) h.refused) refl;
}
stop_after old _ stop new h = record {
  input = ap (λ (t : State). t.input) h.0;
  rules = ap (λ (t : State). t.rules) h.0;
  gates_are = gates_after old new [] (ap (λ (t : State). t.gates) h.0) refl;
}

after_none : (old new : State) → new ≡ old → IsAfter old [] new
after_none old new same = record {
  input = ap (λ (t : State). t.input) same;
  rules = ap (λ (t : State). t.rules) same;
  gates_are = gates_after old new [] (ap (λ (t : State). t.gates) same) refl;
}

pub after_then : (old s new : State) (gates more : List Gate) → IsAfter old gates s → IsAfter s more new → IsAfter old (gates ++ more) new
after_then old s new gates more a b = record {
  input = b.input ∙ a.input;
  rules = b.rules ∙ a.rules;
  gates_are = b.gates_are ∙ ap (λ (l : List Gate). l ++ more) a.gates_are ∙ append_assoc old.gates gates more;
}

pub runs_after : (old : State) (es : List Event) (rs : List Report) (new : State) → Runs old es rs new → IsAfter old (gates_of es) new
runs_after old [] [] new h = after_none old new h
runs_after old [] (r ∷ rs) new h = absurd h
runs_after old (e ∷ es) [] new h = absurd h
runs_after old (e ∷ es) (r ∷ rs) new h = after_then old h.0 new (gate_of e) (gates_of es) (report_after old e r h.0 h.1) (runs_after h.0 es rs new h.2)

stopped_after : (old : State) (es : List Event) (at : ℕ) (stop : Stop) (new : State) → RunStops old es at stop new → IsAfter old (gates_of (take at es)) new
stopped_after old [] at stop new h = absurd h
stopped_after old (e ∷ es) zero stop new h = stop_after old e stop new h
stopped_after old (e ∷ es) (suc at) stop new h = after_then old h.1 new (gate_of e) (gates_of (take at es)) (report_after old e h.0 h.1 h.2) (stopped_after h.1 es at stop new h.3)

pub stops_after : (old : State) (es : List Event) (stop : EventStop) (new : State) → Stops old es stop new → IsAfter old (gates_of (take stop.at es)) new
stops_after old es stop new (inl h) = stopped_after old es stop.at stop.stop new h
stops_after old es stop new (inr h) = subst (λ (s : EventStop). IsAfter old (gates_of (take s.at es)) new) (sym h.0) (after_none old new h.1)

-- ---- the vector
pub vector_after : (old new : State) (gates : List Gate) → IsAfter old gates new → vector (standing_of new) ≡ work (old.gates ++ gates) old.input
vector_after old new gates h = ap (λ (l : List Gate). work l new.input) h.gates_are ∙ ap (λ (x : List Bool). work (old.gates ++ gates) x) h.input

pub report_vector : (s t : State) (e : Event) (r : Report) → Reports s e r t → vector (standing_of t) ≡ work (s.gates ++ gate_of e) s.input
report_vector s t e r h = vector_after s t (gate_of e) (report_after s e r t h)

-- what is told of an answer
pub input_stays : (s t : State) (e : Event) (answer : Result Report Stop) → IfOk answer (λ r. Reports s e r t) → IfErr answer (λ stop. EventStops s e stop t) → t.input ≡ s.input
input_stays s t e (Ok r) done stopped = (report_after s e r t done).input
input_stays s t e (Err stop) done stopped = (stop_after s e stop t stopped).input

pub run_input : {V : Type 0} (s t : State) (es : List Event) (items : V → List Report) (answer : Result V EventStop) → IfOk answer (λ rs. Runs s es (items rs) t) → IfErr answer (λ stop. Stops s es stop t) → t.input ≡ s.input
run_input s t es items (Ok rs) runs stops = (runs_after s es (items rs) t runs).input
run_input s t es items (Err stop) runs stops = (stops_after s es stop t stops).input

pub run_accepted : {V : Type 0} (s t : State) (es : List Event) (items : V → List Report) (answer : Result V EventStop) → IfOk answer (λ rs. Runs s es (items rs) t) → OnOk answer (IsAfter s (gates_of es) t)
run_accepted s t es items (Ok rs) runs = runs_after s es (items rs) t runs
run_accepted s t es items (Err stop) runs = tt

pub run_before : {V : Type 0} (s t : State) (es : List Event) (answer : Result V EventStop) → IfErr answer (λ stop. Stops s es stop t) → IfErr answer (λ stop. IsAfter s (gates_of (take stop.at es)) t)
run_before s t es (Ok rs) stops = tt
run_before s t es (Err stop) stops = stops_after s es stop t stops

pub run_entries : {V : Type 0} (s t : State) (es : List Event) (items : V → List Report) (answer : Result V EventStop) → IfOk answer (λ rs. Runs s es (items rs) t) → OnOk answer (vector (standing_of t) ≡ work (s.gates ++ gates_of es) s.input)
run_entries s t es items (Ok rs) runs = vector_after s t (gates_of es) (runs_after s es (items rs) t runs)
run_entries s t es items (Err stop) runs = tt

pub run_entries_before : {V : Type 0} (s t : State) (es : List Event) (answer : Result V EventStop) → IfErr answer (λ stop. Stops s es stop t)
    → IfErr answer (λ stop. vector (standing_of t) ≡ work (s.gates ++ gates_of (take stop.at es)) s.input)
run_entries_before s t es (Ok rs) stops = tt
run_entries_before s t es (Err stop) stops = vector_after s t (gates_of (take stop.at es)) (stops_after s es stop t stops)

pub stop_vector : (s t : State) (e : Event) (stop : Stop) → EventStops s e stop t → vector (standing_of t) ≡ vector (standing_of s)
stop_vector s t e stop h = vector_after s t [] (stop_after s e stop t h) ∙ ap (λ (l : List Gate). work l s.input) (append-nil s.gates)

-- ---- one event more
pub runs_long : (old : State) (es : List Event) (rs : List Report) (new : State) → Runs old es rs new → length rs ≡ length es
runs_long old [] [] new h = refl
runs_long old [] (r ∷ rs) new h = absurd h
runs_long old (e ∷ es) [] new h = absurd h
runs_long old (e ∷ es) (r ∷ rs) new h = ap suc (runs_long h.0 es rs new h.2)

runs_more : (old s new : State) (es : List Event) (rs : List Report) (e : Event) (r : Report) → Runs old es rs s → Reports s e r new → Runs old (es ++ e ∷ []) (rs ++ r ∷ []) new
runs_more old s new [] [] e r h done = (new, subst (λ (t : State). Reports t e r new) h done, refl)
runs_more old s new [] (x ∷ rs) e r h done = absurd h
runs_more old s new (x ∷ es) [] e r h done = absurd h
runs_more old s new (x ∷ es) (y ∷ rs) e r h done = (h.0, h.1, runs_more h.0 s new es rs e r h.2 done)

pub runs_on : (old s new : State) (list : List Event) (i : ℕ) (rs : List Report) (e : Event) (r : Report) → i < length list → e ≡ get_or list i e → Runs old (take i list) rs s → Reports s e r new
    → Runs old (take (i + 1) list) (rs ++ r ∷ []) new
runs_on old s new list i rs e r lt here h done =
    let more : take i list ++ e ∷ [] ≡ take (i + 1) list = ap (λ (x : Event). take i list ++ x ∷ []) here ∙ sym (take_more list i e lt) in
    subst (λ (l : List Event). Runs old l (rs ++ r ∷ []) new) more (runs_more old s new (take i list) rs e r h done)

-- ---- the event that stopped
pub runs_stop : (old s new : State) (list : List Event) (i : ℕ) (rs : List Report) (e : Event) (stop : Stop) → i < length list → e ≡ get_or list i e → Runs old (take i list) rs s → EventStops s e stop new
    → RunStops old list i stop new
runs_stop old s new [] i rs e stop lt here h done = absurd (omega (arith, lt))
runs_stop old s new (x ∷ list) zero [] e stop lt here h done = subst (λ (y : Event). EventStops old y stop new) here (subst (λ (t : State). EventStops t e stop new) h done)
runs_stop old s new (x ∷ list) zero (r ∷ rs) e stop lt here h done = absurd h
runs_stop old s new (x ∷ list) (suc i) [] e stop lt here h done = absurd h
runs_stop old s new (x ∷ list) (suc i) (r ∷ rs) e stop lt here h done = (r, h.0, h.1, runs_stop h.0 s new list i rs e stop (omega (arith, lt)) here h.2 done)

-- ---- how many gates there are
-- those up to an event are no more than those of the list
pub gates_up_to : (list : List Event) (i : ℕ) (e : Event) → i < length list → e ≡ get_or list i e → length (gates_of (take i list)) + length (gate_of e) ≤ length (gates_of list)
gates_up_to [] i e lt here = absurd (omega (arith, lt))
gates_up_to (x ∷ list) zero e lt here =
    let same : length (gate_of e) ≡ length (gate_of x) = ap (λ (y : Event). length (gate_of y)) here in
    omega (arith, same, length-append (gate_of x) (gates_of list))
gates_up_to (x ∷ list) (suc i) e lt here =
    let rest = gates_up_to list i e (omega (arith, lt)) here in
    omega (arith, rest, length-append (gate_of x) (gates_of list), length-append (gate_of x) (gates_of (take i list)))

-- a list has no more gates than events
pub gates_few : (es : List Event) → length (gates_of es) ≤ length es
gates_few [] = omega arith
gates_few (events.Gate g ∷ es) = let rest = gates_few es in omega (arith, rest)
gates_few (_ ∷ es) = let rest = gates_few es in omega (arith, rest)
