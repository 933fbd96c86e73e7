use Rattle.std.proofs.Common.{rules, ◌≡◌, ℕ, ◌+◌, [], ◌<◌, List, length, get_or, take, inl, refl, sym, ◌∙◌, ap, subst, arith, length-append}
use Rattle.std.proofs.Math.Seq.{take-length}
use Rattle.std.proofs.lemmas.List.{length-take-le}
use Rattle.state_update.specs.declared.events.Event.{Event}
use Rattle.state_update.specs.declared.events.Report.{Report}
use Rattle.state_update.specs.Events.{IsWithin, Runs, RunStops, gates_of}
use Rattle.state_update.proofs.RunLemmas.{runs_after, runs_long, runs_on, runs_stop, gates_up_to}
use Rattle.state_update.proofs.sliced.SlicedState.run_in_turn.Goals as goal

pub events-init : goal.events-init
events-init c = record { room = c.in-Ok.ensures.capacity; runs = subst (λ (l : List Report). Runs c.args.self.now [] l c.args.self.now) (sym c.in-Ok.ensures.items) refl }

pub upkeep-requires-clause-within : goal.upkeep-requires-clause-within
upkeep-requires-clause-within c =
    let list = c.args.list.now in let i = c.events.e-index in
    let e : Event = c.e-item.result in
    let lt : i < length list = c.events-test.true in
    let here : e ≡ get_or list i e = c.e-item.is in
    let after = runs_after c.args.self.now (take i list) c.events.reports.items c.events.self c.events.invariant.runs in
    subst (λ (n : ℕ). IsWithin n e) (sym (ap length after.input)) (subst (λ (x : Event). IsWithin (length c.args.self.now.input) x) (sym here) (c.requires.within i e lt))

pub upkeep-requires-clause-few : goal.upkeep-requires-clause-few
upkeep-requires-clause-few c =
    let list = c.args.list.now in let i = c.events.e-index in
    let e : Event = c.e-item.result in
    let lt : i < length list = c.events-test.true in
    let here : e ≡ get_or list i e = c.e-item.is in
    let after = runs_after c.args.self.now (take i list) c.events.reports.items c.events.self c.events.invariant.runs in
    let up_to = gates_up_to list i e lt here in
    omega (arith, up_to, ap length after.gates_are, length-append c.args.self.now.gates (gates_of (take i list)), c.requires.few)

pub events-preserved : goal.events-preserved
events-preserved c =
    let list = c.args.list.now in let i = c.events.e-index in
    let e : Event = c.e-item.result in
    let lt : i < length list = c.events-test.true in
    let here : e ≡ get_or list i e = c.e-item.is in
    let room = c.events.invariant.room in let same = c.push_reserved.ensures.capacity in
    record {
      room = omega (arith, room, same);
      runs =
          subst (λ (l : List Report). Runs c.args.self.now (take (i + 1) list) l c.upkeep.new.self) (sym c.push_reserved.ensures.items)
          (runs_on c.args.self.now c.events.self c.upkeep.new.self list i c.events.reports.items e c.in-Ok-upkeep.report lt here c.events.invariant.runs c.in-Ok-upkeep.ensures.done);
    }

pub push_reserved-requires : goal.push_reserved-requires
push_reserved-requires c =
    let list = c.args.list.now in let i = c.events.e-index in
    let lt : i < length list = c.events-test.true in
    let long = runs_long c.args.self.now (take i list) c.events.reports.items c.events.self c.events.invariant.runs in
    let so_far : length (take i list) ≡ i = length-take-le i list (omega (arith, lt)) in
    omega (arith, lt, long, so_far, c.events.reports.ok.0, c.events.invariant.room)

pub returns-in-Err-clause-stops : goal.returns-in-Err-clause-stops
returns-in-Err-clause-stops c =
    let list = c.args.list.now in let i = c.events.e-index in
    let e : Event = c.e-item.result in
    let lt : i < length list = c.events-test.true in
    let long = runs_long c.args.self.now (take i list) c.events.reports.items c.events.self c.events.invariant.runs in
    let so_far : length (take i list) ≡ i = length-take-le i list (omega (arith, lt)) in
    let at : c.len-at.result ≡ i = c.len-at.ensures ∙ c.events.reports.ok.0 ∙ long ∙ so_far in
    inl (subst (λ (k : ℕ). RunStops c.args.self.now list k c.in-Err.stop c.upkeep.new.self) (sym at)
    (runs_stop c.args.self.now c.events.self c.upkeep.new.self list i c.events.reports.items e c.in-Err.stop lt c.e-item.is c.events.invariant.runs c.in-Err.ensures.stopped))

pub returns-clause-runs : goal.returns-clause-runs
returns-clause-runs c =
    let list = c.args.list.now in
    let all : c.events.e-index ≡ length list = search rules in
    subst (λ l. Runs c.args.self.now l c.events.reports.items c.events.self) (ap (λ (i : ℕ). take i list) all ∙ take-length list) c.events.invariant.runs
