use Rattle.std.proofs.Common.{◌≡◌, ◌∙◌, sym, ap, subst, ◌<◌, ◌*◌, false, List, length, take}
use Rattle.std.proofs.lemmas.Result.{IfOk-weaker}
use Rattle.qasm_gates.specs.Private.Proper.{AreQubits}
use Rattle.qasm_gates.specs.Private.Views.{callee_gate}
use Rattle.qasm_reader.specs.Acts.{Target, wholes, place_count, qubits_at}
use Rattle.qasm_reader.specs.Calls.{listed}
use Rattle.qasm_reader.specs.Private.Seen.{seen_targets}
use Rattle.qasm_reader.specs.Private.Meanings.{meaning_of}
use Rattle.qasm_reader.specs.Private.Scope.{differ, repeats, wrong_counts}
use Rattle.qasm_reader.specs.Private.Drafts.{Draft, itemed}
use Rattle.qasm_reader.proofs.Placing.{are_qubits}
use Rattle.qasm_reader.proofs.Calling.{Met, met, repeating, going_on, repeats_are, all_first, right_arity, right_angles}
use Rattle.qasm_reader.proofs.draft.Draft.call_gate.Goals as goal
use Rattle.qasm_reader.proofs.draft.Draft.call_gate.Goals.{After-repeats}

-- the targets of all arguments
record Found (c : After-repeats) : Type 0 where
  targets : List Target
  met : Met c.args.self.now c.args.arguments targets
  first : seen_targets c.look_up-found.result.targets.items ≡ take 64 targets
  counts : wrong_counts (callee_gate c.args.known.now c.args.callee) (length c.args.arguments) (length (listed c.args.angles)) ≡ false
  alike : differ (wholes targets) ≡ false

found : (c : After-repeats) → Found c
found c =
    let m = c.look_up-found.ensures.means c.if-found.false c.if-found-2.false in
    record {
      targets = m.0;
      met =
          met c.args.self.now c.args.arguments c.self.inside.registers (ap (λ (x : Draft). x.registers) c.self.view_is) _ _ c.look_up-found.ensures.unknown c.look_up-found.ensures.beyond
          c.if-found.false c.if-found-2.false m.0 m.1;
      first = m.2;
      counts = sym (c.miscounts.ensures (length c.args.arguments) (length (listed c.args.angles)) c.look_up-found.ensures.count c.count_angles.ensures) ∙ c.if-miscounts.false;
      alike = sym m.3 ∙ c.if-found-3.false;
    }

-- the test of repeats is that of all of them
repeats_is : (c : After-repeats) (f : Found c) → c.repeats.result ≡ repeats f.targets
repeats_is c f =
    c.repeats.ensures ∙ repeats_are c.args.self.now c.requires.draft c.args.arguments f.targets f.met f.alike c.look_up-found.result.count c.look_up-found.ensures.count (seen_targets c.look_up-found.result.targets.items) f.first

same_targets : (c : After-repeats) (f : Found c) → c.repeats.result ≡ false → seen_targets c.look_up-found.result.targets.items ≡ f.targets
same_targets c f h =
    all_first c.args.self.now c.args.arguments f.targets f.met c.look_up-found.result.count c.look_up-found.ensures.count (seen_targets c.look_up-found.result.targets.items) f.first (sym c.repeats.ensures ∙ h)

pub returns-then-repeats : goal.returns-then-repeats
returns-then-repeats c =
    let a = (goal.at.returns-then-repeats c).After-repeats in let f = found a in
    repeating c.args.self.now (callee_gate c.args.known.now c.args.callee) (listed c.args.angles) c.args.arguments f.targets f.met f.counts f.alike (sym (repeats_is a f) ∙ c.if-repeats.true)

pub call_on-requires-clause-counted : goal.call_on-requires-clause-counted
call_on-requires-clause-counted c =
    let f = found (goal.at.call_on-requires-clause-counted c).After-repeats in
    right_angles (callee_gate c.args.known.now c.args.callee) (length c.args.arguments) (length (listed c.args.angles)) f.counts

pub call_on-requires-clause-placed : goal.call_on-requires-clause-placed
call_on-requires-clause-placed c place h =
    let a = (goal.at.call_on-requires-clause-placed c).After-repeats in
    let f = found a in
    let gate = callee_gate c.args.known.now c.args.callee in
    let same : seen_targets c.as_slice.result.now ≡ f.targets = ap seen_targets c.as_slice.ensures.value ∙ same_targets a f c.if-repeats.false in
    subst (λ ts. AreQubits gate.arity (qubits_at ts place)) (sym same)
    (are_qubits c.args.self.now c.requires.draft c.args.arguments f.targets f.met.known f.met.within f.met.are f.alike gate.arity (right_arity gate (length c.args.arguments) (length (listed c.args.angles)) f.counts)
    (sym (repeats_is a f) ∙ c.if-repeats.false) place (subst (λ ts. place < place_count ts) same h))

pub returns : goal.returns
returns c =
    let a = (goal.at.returns c).After-repeats in
    let f = found a in
    let d = c.args.self.now in
    let gate = callee_gate c.args.known.now c.args.callee in
    let angles = listed c.args.angles in
    let same : seen_targets c.as_slice.result.now ≡ f.targets = ap seen_targets c.as_slice.ensures.value ∙ same_targets a f c.if-repeats.false in
    IfOk-weaker c.call_on.result _ _
    (λ why h. h ∙ ap (λ ts. itemed d (gate.items * place_count ts) (meaning_of gate angles) ts) same
    ∙ going_on d gate angles c.args.arguments f.targets f.met f.counts f.alike (sym (repeats_is a f) ∙ c.if-repeats.false))
    c.call_on.ensures
