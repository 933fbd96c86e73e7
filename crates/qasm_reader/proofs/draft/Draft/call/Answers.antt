use Rattle.std.proofs.Common.{◌≡◌, ◌∙◌, sym, ap, Some, None, option_map}
use Rattle.std.proofs.lemmas.Result.{IfOk-weaker}
use Rattle.qasm_gates.specs.Gates.{gate_in}
use Rattle.qasm_gates.specs.Private.Views.{view_of, callee_gate}
use Rattle.qasm_reader.specs.Calls.{listed}
use Rattle.qasm_reader.specs.Private.Drafts.{call_on}
use Rattle.qasm_reader.proofs.draft.Draft.call.Goals as goal

pub returns-in-None : goal.returns-in-None
returns-in-None c =
    let e : gate_in (view_of c.args.known.now).definitions c.args.name.now ≡ None = sym c.find.ensures.gate ∙ ap (option_map (callee_gate c.args.known.now)) c.in-None.is in
    sym (ap (λ g. call_on c.args.self.now g (listed c.args.angles) c.args.arguments) e)

pub returns-in-Some : goal.returns-in-Some
returns-in-Some c =
    let e : gate_in (view_of c.args.known.now).definitions c.args.name.now ≡ Some (callee_gate c.args.known.now c.in-Some.callee) =
    sym c.find.ensures.gate ∙ ap (option_map (callee_gate c.args.known.now)) c.in-Some.is in
    IfOk-weaker c.call_gate.result _ _ (λ why h. h ∙ sym (ap (λ g. call_on c.args.self.now g (listed c.args.angles) c.args.arguments) e)) c.call_gate.ensures
