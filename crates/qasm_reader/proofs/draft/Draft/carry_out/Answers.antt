use Rattle.std.proofs.Common.{◌≡◌, sym, subst, IfOk}
use Rattle.qasm_forms.specs.declared.statement.Form.{Form}
use Rattle.qasm_forms.specs.Shown.{shown}
use Rattle.qasm_gates.specs.Private.Views.{view_of}
use Rattle.qasm_reader.specs.Private.Drafts.{outcome, step}
use Rattle.qasm_reader.proofs.draft.Draft.carry_out.Goals as goal

pub returns-in-Call : goal.returns-in-Call
returns-in-Call c =
    subst (λ (f : Form). IfOk c.call.result (λ why. outcome why c.call.new.self ≡ step c.args.limit c.args.self.now (view_of c.args.known.now).definitions (shown f))) (sym c.in-Call.is) c.call.ensures
