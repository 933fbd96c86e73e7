use Rattle.std.proofs.Common.{◌≡◌, ◌∙◌, sym, ap, get_or, length, None, option_map}
use Rattle.qasm_gates.specs.Gates.{builtin}
use Rattle.qasm_gates.specs.Private.Seen.{seen_builtin}
use Rattle.qasm_gates.specs.Private.Tables.{nothing, shown}
use Rattle.qasm_gates.proofs.Naming.{defined_gate, number_known}
use Rattle.qasm_gates.proofs.gates.Gates.find.Goals as goal

pub returns-in-Some-number-clause-gate : goal.returns-in-Some-number-clause-gate
returns-in-Some-number-clause-gate c =
    let gates = (shown c.args.self.now.table).gates in
    let bare : builtin c.args.name.now ≡ None = sym c.builtin_named.ensures.named ∙ ap (option_map seen_builtin) c.in-None.is in
    sym (defined_gate gates c.args.name.now c.args.self.now.names.entries c.number.result bare c.number.ensures ∙ ap (option_map (λ i. get_or gates i nothing)) c.in-Some-number.is)

pub returns-in-Some-number-clause-known : goal.returns-in-Some-number-clause-known
returns-in-Some-number-clause-known c = number_known (length c.args.self.now.table.rows.items) c.args.name.now c.args.self.now.names.entries c.in-Some-number.number c.requires.numbered (sym c.number.ensures ∙ c.in-Some-number.is)

pub returns-in-None-number-clause-gate : goal.returns-in-None-number-clause-gate
returns-in-None-number-clause-gate c =
    let gates = (shown c.args.self.now.table).gates in
    let bare : builtin c.args.name.now ≡ None = sym c.builtin_named.ensures.named ∙ ap (option_map seen_builtin) c.in-None.is in
    sym (defined_gate gates c.args.name.now c.args.self.now.names.entries c.number.result bare c.number.ensures ∙ ap (option_map (λ i. get_or gates i nothing)) c.in-None-number.is)
