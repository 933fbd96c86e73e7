-- The statement that a form of the code stands for.
use Rattle.std.specs.Prelude.{Option, option_map}
use Rattle.qasm_forms.specs.Statements.{Statement, version, include, qubits, bits, barrier, measure, call, definition, left_out, Line, fence, calls}
use Rattle.qasm_forms.specs.Private.Fronts.{seen_end}
use Rattle.qasm_forms.specs.declared.lines.Line.{Line as CodeLine}
use Rattle.qasm_forms.specs.declared.lines.Line.TheVariants.{Barrier as LineBarrier, Call as LineCall}
use Rattle.qasm_forms.specs.declared.statement.Form.{Form}
use Rattle.qasm_forms.specs.declared.statement.Form.TheVariants.{Version, Include, Qubits, Bits, Barrier, Measure, Call, Definition, LeftOut}

abbrev pub shown_line : CodeLine → Line
shown_line (LineBarrier on) = fence on
shown_line (LineCall name angles on) = calls name.now angles on

abbrev pub shown : Form → Statement
shown Version = version
shown (Include text) = include text.now
shown (Qubits name size) = qubits name.now size.now
shown (Bits name size) = bits name.now size.now
shown (Barrier all) = barrier all
shown (Measure from to) = measure from to
shown (Call name angles all) = call name.now angles all
shown (Definition name params formals lines) = definition name.now params formals lines
shown (LeftOut name more end) = left_out name.now more (seen_end end)

abbrev pub shown_if : Option Form → Option Statement
shown_if form = option_map shown form
