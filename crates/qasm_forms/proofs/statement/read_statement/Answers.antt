use Rattle.std.proofs.Common.{◌∙◌, ap}
use Rattle.qasm_forms.specs.Private.Parsing.{statement_at}
use Rattle.qasm_forms.specs.Private.Fronts.{seen_end}
use Rattle.qasm_forms.proofs.Exact.{read_as, found_exact}
use Rattle.qasm_forms.proofs.statement.read_statement.Goals as goal

pub returns-clause-found : goal.returns-clause-found
returns-clause-found c leaves e = found_exact leaves c.args.left (seen_end c.args.end) c.args.lexemes.now c.read_form.result c.read_form.ensures e

pub returns-clause-only : goal.returns-clause-only
returns-clause-only c leaves s e i w =
    c.read_form.ensures ∙ ap (λ b. statement_at b (seen_end c.args.end) c.args.lexemes.now) e ∙ read_as leaves c.args.lexemes.now (seen_end c.args.end) s i w
