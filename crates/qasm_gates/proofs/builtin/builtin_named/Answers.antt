use Rattle.std.proofs.Common.{◌∙◌, sym, ap, Some, option_map}
use Rattle.std.specs.Option.{option_map_or}
use Rattle.qasm_gates.specs.Gates.{plainly, based, builtin}
use Rattle.qasm_gates.specs.Private.Seen.{seen_base}
use Rattle.qasm_gates.proofs.builtin.builtin_named.Goals as goal

pub returns-in-Some-clause-named : goal.returns-in-Some-clause-named
unfolding builtin
returns-in-Some-clause-named c =
    ap (λ x. option_map_or (λ b. Some (plainly b)) x (based 8 c.args.name.now)) (sym (ap (option_map seen_base) c.in-Some.is) ∙ c.own_named.ensures)

pub returns-in-None-clause-named : goal.returns-in-None-clause-named
unfolding builtin
returns-in-None-clause-named c =
    c.based.ensures.named ∙ ap (λ x. option_map_or (λ b. Some (plainly b)) x (based 8 c.args.name.now)) (sym (ap (option_map seen_base) c.in-None.is) ∙ c.own_named.ensures)
