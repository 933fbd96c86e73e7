use Rattle.std.proofs.Common.{◌∙◌, refl}
use Rattle.std.proofs.lemmas.Map.Text.{hash_map_str_same}
use Rattle.qasm_gates.proofs.gates.Gates.number.Goals as goal

pub returns : goal.returns
returns c = c.copied.ensures ∙ c.get.ensures.value ∙ (hash_map_str_same c.args.name c.args.name.now c.args.self.now.names.entries refl).0
