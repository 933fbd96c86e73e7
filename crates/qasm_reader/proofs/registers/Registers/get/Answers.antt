use Rattle.std.proofs.Common.{◌∙◌, ap, refl, option_map}
use Rattle.std.proofs.lemmas.Map.Text.{hash_map_str_same}
use Rattle.qasm_reader.specs.Acts.{register}
use Rattle.qasm_reader.specs.Private.Seen.{seen_register}
use Rattle.qasm_reader.proofs.Names.{lookup_named}
use Rattle.qasm_reader.proofs.registers.Registers.get.Goals as goal

pub returns : goal.returns
returns c =
    ap (option_map seen_register) (c.copied.ensures ∙ c.get.ensures.value ∙ (hash_map_str_same c.args.name c.args.name.now c.self.inside.places.entries refl).0)
    ∙ lookup_named c.args.name.now c.self.inside.places.entries ∙ ap (λ r. register r c.args.name.now) c.self.view_is
