use Rattle.std.proofs.Common.{◌≡◌, ◌∙◌, refl, rules, ℕ, nat_eq, List, length, None}
use Rattle.std.specs.Borrow.{Bor}
use Rattle.std.specs.Map.{lookup}
use lib.Pointwise.{pointwise}
use Rattle.std.proofs.lemmas.Map.Text.{hash_map_str_same}
use Rattle.indexmap.proofs.CallerLemmas.{insert_entry-new}
use Rattle.qasm_gates.specs.Private.Tables.{shown}
use Rattle.qasm_gates.proofs.Naming.{on_ok, no_number, name_added}
use Rattle.qasm_gates.proofs.gates.Gates.define.Goals as goal

pub returns : goal.returns
returns c =
    let g = c.args.self.now in
    let none : lookup (λ (k : Bor (List ℕ)). pointwise nat_eq c.args.name.now k.now) g.names.entries ≡ None =
    (hash_map_str_same c.args.name c.args.name.now g.names.entries refl).0 ∙ no_number (shown g.table).gates c.args.name.now g.names.entries c.requires.new in
    let entries = c.in_ok-insert.ensures.entries ∙ insert_entry-new (λ (a b : Bor (List ℕ)). pointwise nat_eq a.now b.now) g.names c.args.name c.in_ok-number.number none in
    let number : c.in_ok-number.number ≡ length g.table.rows.items = search rules in
    on_ok c.define.result (name_added g c.requires.gates c.insert.new.self c.define.new.self c.args.name c.in_ok-number.number _ entries number) c.define.ensures
