use Rattle.std.proofs.Common.{◌≡◌, ◌∙◌, sym, ap, rules, refl, ℕ, nat_eq, not, is_some, List, [], ◌∷◌, ◌++◌, map, None, option_map}
use Rattle.std.specs.Borrow.{Bor}
use Rattle.std.specs.Map.{lookup}
use Rattle.std.proofs.lemmas.List.{map-append}
use lib.Pointwise.{pointwise}
use Rattle.std.proofs.lemmas.Map.Text.{hash_map_str_same}
use Rattle.indexmap.proofs.CallerLemmas.{insert_entry-new}
use Rattle.qasm_reader.specs.Acts.{register}
use Rattle.qasm_reader.specs.Private.Seen.{seen_register, entry_of}
use Rattle.qasm_reader.proofs.Names.{lookup_named, row_there, no_row}
use Rattle.qasm_reader.proofs.registers.Registers.declare.Goals as goal

-- the row of the name before
found : (c : goal.After-is_none) → option_map seen_register (lookup (λ (k : Bor (List ℕ)). pointwise nat_eq c.args.name.now k.now) c.self.inside.places.entries) ≡ register c.args.self.now c.args.name.now
found c =
    ap (option_map seen_register) (hash_map_str_same c.args.name c.args.name.now c.self.inside.places.entries refl).0
    ∙ lookup_named c.args.name.now c.self.inside.places.entries ∙ ap (λ r. register r c.args.name.now) c.self.view_is

pub returns-clause-new : goal.returns-clause-new
returns-clause-new c =
    let e : c.is_none.result ≡ not (is_some c.in_ok-before.before) = search rules in
    e ∙ ap (λ x. not (is_some x)) c.in_ok-before.ensures.old ∙ ap not (sym (row_there _)) ∙ ap (λ x. not (is_some x)) (found c)

pub returns-clause-declared : goal.returns-clause-declared
returns-clause-declared c h =
    let e : c.is_none.result ≡ not (is_some c.in_ok-before.before) = search rules in
    let none : lookup (λ (k : Bor (List ℕ)). pointwise nat_eq c.args.name.now k.now) c.self.inside.places.entries ≡ None =
    no_row _ (sym (e ∙ ap (λ x. not (is_some x)) c.in_ok-before.ensures.old) ∙ h) in
    ap (map entry_of) (c.in_ok-before.ensures.entries ∙ insert_entry-new (λ (a b : Bor (List ℕ)). pointwise nat_eq a.now b.now) c.self.inside.places c.args.name c.args.place none)
    ∙ map-append entry_of c.self.inside.places.entries ((c.args.name, c.args.place) ∷ []) ∙ ap (λ r. r ++ (c.args.name.now, seen_register c.args.place) ∷ []) c.self.view_is
