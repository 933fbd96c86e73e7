use Rattle.std.proofs.Common.{◌≡◌, ◌+◌, [], ◌∷◌, ◌++◌, length, refl, rules}
use Rattle.qasm_gates.specs.declared.table.Row.{Row}
use Rattle.qasm_gates.proofs.Adding.{row_added}
use Rattle.qasm_gates.proofs.table.Table.define.Goals as goal

pub returns : goal.returns
returns c =
    let t = c.args.self.now in
    let r : Row = record { arity = c.args.arity; params = c.args.params; depth = t.open.depth + 1; items = t.open.items; from = t.open.line; to = c.in_ok-to.to } in
    let e : c.push.new.self.items ≡ t.rows.items ++ r ∷ [] = search rules in
    let to : c.in_ok-to.to ≡ length t.lines.items = search rules in
    let on : c.in_ok-on.on ≡ length t.on.items = search rules in
    let angles : c.in_ok-angles.angles ≡ length t.angles.items = search rules in
    row_added t c.requires.table c.push.new.self r c.in_ok-to.to c.in_ok-on.on c.in_ok-angles.angles e refl to refl refl to on angles c.requires.below c.requires.shallow
