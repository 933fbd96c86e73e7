use Rattle.std.proofs.Common.{◌≡◌, ◌+◌, min, max, [], ◌∷◌, ◌++◌, length, rules}
use Rattle.qasm_gates.specs.Private.Tables.{many_items}
use Rattle.qasm_gates.proofs.Adding.{line_added}
use Rattle.qasm_gates.proofs.table.Table.add_line.Goals as goal

pub returns : goal.returns
returns c =
    let t = c.args.self.now in
    let e : c.push.new.self.items ≡ t.lines.items ++ record { callee = c.args.callee; on = t.open.on; angles = t.open.angles } ∷ [] = search rules in
    let on : c.in_ok-on.on ≡ length t.on.items = search rules in
    let angles : c.in_ok-angles.angles ≡ length t.angles.items = search rules in
    let depth : c.max.result ≡ max t.open.depth c.counts-depth.result.0 = search rules in
    let items : c.min.result ≡ min ((t.open.items + 1) + c.counts-depth.result.1) many_items = search rules in
    line_added t c.requires.table c.push.new.self c.args.callee c.in_ok-on.on c.in_ok-angles.angles c.max.result c.min.result c.counts-depth.result.0 c.counts-depth.result.1 e on angles c.requires.known
    c.requires.arguments c.requires.angles c.requires.different c.counts-depth.ensures depth items
