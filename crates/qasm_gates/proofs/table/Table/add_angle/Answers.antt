use Rattle.std.proofs.Common.{◌≡◌, [], ◌∷◌, ◌++◌, length, map, rules}
use Rattle.std.specs.List.{flat_map}
use Rattle.qasm_gates.specs.declared.codes.Code.TheVariants.{End}
use Rattle.qasm_gates.specs.Private.Codes.{code_in, numbers_in}
use Rattle.qasm_gates.proofs.Adding.{angle_added}
use Rattle.qasm_gates.proofs.table.Table.add_angle.Goals as goal

pub returns : goal.returns
returns c tree x =
    let t = c.args.self.now in
    let code : c.in_ok-code.code ≡ length t.codes.items = search rules in
    let number : c.in_ok-number.number ≡ length t.numbers.items = search rules in
    let codes : c.push.new.self.items ≡ (t.codes.items ++ map code_in c.args.symbols.now) ++ End ∷ [] = search rules in
    let numbers : c.add_all.new.numbers.items ≡ t.numbers.items ++ flat_map numbers_in c.args.symbols.now = search rules in
    let angles : c.push-2.new.self.items ≡ t.angles.items ++ record { code = c.in_ok-code.code; number = c.in_ok-number.number } ∷ [] = search rules in
    angle_added t c.requires.table c.push-2.new.self c.push.new.self c.add_all.new.numbers c.args.symbols.now c.in_ok-code.code c.in_ok-number.number tree code number codes numbers angles c.requires.short x
