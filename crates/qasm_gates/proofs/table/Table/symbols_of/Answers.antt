use Rattle.std.proofs.Common.{◌≤◌, ◌∙◌, ap, drop, length, subst, sym, List}
use Rattle.qasm_lex.specs.declared.symbol.Symbol.{Symbol}
use Rattle.qasm_gates.specs.Private.Codes.{unpacked}
use Rattle.qasm_gates.specs.Private.Tables.{store_of}
use Rattle.qasm_gates.proofs.Grown.{stored_short}
use Rattle.qasm_gates.proofs.table.Table.symbols_of.Goals as goal

pub symbols_in-requires : goal.symbols_in-requires
symbols_in-requires c =
    subst (λ (s : List Symbol). length s ≤ 64)
    (sym (ap (λ codes. unpacked codes c.numbers_from.result.now) c.codes_from.ensures ∙ ap (unpacked (drop c.args.angle.code c.args.self.now.codes.items)) c.numbers_from.ensures))
    (stored_short (store_of c.args.self.now) c.args.angle c.requires)

pub returns : goal.returns
returns c =
    c.symbols_in.ensures ∙ ap (λ codes. unpacked codes c.numbers_from.result.now) c.codes_from.ensures ∙ ap (unpacked (drop c.args.angle.code c.args.self.now.codes.items)) c.numbers_from.ensures
