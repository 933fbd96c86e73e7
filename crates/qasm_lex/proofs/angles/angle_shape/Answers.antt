use Rattle.std.proofs.Common.{refl, arith}
use Rattle.std.specs.Prelude.{Err}
use Rattle.std.proofs.lemmas.List.{length-map}
use Rattle.qasm_lex.specs.declared.refusal.AngleRefusal.TheVariants.{TooLong}
use Rattle.qasm_lex.specs.Lexemes.{lexeme_of, lexemes_of}
use Rattle.qasm_lex.specs.Symbols.{symbol_in}
use Rattle.qasm_lex.specs.Angles.{names_of, too_long}
use Rattle.qasm_lex.proofs.angles.angle_shape.Goals as goal

pub returns-then-list-gt-LONGEST : goal.returns-then-list-gt-LONGEST
returns-then-list-gt-LONGEST c =
    let e = length-map c.args.list.now (lexeme_of c.args.text.now) in
    let f = length-map (lexemes_of c.args.text.now c.args.list.now) (symbol_in (names_of c.args.text.now c.args.bound.now)) in
    let h = c.if-list-gt-LONGEST.true in
    record { is = (Err TooLong, too_long (omega arith) refl, refl) }
