use Rattle.std.proofs.Common.{◌∙◌, [], refl, arith}
use Rattle.qasm_lex.specs.declared.refusal.AngleRefusal.TheVariants.{TooLong}
use Rattle.std.specs.Prelude.{Err}
use Rattle.qasm_lex.specs.Angles.{too_long}
use Rattle.qasm_lex.proofs.AngleLemmas.{shape_is}
use Rattle.qasm_lex.proofs.angles.shape_of.Goals as goal

pub returns : goal.returns
returns c =
    let h = c.if-symbols-gt-LONGEST.false in
    let s = shape_is [] c.args.symbols.now (omega arith) in
    record { is = (s.0, s.1, c.shape_read.ensures ∙ s.2) }

pub returns-then-symbols-gt-LONGEST : goal.returns-then-symbols-gt-LONGEST
returns-then-symbols-gt-LONGEST c =
    let h = c.if-symbols-gt-LONGEST.true in
    record { is = (Err TooLong, too_long (omega arith) refl, refl) }
