use Rattle.std.proofs.Common.{rules, FitsSigned, refl, ap, codes, decimal}
use Rattle.std.specs.Fmt.{signed_decimal}
use Rattle.std.specs.Int.{w128}
use Rattle.std.proofs.lemmas.Int.{to_z-of_z}
use Rattle.amp_printer.specs.Texts.{entry_text}
use Rattle.amp_printer.proofs.PieceLemmas.{then, wrote}
use Rattle.amp_printer.proofs.line.Line.add_entry.Goals as goal

pub returns-clause-text : goal.returns-clause-text
unfolding entry_text
returns-clause-text c =
    let q = c.args.q in
    let fa : FitsSigned w128 q.a = search rules in
    let fb : FitsSigned w128 q.b = search rules in
    let fc : FitsSigned w128 q.c = search rules in
    let fd : FitsSigned w128 q.d = search rules in
    let e1 = wrote _ _ (codes "(") _ c.add.ensures refl in
    let e2 = wrote _ _ (signed_decimal q.a) _ c.add_integer.ensures.text (ap signed_decimal (to_z-of_z w128 q.a fa)) in
    let e3 = wrote _ _ (codes ",") _ c.add-2.ensures refl in
    let e4 = wrote _ _ (signed_decimal q.b) _ c.add_integer-2.ensures.text (ap signed_decimal (to_z-of_z w128 q.b fb)) in
    let e5 = wrote _ _ (codes ",") _ c.add-3.ensures refl in
    let e6 = wrote _ _ (signed_decimal q.c) _ c.add_integer-3.ensures.text (ap signed_decimal (to_z-of_z w128 q.c fc)) in
    let e7 = wrote _ _ (codes ",") _ c.add-4.ensures refl in
    let e8 = wrote _ _ (signed_decimal q.d) _ c.add_integer-4.ensures.text (ap signed_decimal (to_z-of_z w128 q.d fd)) in
    let e9 = wrote _ _ (codes ")/sqrt2^") _ c.add-5.ensures refl in
    let e10 = wrote _ _ (decimal c.args.k) _ c.add_count.ensures.text (ap decimal c.from.ensures) in
    (then (then (then (then (then (then (then (then (then e1 e2) e3) e4) e5) e6) e7) e8) e9) e10).is
