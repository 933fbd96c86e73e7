use Rattle.std.proofs.Common.{◌≡◌, ◌∙◌, ◌∷◌, sym, ap, false, length, subst, All, arith, rules}
use Rattle.std.specs.List.{position_from}
use Rattle.std.specs.Str.{bytes_eq}
use Rattle.std.proofs.lemmas.List.Elements.{All-tail}
use Rattle.qasm_lex.specs.Angles.{IsBound, names_of}
use Rattle.qasm_lex.proofs.ParamNumbers.{place_step}
use Rattle.qasm_lex.proofs.symbol.param_of.Goals as goal

pub loop-first-preserved : goal.loop-first-preserved
loop-first-preserved c =
    let i = c.loop-first.invariant in
    let r : c.loop-first.rest.now ≡ c.in-Some.first.now ∷ c.in-Some.after.now = search rules in
    let n = ap length r in
    let w = i.within in
    let f : bytes_eq c.args.name.now _ ≡ false = sym c.is_named.ensures ∙ c.if-is_named.false in
    record {
      same = i.same ∙ ap (λ bs. position_from (bytes_eq c.args.name.now) c.loop-first.number (names_of c.args.text.now bs)) r
          ∙ place_step c.args.text.now c.args.name.now c.loop-first.number c.in-Some.first.now c.in-Some.after.now f;
      places = All-tail (IsBound c.args.text.now) c.in-Some.first.now c.in-Some.after.now (subst (All (IsBound c.args.text.now)) r i.places);
      within = omega arith;
    }
