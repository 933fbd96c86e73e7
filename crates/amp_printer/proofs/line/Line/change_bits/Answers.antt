use Rattle.std.proofs.Common.{◌≡◌, ◌-◌, ◌+◌, ◌<◌, ap, sym, ◌∙◌, length, arith}
use Rattle.std.proofs.lemmas.List.{length-set}
use Rattle.amp_printer.proofs.LineLemmas.{some_first, one_written, rest_written, halved_place, last_bit}
use Rattle.amp_printer.proofs.line.Line.change_bits.Goals as goal

pub bits-preserved : goal.bits-preserved
bits-preserved c =
    let x = c.args.before.now in
    let y = c.args.after.now in
    let i = c.bits.i in
    let k = i - 1 in
    let inv = c.bits.invariant in
    let more : i ≡ k + 1 = some_first x y c.bits.a c.bits.b i inv.a_is inv.b_is c.bits-test.true in
    let hy : k < length y = omega (arith, inv.within) in
    let hx : k < length x = omega (arith, c.requires.same) in
    record {
      within = omega arith;
      a_is = halved_place x c.bits.a i k inv.a_is more hx;
      b_is = halved_place y c.bits.b i k inv.b_is more hy;
      long = ap length c.put.ensures ∙ length-set c.bits.self i c.last_digit.result ∙ inv.long;
      text = λ rest e. c.put.ensures ∙ one_written x y rest c.bits.self i k c.last_digit.result more hx hy (c.last_digit.ensures ∙ ap (λ v. 48 + v) (last_bit y c.bits.b i k inv.b_is more hy)) (inv.text rest e);
    }

pub returns : goal.returns
returns c =
    let inv = c.bits.invariant in
    λ rest e. inv.text rest e ∙ rest_written c.args.before.now c.args.after.now rest c.bits.i c.requires.same (omega (arith, inv.within, c.requires.same)) (sym inv.a_is ∙ c.bits-test.false ∙ inv.b_is)
