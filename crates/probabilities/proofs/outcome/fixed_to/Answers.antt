use Rattle.std.proofs.Common.{◌≡◌, ◌+◌, ◌<◌, ◌++◌, List, Bool, true, false, Option, length, get_or, take, drop, sym, ◌∙◌, ap, subst, arith}
use Rattle.std.proofs.lemmas.List.{length-set}
use mir.Val.{bool_byte}
use Rattle.probabilities.specs.Outcomes.{fixed_to}
use Rattle.probabilities.proofs.OutcomeLemmas.{measured_more, measured_front, fixed_more}
use Rattle.probabilities.proofs.outcome.fixed_to.Goals as goal

pub loop-i-preserved : goal.loop-i-preserved
loop-i-preserved c =
    let ms = c.args.measured.now in
    let y = c.args.y.now in
    let i = c.loop-i.i in
    let j = c.loop-i.j in
    let p = c.loop-i.p in
    let so_far = c.loop-i.invariant in
    let flag : c.get-flag.result ≡ get_or ms i false = c.get-flag.ensures in
    let byte : c.from-j.result ≡ bool_byte c.get-flag.result = c.from-j.ensures in
    let lt : i < length ms = omega (arith, c.len-i-end.ensures.value) in
    let more = measured_more ms i lt in
    let inside : c.get-flag.result ≡ true → j < length y = λ e.
    let one : bool_byte (get_or ms i false) ≡ 1 = ap bool_byte (sym flag ∙ e) in
    omega (arith, so_far.taken, more, one, measured_front ms (i + 1), c.requires) in
    record {
      long = ap length c.fix.ensures ∙ length-set p i c.value_at.result ∙ so_far.long;
      taken = omega (arith, so_far.taken, more, byte, ap bool_byte flag);
      values =
          subst (λ (q : List (Option Bool)). fixed_to ms y ≡ take (i + 1) q ++ fixed_to (drop (i + 1) ms) (drop (j + c.from-j.result) y)) (sym c.fix.ensures)
          (fixed_more (fixed_to ms y) p ms y i j (j + c.from-j.result) c.get-flag.result c.value_at.result lt so_far.long flag inside c.value_at.ensures (ap (λ b. j + b) byte) so_far.values);
    }
