use Rattle.std.proofs.Common.{◌≡◌, length, take, get_or, set, sym, ap, ◌∙◌}
use Rattle.bit_lists.specs.Lists.{place_of, with_bits}
use Rattle.circuit_model.proofs.SumLemmas.{length-with_bits, with_bits_more}
use Rattle.quad_lists.proofs.places.place_with.Goals as goal

pub loop-i-preserved : goal.loop-i-preserved
loop-i-preserved c = record {
  in_state = c.with_bit-here.ensures.in_range;
  value = λ x y len at len' at'.
      let i = c.loop-i.i in
      let on = c.args.on.now in
      let z = with_bits x (take i on) y in
      let long : length z ≡ c.args.qubits = length-with_bits x (take i on) y ∙ len in
      let bit = c.bit_of.ensures y len' at' in
      ap place_of (with_bits_more x on y i c.loop-i-test.true len' ∙ ap (set z (get_or on i 0)) (sym bit))
      ∙ c.with_bit-here.ensures.value z long (c.loop-i.invariant.value x y len at len' at');
}
