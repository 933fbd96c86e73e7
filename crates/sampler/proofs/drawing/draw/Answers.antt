use Rattle.std.proofs.Common.{◌≡◌, ◌<◌, ◌+◌, ◌++◌, ℕ, Bool, List, Some, true, false, length, take, drop, get_or, ap, sym, ◌∙◌, arith}
use Rattle.std.proofs.lemmas.List.{length-set}
use Rattle.std.proofs.Math.Seq.{take-length}
use mir.Val.{bool_byte}
use Rattle.probabilities.specs.Outcomes.{measured_count}
use Rattle.probabilities.proofs.OutcomeLemmas.{measured_more, measured_front}
use Rattle.sampler.specs.Draws.{bit_drawn, drawn, drawn_from}
use Rattle.sampler.proofs.BitsDrawn.{drawn_past, drawn_more, drawn_end}
use Rattle.sampler.proofs.drawing.draw.Goals as goal
use Rattle.sampler.proofs.drawing.draw.Goals.{then-get+in_ok-b, else-get}

-- one more of the measured qubits
one_more : (ms : List Bool) (q i : ℕ) → q < length ms → get_or ms q false ≡ true → i ≡ measured_count (take q ms) → i < measured_count ms
one_more ms q i lt flag taken = omega (arith, measured_more ms q lt, ap bool_byte flag, measured_front ms (q + 1))

pub bounds-words-from : goal.bounds-words-from
bounds-words-from g c =
    let ms = c.args.measured.now in
    let q = c.loop-q.q in
    let lt : q < length ms = omega (arith, c.loop-q-test.true, c.len-q-end.ensures.value) in
    omega (arith, one_more ms q c.loop-q.i lt (sym c.get.ensures ∙ c.if-get.true) c.loop-q.invariant.taken, c.requires.words, c.from.ensures)

pub set-requires : goal.set-requires
set-requires g c =
    let ms = c.args.measured.now in
    let q = c.loop-q.q in
    let lt : q < length ms = omega (arith, c.loop-q-test.true, c.len-q-end.ensures.value) in
    omega (arith, one_more ms q c.loop-q.i lt (sym c.get.ensures ∙ c.if-get.true) c.loop-q.invariant.taken, c.loop-q.invariant.wide)

pub loop-q-preserved : goal.loop-q-preserved
loop-q-preserved g c =
    let ms = c.args.measured.now in
    let v = g.W.Weighs.entries c.args.w.now in
    let words : ℕ → ℕ = λ i. get_or c.args.words.now i 0 in
    let q = c.loop-q.q in
    let i = c.loop-q.i in
    let y = c.loop-q.y in
    let p = c.loop-q.p in
    let so_far = c.loop-q.invariant in
    let lt : q < length ms = omega (arith, c.loop-q-test.true, c.len-q-end.ensures.value) in
    elim c.if-get.branch [
      | then-get+in_ok-b w ↦
          let flag : get_or ms q false ≡ true = sym c.get.ensures ∙ w.if-get.true in
          let b = w.in_ok-b.b in
          let inside : i < length y = omega (arith, one_more ms q i lt flag so_far.taken, so_far.wide) in
          let is : b ≡ bit_drawn v p q (words i) = w.in_ok-b.ensures ∙ ap (λ k. bit_drawn v p q (words k)) w.from.ensures in
          let ep = sym (w.p-is ∙ w.fix.ensures) in
          let ey = sym (w.y-is ∙ w.set.ensures) in
          let ei : i + 1 ≡ c.if-get.i = sym w.i-is in
          record {
            long = ap length (sym ep) ∙ length-set p q (Some b) ∙ so_far.long;
            taken = omega (arith, w.i-is, so_far.taken, measured_more ms q lt, ap bool_byte flag);
            wide = ap length (sym ey) ∙ length-set y i b ∙ so_far.wide;
            bits =
                drawn_more v words ms (drawn v words ms) y p q i b lt flag inside is so_far.bits
                ∙ (λ j. take (ei j) (ey j) ++ drawn_from v words (ep j) (q + 1) (ei j) (drop (q + 1) ms));
          }
      | else-get w ↦
          let flag : get_or ms q false ≡ false = sym c.get.ensures ∙ w.if-get.false in
          let ep = sym w.p-is in
          let ey = sym w.y-is in
          let ei = sym w.i-is in
          record {
            long = ap length w.p-is ∙ so_far.long;
            taken = omega (arith, w.i-is, so_far.taken, measured_more ms q lt, ap bool_byte flag);
            wide = ap length w.y-is ∙ so_far.wide;
            bits =
                drawn_past v words ms (drawn v words ms) y p q i lt flag so_far.bits
                ∙ (λ j. take (ei j) (ey j) ++ drawn_from v words (ep j) (q + 1) (ei j) (drop (q + 1) ms));
          }
    ]

pub returns : goal.returns
returns g c =
    let ms = c.args.measured.now in
    let v = g.W.Weighs.entries c.args.w.now in
    let words : ℕ → ℕ = λ i. get_or c.args.words.now i 0 in
    let so_far = c.loop-q.invariant in
    let end : c.loop-q.q ≡ length ms = omega (arith, c.loop-q-test.false, c.loop-q.auto.q-end, c.len-q-end.ensures.value) in
    let all : c.loop-q.i ≡ measured_count ms = so_far.taken ∙ ap (λ k. measured_count (take k ms)) end ∙ ap measured_count (take-length ms) in
    drawn_end v words ms (drawn v words ms) c.loop-q.y c.loop-q.p c.loop-q.q c.loop-q.i end (all ∙ sym so_far.wide) so_far.bits
