use Rattle.std.proofs.Common.{ℕ, ap, ◌∙◌, length, arith}
use Rattle.ring_omega.specs.declared.quad.Quad.{Quad}
use Rattle.ring_omega.specs.Lowest.{lowest_form}
use Rattle.amp_printer.specs.Texts.{lowest_line}
use Rattle.amp_printer.proofs.LineLemmas.{state_longer, bits_changed}
use Rattle.amp_printer.proofs.listing.write_over.Goals as goal

pub change_bits-requires-clause-room : goal.change_bits-requires-clause-room
change_bits-requires-clause-room c =
    let s = c.args.before.now in
    let p = lowest_form s.entry s.exponent in
    omega (arith, state_longer s.state p.0 p.1, ap length c.requires.was, c.len.ensures.value, c.len-2.ensures.value, c.if-len.false)

pub returns-then-has_same_entry : goal.returns-then-has_same_entry
returns-then-has_same_entry c =
    let s = c.args.before.now in
    let t = c.args.after.now in
    let p = lowest_form s.entry s.exponent in
    bits_changed s.state t.state p.0 p.1 c.args.line.now c.change_bits.new.self c.change_bits.ensures c.requires.was
    ∙ ap (λ (q : Quad). lowest_line t.state q s.exponent) (c.has_same_entry.ensures.entry c.if-has_same_entry.true)
    ∙ ap (λ (k : ℕ). lowest_line t.state t.entry k) (c.has_same_entry.ensures.exponent c.if-has_same_entry.true)

pub returns : goal.returns
returns c =
    let s = c.args.before.now in
    let t = c.args.after.now in
    let p = lowest_form s.entry s.exponent in
    c.write_entry.ensures p.0 p.1 (bits_changed s.state t.state p.0 p.1 c.args.line.now c.change_bits.new.self c.change_bits.ensures c.requires.was)
