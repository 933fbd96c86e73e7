use Rattle.std.proofs.Common.{ℕ, ap, ◌∙◌, arith}
use Rattle.ring_omega.specs.declared.quad.Quad.{Quad}
use Rattle.amp_printer.specs.Texts.{state_line}
use Rattle.amp_printer.proofs.LineLemmas.{entry_written}
use Rattle.amp_printer.proofs.listing.write_entry.Goals as goal

pub returns : goal.returns
returns c = λ q k e.
    let x = c.args.after.now.state in
    let r = c.lowest-k.result in
    entry_written x q r.0 k r.1 _ c.args.line.now c.truncate.new.self c.add_entry.new.self c.add.new.self (omega (arith, c.len.ensures.value, c.from.ensures)) e c.truncate.ensures c.add_entry.ensures.text c.add.ensures
    ∙ ap (λ (s : Quad × ℕ). state_line x s.0 s.1) c.lowest-k.ensures.computed
