use Rattle.std.proofs.Common.{◌≡◌, ◌≢◌, ◌⊎◌, ◌<◌, ◌≤◌, ℕ, ◌-◌, inl, inr, length, sym, ◌∙◌, ap, arith}
use Rattle.std.proofs.Math.Path.{ap₂}
use Rattle.gate_set.specs.declared.entry.Entry.{Entry}
use Rattle.gate_set.specs.Matrix.{entry_of, beside, block_start, controlled_entry}
use Rattle.gate_set.proofs.ControlledLemmas.{Besides, in_block, out_of_block, besides_same, besides_other}
use Rattle.gate_set.proofs.gate.Gate.entry.Goals as goal
use Rattle.gate_set.proofs.gate.Gate.entry.Goals.{else-row-first-via-then-row-first+else-col-first, else-row-first-via-else-row-first}

pub returns-then-col-first-clause-value : goal.returns-then-col-first-clause-value
returns-then-col-first-clause-value c =
    let g = c.args.self.now in
    let e = length g.extra in
    let f = c.block_start-first.result in
    let at : f ≡ block_start e g.kind = c.block_start-first.ensures.value in
    c.block_entry.ensures.value
    ∙ ap (λ n. entry_of g.kind (c.args.row - n) (c.args.col - n)) at
    ∙ sym (in_block e g.kind c.args.row c.args.col (rw (sym at) c.if-row-first.true) (rw (sym at) c.if-col-first.true))

pub returns-then-row-col-clause-value : goal.returns-then-row-col-clause-value
returns-then-row-col-clause-value c =
    let g = c.args.self.now in
    let e = length g.extra in
    let f = c.block_start-first.result in
    let at : f ≡ block_start e g.kind = c.block_start-first.ensures.value in
    let early : (c.args.row < block_start e g.kind) ⊎ (c.args.col < block_start e g.kind) =
    elim c.else-row-first.branch [
      | else-row-first-via-then-row-first+else-col-first w ↦ inr (rw (sym at) w.if-col-first.false)
      | else-row-first-via-else-row-first w ↦ inl (rw (sym at) w.if-row-first.false)
    ] in
    c.beside.ensures.value
    ∙ sym (out_of_block e g.kind c.args.row c.args.col early ∙ ap (λ n. Besides g.kind n c.args.col) c.if-row-col.true ∙ besides_same g.kind c.args.col)

pub returns-clause-value : goal.returns-clause-value
returns-clause-value c =
    let g = c.args.self.now in
    let e = length g.extra in
    let f = c.block_start-first.result in
    let at : f ≡ block_start e g.kind = c.block_start-first.ensures.value in
    let early : (c.args.row < block_start e g.kind) ⊎ (c.args.col < block_start e g.kind) =
    elim c.else-row-first.branch [
      | else-row-first-via-then-row-first+else-col-first w ↦ inr (rw (sym at) w.if-col-first.false)
      | else-row-first-via-else-row-first w ↦ inl (rw (sym at) w.if-row-first.false)
    ] in
    sym (out_of_block e g.kind c.args.row c.args.col early ∙ besides_other g.kind c.args.row c.args.col c.if-row-col.false)
