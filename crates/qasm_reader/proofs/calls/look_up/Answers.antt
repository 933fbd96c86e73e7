use Rattle.std.proofs.Common.{◌≡◌, ◌∙◌, ◌+◌, sym, ap, arith, min, length}
use Rattle.qasm_reader.specs.Private.Scope.{Found, seen_found, many}
use Rattle.qasm_reader.proofs.Looking.{nothing_found, look, look_unknown, look_beyond, look_count, all_targets}
use Rattle.qasm_reader.proofs.calls.look_up.Goals as goal

-- all arguments are noted
noted : (c : goal.In_default) → seen_found c.loop-argument.found ≡ look c.args.registers.now nothing_found c.args.arguments
noted c = sym (c.loop-argument.invariant.looked ∙ ap (look c.args.registers.now (seen_found c.loop-argument.found)) c.in_default.ensures.0)

pub returns-clause-unknown : goal.returns-clause-unknown
returns-clause-unknown c = ap (λ (f : Found). f.unknown) (noted c) ∙ look_unknown c.args.registers.now nothing_found c.args.arguments

pub returns-clause-beyond : goal.returns-clause-beyond
returns-clause-beyond c u =
    ap (λ (f : Found). f.beyond) (noted c) ∙ look_beyond c.args.registers.now nothing_found c.args.arguments (sym (returns-clause-unknown c) ∙ u)

pub returns-clause-count : goal.returns-clause-count
returns-clause-count c =
    let none : 0 + length c.args.arguments ≡ length c.args.arguments = omega arith in
    ap (λ (f : Found). f.count) (noted c) ∙ look_count c.args.registers.now nothing_found c.args.arguments (omega arith) ∙ ap (λ n. min n many) none

pub returns-clause-means : goal.returns-clause-means
returns-clause-means c u b =
    let r = all_targets c.args.registers.now c.args.arguments (sym (returns-clause-unknown c) ∙ u) (sym (returns-clause-beyond c u) ∙ b) in
    (r.0, r.1, ap (λ (f : Found). f.targets) (noted c) ∙ r.2, ap (λ (f : Found). f.differ) (noted c) ∙ r.3)
