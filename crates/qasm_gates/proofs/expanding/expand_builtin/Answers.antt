use Rattle.std.proofs.Common.{◌≡◌, ◌∙◌, ◌++◌, sym, ap, map, replicate, Some, rules}
use Rattle.std.specs.Prelude.{Ok}
use Rattle.qasm_lex.specs.Angles.{given_by}
use Rattle.qasm_gates.specs.Gates.{one, placed}
use Rattle.qasm_gates.specs.Private.Seen.{seen_builtin}
use Rattle.qasm_gates.specs.Private.Counts.{body_for, multiples}
use Rattle.qasm_gates.proofs.Builtins.{named_fit}
use Rattle.qasm_gates.proofs.Placed.{builtin_placed}
use Rattle.qasm_gates.proofs.Expanded.{parts_placed}
use Rattle.qasm_gates.proofs.Naming.{on_ok}
use Rattle.qasm_gates.proofs.expanding.expand_builtin.Goals as goal

pub add_gates-requires : goal.add_gates-requires
add_gates-requires c =
    let b = seen_builtin c.args.built in
    let r = multiples (given_by c.args.bound.now) in
    let e : Ok (Some (c.in-Ok-Some.kind, c.in-Ok-Some.times)) ≡ body_for b.base r = first_of (search rules, cc) in
    parts_placed b r (c.in-Ok-Some.kind, c.in-Ok-Some.times) c.args.on.now c.split_at.result.0.now c.split_at.result.1.now (named_fit c.requires.named.0 b c.requires.named.1) e c.requires.qubits (c.split_at.ensures.by_index).0 c.split_at.ensures.front_len

pub returns-in-Ok-Some : goal.returns-in-Ok-Some
returns-in-Ok-Some c =
    let b = seen_builtin c.args.built in
    let r = multiples (given_by c.args.bound.now) in
    let old = c.args.gates.now.items in
    let kind = c.in-Ok-Some.kind in
    let times = c.in-Ok-Some.times in
    let e : Ok (Some (kind, times)) ≡ body_for b.base r = first_of (search rules, cc) in
    let fit = named_fit c.requires.named.0 b c.requires.named.1 in
    on_ok c.add_gates.result
    (λ q. q ∙ ap (λ n. old ++ map (placed (c.split_at.result.0.now ++ c.split_at.result.1.now)) (replicate times (one n kind))) c.split_at.ensures.front_len
    ∙ ap (λ on. old ++ map (placed on) (replicate times (one b.controls kind))) (sym (c.split_at.ensures.by_index).0)
    ∙ ap (λ g. old ++ g) (sym (builtin_placed b r (kind, times) c.args.on.now fit c.requires.qubits.counted e)))
    c.add_gates.ensures
