use Rattle.std.proofs.Common.{rules, ◌≡◌, ◌∙◌, true, false, not, is_some}
use Rattle.std.specs.List.{list_any}
use Rattle.std.specs.Str.{bytes_eq}
use Rattle.qasm_gates.specs.Private.Views.{view_of, callee_gate}
use Rattle.qasm_reader.specs.Profile.{words_left_out, words_undefined}
use Rattle.qasm_reader.proofs.Leaving.{left_undefined}
use Rattle.qasm_reader.proofs.profile.is_left_out.Goals as goal

pub returns-then-is_one_of-2 : goal.returns-then-is_one_of-2
returns-then-is_one_of-2 c =
    let a : list_any (bytes_eq c.args.first.now) words_left_out ≡ false = search rules in
    let b : list_any (bytes_eq c.args.first.now) words_undefined ≡ true = search rules in
    let n : c.is_none.result ≡ not (is_some c.find.result) = search rules in
    n ∙ left_undefined (view_of c.args.gates.now).definitions c.args.first.now (callee_gate c.args.gates.now) c.find.result a b c.find.ensures.gate
