use Rattle.std.proofs.Common.{◌≡◌, length, drop, arith}
use Rattle.std.proofs.lemmas.List.{take_at, drop-drop, take-append-drop}
use Rattle.std.proofs.lemmas.Grind.{common_steps}
use Rattle.outside.proofs.named.give.Goals as goal

pub returns-clause-bytes : goal.returns-clause-bytes
returns-clause-bytes c =
    let n = c.min-count.result in
    let given = c.copy_from_slice.new.self in
    let size : length given ≡ n = grind (arith, common_steps, c.copy_from_slice.ensures.len) in
    rw (take_at given (drop n c.args.buf.now) n size, c.copy_from_slice.ensures.after) (grind (arith, common_steps, take-append-drop n (drop c.args.at c.args.text.now), drop-drop n c.args.at c.args.text.now))
