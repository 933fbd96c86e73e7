use Rattle.std.proofs.Common.{◌≡◌, length, ap, sym, ◌∙◌}
use Rattle.std.proofs.lemmas.List.FromFn.{length-range_with_len}
use Rattle.vector_calls.proofs.states.begin.Goals as goal

pub start-requires-clause-len : goal.start-requires-clause-len
start-requires-clause-len c = sym (ap length c.in_ok-d.ensures.order ∙ length-range_with_len 0 c.len.result ∙ c.len.ensures.value)
