use Rattle.std.proofs.Common.{arith, length, ap}
use Rattle.node_store.proofs.store.Store.reached.Goals as goal

pub mark_all-requires-clause-places : goal.mark_all-requires-clause-places
mark_all-requires-clause-places c = λ q at. omega (arith, c.past-past.ensures q at, c.in_ok-marks.ensures.len, ap length c.as_mut_slice.ensures.value, c.as_mut_slice.ensures.len)
