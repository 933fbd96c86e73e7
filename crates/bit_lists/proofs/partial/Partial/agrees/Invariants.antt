use Rattle.std.proofs.Common.{◌≡◌, ℕ, ◌<◌, true, false, None, get_or}
use Rattle.bit_lists.specs.Partials.{fits}
use Rattle.bit_lists.proofs.partial.Partial.agrees.Given as goal

abbrev pub invariant-loop-i : goal.invariant-loop-i
invariant-loop-i l = (k : ℕ) → k < l.i → fits (get_or l.self k None) (get_or l.x k false) ≡ true
