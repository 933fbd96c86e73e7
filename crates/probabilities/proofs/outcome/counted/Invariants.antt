use Rattle.std.proofs.Common.{◌≡◌, ◌||◌, length, take, map}
use Rattle.probabilities.proofs.outcome.counted.Given as goal

-- the flags so far
abbrev pub invariant-loop-i : goal.invariant-loop-i
invariant-loop-i l = record { long : length l.flags ≡ length l.measured; bits : take l.i l.flags ≡ map (λ b. b || l.all) (take l.i l.measured) }
