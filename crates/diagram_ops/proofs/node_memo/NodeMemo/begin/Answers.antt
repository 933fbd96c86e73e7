use Rattle.std.proofs.Common.{arith, refl}
use Rattle.diagram_ops.proofs.Marks.{past_none}
use Rattle.diagram_ops.proofs.node_memo.NodeMemo.begin.Goals as goal

pub invariant_of-self : goal.invariant_of-self
invariant_of-self c = record { some = omega arith; past = rw c.clear.ensures.items (λ k d lt. absurd (omega (arith, lt))) }

pub returns-then-self : goal.returns-then-self
returns-then-self c n = rw c.clear.ensures.items refl

pub invariant_of-self-2 : goal.invariant_of-self-2
invariant_of-self-2 c = record { some = omega arith; past = λ k d lt. omega (arith, c.self.invariant.past k d lt) }

pub returns : goal.returns
returns c n = past_none c.self.inside.stamp c.self.inside.marks.items c.self.invariant.past n
