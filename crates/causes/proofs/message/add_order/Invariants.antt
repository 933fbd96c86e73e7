use Rattle.std.proofs.Common.{◌≡◌, ◌≤◌, ◌+◌, ◌*◌, ◌++◌, take, length}
use Rattle.causes.specs.Status.{order_text}
use Rattle.causes.proofs.message.add_order.Given as goal

-- the variables before this place stand behind the line
abbrev pub invariant-places : goal.invariant-places
invariant-places l = record {
  text : l.line ≡ l.fn.line ++ order_text (take l.place l.order);
  short : length l.line ≤ length l.fn.line + 4 * l.place;
}
