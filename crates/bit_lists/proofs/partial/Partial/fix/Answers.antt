use Rattle.std.proofs.Common.{◌≡◌, ◌<◌, Bool, false, Option, None, Some, length, set, refl, ap, ◌∙◌, arith}
use Rattle.bit_lists.proofs.Partials.{value_of, length-kept, kept-fix}
use Rattle.std.specs.Option.{unwrap_or}
use Rattle.bit_lists.proofs.partial.Partial.fix.Goals as goal

as_value : (v : Option Bool) → unwrap_or v false ≡ value_of v
as_value None = refl
as_value (Some b) = refl

pub set-requires : goal.set-requires
set-requires c =
    let len = length-kept c.self.inside.fixed c.self.inside.values c.self.invariant in
    omega (arith, len.1, ap length c.self.view_is)

pub set-requires-2 : goal.set-requires-2
set-requires-2 c =
    let len = length-kept c.self.inside.fixed c.self.inside.values c.self.invariant in
    omega (arith, len.0, len.1, ap length c.self.view_is)

pub invariant_of-self : goal.invariant_of-self
invariant_of-self c =
    let a = c.self.inside in
    let len = length-kept a.fixed a.values c.self.invariant in
    let lt : c.args.i < length a.fixed = omega (arith, len.1, ap length c.self.view_is) in
    rw (c.set.ensures, c.set-2.ensures, c.is_some.ensures, c.unwrap_or.ensures, as_value c.args.b) (kept-fix a.fixed a.values c.args.i c.args.b c.self.invariant lt).0

pub returns : goal.returns
returns c =
    let a = c.self.inside in
    let len = length-kept a.fixed a.values c.self.invariant in
    let lt : c.args.i < length a.fixed = omega (arith, len.1, ap length c.self.view_is) in
    rw (c.set.ensures, c.set-2.ensures, c.is_some.ensures, c.unwrap_or.ensures, as_value c.args.b) ((kept-fix a.fixed a.values c.args.i c.args.b c.self.invariant lt).1 ∙ ap (λ p. set p c.args.i c.args.b) c.self.view_is)
