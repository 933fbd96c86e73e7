use Rattle.std.proofs.Common.{◌≡◌, true, false, None, Some, get_or, length, ap, sym, ◌∙◌, arith}
use Rattle.std.proofs.lemmas.Bool.{cond-true, cond-false}
use Rattle.bit_lists.proofs.Partials.{length-kept, get_or-partial_of}
use Rattle.bit_lists.proofs.partial.Partial.get.Goals as goal

pub get-requires : goal.get-requires
get-requires c =
    let len = length-kept c.self.inside.fixed c.self.inside.values c.self.invariant in
    omega (arith, len.1, ap length c.self.view_is)

pub get-requires-then-get : goal.get-requires-then-get
get-requires-then-get c =
    let len = length-kept c.self.inside.fixed c.self.inside.values c.self.invariant in
    omega (arith, len.0, len.1, ap length c.self.view_is)

pub returns-then-get : goal.returns-then-get
returns-then-get c =
    let a = c.self.inside in
    let len = length-kept a.fixed a.values c.self.invariant in
    let at = get_or-partial_of a.fixed a.values c.args.i c.self.invariant (omega (arith, len.1, ap length c.self.view_is)) in
    let set_here : get_or a.fixed c.args.i false ≡ true = sym c.get.ensures ∙ c.if-get.true in
    ap (λ b. Some b) c.get-then-get.ensures ∙ sym (at ∙ cond-true (get_or a.fixed c.args.i false) (Some (get_or a.values c.args.i false)) None set_here)
    ∙ ap (λ p. get_or p c.args.i None) c.self.view_is

pub returns-else-get : goal.returns-else-get
returns-else-get c =
    let a = c.self.inside in
    let len = length-kept a.fixed a.values c.self.invariant in
    let at = get_or-partial_of a.fixed a.values c.args.i c.self.invariant (omega (arith, len.1, ap length c.self.view_is)) in
    let free_here : get_or a.fixed c.args.i false ≡ false = sym c.get.ensures ∙ c.if-get.false in
    sym (at ∙ cond-false (get_or a.fixed c.args.i false) (Some (get_or a.values c.args.i false)) None free_here)
    ∙ ap (λ p. get_or p c.args.i None) c.self.view_is
