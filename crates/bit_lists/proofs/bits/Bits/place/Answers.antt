use Rattle.std.proofs.Common.{◌≡◌, ◌<◌, ◌^◌, ℕ, ap, sym, ◌∙◌, subst, length, []}
use Rattle.bit_lists.specs.Lists.{place_of}
use Rattle.bit_lists.proofs.Places.{listed}
use Rattle.bit_lists.proofs.bits.Bits.place.Goals as goal

pub returns-clause-value : goal.returns-clause-value
returns-clause-value c = sym (listed c.self.inside.count c.self.inside.place [] c.self.invariant.1).1 ∙ ap place_of c.self.view_is

pub returns-clause-below : goal.returns-clause-below
returns-clause-below c =
    let long : c.self.inside.count ≡ length c.args.self.now = sym (listed c.self.inside.count c.self.inside.place [] c.self.invariant.1).0 ∙ ap length c.self.view_is in
    subst (λ (n : ℕ). c.self.inside.place < 2 ^ n) long c.self.invariant.1
