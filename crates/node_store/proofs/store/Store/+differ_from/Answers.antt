use Rattle.std.proofs.Common.{◌≡◌, ◌+◌, ◌<◌, Bool, length, get_or, true, false, None, [], ◌∷◌, sym, ◌∙◌, arith}
use Rattle.std.proofs.lemmas.Result.{IfOk-weaker}
use Rattle.bit_lists.specs.Partials.{fits}
use Rattle.diagram_model.specs.Nodes.{follow}
use Rattle.diagram_model.specs.Stores.{depth}
use Rattle.diagram_model.proofs.Values.{below-order}
use Rattle.node_store.specs.Pairs.{DifferAt, CoincideAt}
use Rattle.node_store.proofs.Differing.{coincide_both, coincide_followed, fits_fixed, fits_free, differ_fixed, differ_constants, pair_put, pair_falls, fixed_live}
use Rattle.node_store.proofs.store.Store.+differ_from.Goals as goal

pub returns-in_default-clause-yes : goal.returns-in_default-clause-yes
returns-in_default-clause-yes t c = λ _.
    let flat = c.in_default.ensures.constants in
    differ_constants c.args.self.now c.args.p.now c.args.f.0 c.args.g.0 c.top_of.ensures.sound flat.0 flat.1 c.if-f-g.false

pub get-requires : goal.get-requires
get-requires t c =
    let d = c.args.self.now in
    let top = c.in-Some.ensures.top in
    let below = below-order (length d.order) d.order c.in-Some.var c.top_of.ensures.sound.diagram.order top.var in
    omega (arith, below, c.requires.len)

pub differ_from-requires : goal.differ_from-requires
differ_from-requires t c =
    let d = c.args.self.now in
    let s = c.top_of.ensures.sound in
    let v = c.in-Some.var in
    let top = c.in-Some.ensures.top in
    let b = c.in-Some-get.bit in
    let falls = pair_falls d v c.args.f.0 c.args.g.0 b s top.some in
    let less : depth d c.follow-low.result.0 + depth d c.follow-high.result.0 < depth d c.args.f.0 + depth d c.args.g.0 = rw (c.follow-low.ensures, c.follow-high.ensures) falls in
    let q = c.decreases in (
      omega (arith, less, q),
      (
        rw c.follow-low.ensures (fixed_live d v c.args.f.0 b s top.var top.from_f),
        (
          rw c.follow-high.ensures (fixed_live d v c.args.g.0 b s top.var top.from_g),
          (c.requires.len, c.requires.same),
        ),
      ),
    )

pub returns-in-Some-get-clause-yes : goal.returns-in-Some-get-clause-yes
returns-in-Some-get-clause-yes t c =
    let d = c.args.self.now in
    let p = c.args.p.now in
    let v = c.in-Some.var in
    let top = c.in-Some.ensures.top in
    let b = c.in-Some-get.bit in
    IfOk-weaker c.differ_from.result
    (λ (r : Bool). r ≡ true → DifferAt d p c.follow-low.result.0 c.follow-high.result.0)
    (λ (r : Bool). r ≡ true → DifferAt d p c.args.f.0 c.args.g.0)
    (λ r h e.
    let below : DifferAt d p (follow d.slots v b c.args.f.0) (follow d.slots v b c.args.g.0) = rw (sym c.follow-low.ensures, sym c.follow-high.ensures) (h e) in
    differ_fixed d p v c.args.f.0 c.args.g.0 b c.top_of.ensures.sound top.var top.from_f top.from_g (fits_fixed (get_or p v None) b (sym c.get.ensures ∙ c.in-Some-get.is)) below)
    c.differ_from.ensures.yes

pub returns-in-Some-get-clause-no : goal.returns-in-Some-get-clause-no
returns-in-Some-get-clause-no t c =
    let d = c.args.self.now in
    let p = c.args.p.now in
    let v = c.in-Some.var in
    let b = c.in-Some-get.bit in
    IfOk-weaker c.differ_from.result
    (λ (r : Bool). r ≡ false → CoincideAt d p c.follow-low.result.0 c.follow-high.result.0)
    (λ (r : Bool). r ≡ false → CoincideAt d p c.args.f.0 c.args.g.0)
    (λ r h e.
    let below : CoincideAt d p (follow d.slots v b c.args.f.0) (follow d.slots v b c.args.g.0) = rw (sym c.follow-low.ensures, sym c.follow-high.ensures) (h e) in
    coincide_followed d p v c.args.f.0 c.args.g.0 b c.top_of.ensures.sound c.requires.f c.requires.g (sym c.get.ensures ∙ c.in-Some-get.is) below)
    c.differ_from.ensures.no

pub differ_from-requires-in-loop-bit : goal.differ_from-requires-in-loop-bit
differ_from-requires-in-loop-bit t c =
    let d = c.args.self.now in
    let s = c.top_of.ensures.sound in
    let v = c.in-Some.var in
    let top = c.in-Some.ensures.top in
    let b = get_or (false ∷ true ∷ []) c.loop-bit.bit-index false in
    let falls = pair_falls d v c.args.f.0 c.args.g.0 b s top.some in
    let less : depth d c.follow-low-in-loop-bit.result.0 + depth d c.follow-high-in-loop-bit.result.0 < depth d c.args.f.0 + depth d c.args.g.0 = rw (c.follow-low-in-loop-bit.ensures, c.follow-high-in-loop-bit.ensures) falls in
    let q = c.decreases in (
      omega (arith, less, q),
      (
        rw c.follow-low-in-loop-bit.ensures (fixed_live d v c.args.f.0 b s top.var top.from_f),
        (
          rw c.follow-high-in-loop-bit.ensures (fixed_live d v c.args.g.0 b s top.var top.from_g),
          (c.requires.len, c.loop-bit.invariant.same),
        ),
      ),
    )

pub returns-then-branch-clause-yes : goal.returns-then-branch-clause-yes
returns-then-branch-clause-yes t c = λ _.
    let d = c.args.self.now in
    let p = c.args.p.now in
    let v = c.in-Some.var in
    let top = c.in-Some.ensures.top in
    let b = get_or (false ∷ true ∷ []) c.loop-bit.bit-index false in
    let may : fits (get_or p v None) b ≡ true = fits_free (get_or p v None) b (sym c.get.ensures ∙ c.in_default-get.is) in
    let found = c.in_ok-differ_from.ensures.yes c.if-branch.true in
    let below : DifferAt d p (follow d.slots v b c.args.f.0) (follow d.slots v b c.args.g.0) = rw (sym c.follow-low-in-loop-bit.ensures, sym c.follow-high-in-loop-bit.ensures) found in
    differ_fixed d p v c.args.f.0 c.args.g.0 b c.top_of.ensures.sound top.var top.from_f top.from_g may below

pub returns-clause-no : goal.returns-clause-no
returns-clause-no t c = λ _. coincide_both c.args.self.now c.args.p.now c.in-Some.var c.args.f.0 c.args.g.0 c.loop-bit.bit-index c.top_of.ensures.sound c.requires.f c.requires.g c.loop-bit-test.false c.loop-bit.invariant.done

pub returns-clause-same : goal.returns-clause-same
returns-clause-same t c =
    pair_put c.args.self.now c.args.p.now c.loop-bit.same.keys c.insert.new.self.keys c.args.f.0 c.args.g.0 c.loop-bit.invariant.same
    (coincide_both c.args.self.now c.args.p.now c.in-Some.var c.args.f.0 c.args.g.0 c.loop-bit.bit-index c.top_of.ensures.sound c.requires.f c.requires.g c.loop-bit-test.false c.loop-bit.invariant.done)
    c.in_ok-insert.ensures.updates.0
