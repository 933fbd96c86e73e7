use Rattle.std.proofs.Common.{◌≡◌, ◌+◌, ◌++◌, [], ◌∷◌, take, get_or, arith, ◌∙◌, refl}
use Rattle.std.proofs.lemmas.List.{take_more, take_all}
use Rattle.level_swap.specs.Rewriting.{AreDone}
use Rattle.level_swap.proofs.Levels.{underway, done_none, done_on, done_cross, level_done, partly_same, used_none}
use Rattle.level_swap.proofs.level.rewrite_nodes.Goals as goal
use Rattle.level_swap.proofs.level.rewrite_nodes.Goals.{in-Some, in-None}

pub cross-requires-clause-underway : goal.cross-requires-clause-underway
cross-requires-clause-underway c = underway c.args.slots.now.diagram.slots c.loop-number.slots.diagram.slots c.args.upper c.args.lower c.requires.pair c.loop-number.invariant.partly

pub loop-number-init : goal.loop-number-init
loop-number-init c =
    let s = c.args.slots.now.diagram.slots in
    record {
      order = refl;
      limit = refl;
      made = refl;
      partly = λ k post top. partly_same s k c.args.upper c.args.lower post;
      done = done_none s s c.args.upper c.args.lower;
      used = used_none s c.args.upper;
      held = omega arith;
      spare_upper = omega (arith, c.requires.spare_upper);
      spare_lower = omega (arith, c.requires.spare_lower);
      slotted = c.held-held.ensures.slotted;
    }

pub loop-number-preserved : goal.loop-number-preserved
loop-number-preserved c =
    let i = c.loop-number.invariant in
    let s = c.args.slots.now.diagram.slots in
    let t = c.loop-number.slots.diagram.slots in
    let u = c.args.upper in
    let v = c.args.lower in
    let ns = c.args.numbers.now in
    let k = c.loop-number.number-index in
    let n = get_or ns k 0 in
    let more : take (k + 1) ns ≡ take k ns ++ n ∷ [] = take_more ns k 0 c.loop-number-test.true in
    elim c.match-crossing.branch [
      | in-Some w ↦
          rw w.slots-is (record {
            order = w.cross.ensures.order ∙ i.order;
            limit = w.cross.ensures.limit ∙ i.limit;
            made = w.cross.ensures.made ∙ i.made;
            partly = λ b post top. w.cross.ensures.underway s b post top (i.partly b post top);
            done = (let d : AreDone s w.cross.new.slots.diagram.slots u v (take k ns ++ n ∷ []) = done_cross s t w.cross.new.slots.diagram.slots u v (take k ns) n c.requires.pair i.partly w.cross.ensures.moved w.cross.ensures.stays i.done in rw more d);
            used = w.cross.ensures.used s c.requires.pair.bound c.requires.pair.post c.requires.pair.top (i.partly c.requires.pair.bound c.requires.pair.post c.requires.pair.top) i.used;
            held = omega (arith, i.held, w.cross.ensures.held);
            spare_upper = omega (arith, i.spare_upper, w.cross.ensures.spares u);
            spare_lower = omega (arith, i.spare_lower, w.cross.ensures.spares v);
            slotted = w.cross.ensures.slotted;
          })
      | in-None w ↦
          rw w.slots-is (record {
            order = i.order;
            limit = i.limit;
            made = i.made;
            partly = i.partly;
            done = (let d : AreDone s t u v (take k ns ++ n ∷ []) = done_on s t u v (take k ns) n c.requires.pair i.partly w.in-None.ensures.none i.done in rw more d);
            used = i.used;
            held = omega (arith, i.held);
            spare_upper = omega (arith, i.spare_upper);
            spare_lower = omega (arith, i.spare_lower);
            slotted = i.slotted;
          })
    ]

pub returns-clause-rewritten : goal.returns-clause-rewritten
returns-clause-rewritten c =
    let i = c.loop-number.invariant in
    let d = c.args.slots.now.diagram in
    let ns = c.args.numbers.now in
    let all : take c.loop-number.number-index ns ≡ ns = take_all c.loop-number.number-index ns c.loop-number-test.false in
    let done : AreDone d.slots c.loop-number.slots.diagram.slots c.args.upper c.args.lower ns = rw all at i.done in
    level_done d c.loop-number.slots.diagram.slots c.args.upper c.args.lower ns i.partly c.requires.crossing done i.used
