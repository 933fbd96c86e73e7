use Rattle.std.proofs.Common.{◌≡◌, ◌+◌, ◌++◌, [], ◌∷◌, take, get_or, true, false, arith, ◌∙◌, sym, refl}
use Rattle.std.proofs.lemmas.List.{take_more, take_all}
use Rattle.sifting.specs.Hanging.{LowersListed}
use Rattle.sifting.proofs.Lowered.{listed_none, listed_pass, listed_on, child_live}
use Rattle.sifting.proofs.ranks.lower_listed.Goals as goal
use Rattle.sifting.proofs.ranks.lower_listed.Goals.{in-Some, in-None}

pub loop-number-init : goal.loop-number-init
loop-number-init c = record { lowers = listed_none c.args.store.now c.args.ranks.now c.args.rank; long = refl }

pub lower_both-requires-clause-low : goal.lower_both-requires-clause-low
lower_both-requires-clause-low c =
    let p = c.in-Some.parts in
    let lt = c.requires p.low (child_live c.args.store.now (get_or c.args.numbers.now c.loop-number.number-index 0) p false c.held-held.ensures.sound (sym c.parts_of.ensures.parts ∙ c.in-Some.is)) in
    omega (arith, lt, c.loop-number.invariant.long)

pub lower_both-requires-clause-high : goal.lower_both-requires-clause-high
lower_both-requires-clause-high c =
    let p = c.in-Some.parts in
    let lt = c.requires p.high (child_live c.args.store.now (get_or c.args.numbers.now c.loop-number.number-index 0) p true c.held-held.ensures.sound (sym c.parts_of.ensures.parts ∙ c.in-Some.is)) in
    omega (arith, lt, c.loop-number.invariant.long)

pub loop-number-preserved : goal.loop-number-preserved
loop-number-preserved c =
    let i = c.loop-number.invariant in
    let d = c.args.store.now in
    let a = c.args.ranks.now in
    let r = c.args.rank in
    let ns = c.args.numbers.now in
    let k = c.loop-number.number-index in
    let n = get_or ns k 0 in
    let more : take (k + 1) ns ≡ take k ns ++ n ∷ [] = take_more ns k 0 c.loop-number-test.true in
    elim c.match-parts_of.branch [
      | in-Some w ↦
          rw w.ranks-is (record {
            lowers = (let h : LowersListed d (take k ns ++ n ∷ []) a w.lower_both.new.ranks r = listed_on d (take k ns) a c.loop-number.ranks w.lower_both.new.ranks r n w.in-Some.parts i.lowers (sym c.parts_of.ensures.parts ∙ w.in-Some.is) w.lower_both.ensures.both in rw more h);
            long = w.lower_both.ensures.len ∙ i.long;
          })
      | in-None w ↦
          rw w.ranks-is (record {
            lowers = (let h : LowersListed d (take k ns ++ n ∷ []) a c.loop-number.ranks r = listed_pass d (take k ns) a c.loop-number.ranks r n i.lowers (sym c.parts_of.ensures.parts ∙ w.in-None.is) in rw more h);
            long = i.long;
          })
    ]

pub returns-clause-lowers : goal.returns-clause-lowers
returns-clause-lowers c =
    let ns = c.args.numbers.now in
    let all : take c.loop-number.number-index ns ≡ ns = take_all c.loop-number.number-index ns c.loop-number-test.false in
    rw all at c.loop-number.invariant.lowers
