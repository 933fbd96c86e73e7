use Rattle.diagram_ops.proofs.Splits.{split_is, upper_of}
use Rattle.diagram_ops.proofs.split.Split.new.Goals as goal

pub returns : goal.returns
returns c =
    let f = c.new-f.result in
    let g = c.new-g.result in
    let h = c.new-h.result in
    let t = c.higher-top.result in
    split_is c.args.store.now c.args.at f g h t c.child.result c.child-2.result c.child-3.result c.child-4.result c.child-5.result c.child-6.result
    c.requires.sound c.requires.live (record { of_f = c.new-f.ensures; of_g = c.new-g.ensures; of_h = c.new-h.ensures })
    (upper_of f g h c.higher.result t c.higher.ensures.one c.higher.ensures.above c.higher.ensures.above_other c.higher-top.ensures.one c.higher-top.ensures.above c.higher-top.ensures.above_other)
    c.requires.some c.child.ensures c.child-2.ensures c.child-3.ensures c.child-4.ensures c.child-5.ensures c.child-6.ensures
