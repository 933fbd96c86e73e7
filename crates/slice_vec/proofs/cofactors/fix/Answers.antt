use Rattle.std.proofs.Common.{sym}
use Rattle.std.proofs.lemmas.Result.{err_from_is_err_and}
use Rattle.diagram_ops.specs.Cofactors.{numbers_of, InCofactors, AreCofactors}
use Rattle.diagram_ops.specs.Made.{MakesOnly, StopIs}
use Rattle.slice_vec.specs.Growing.{Grows}
use Rattle.slice_vec.specs.Slices.{InFixed}
use Rattle.slice_vec.proofs.FixedBits.{fixed_made, fixed_stop, cofactors_done}
use Rattle.slice_vec.proofs.Places.{keeping_grows}
use Rattle.slice_vec.proofs.cofactors.fix.Given.{Over}
use Rattle.slice_vec.proofs.cofactors.fix.Goals.{After-cofactors}
use Rattle.slice_vec.proofs.cofactors.fix.Goals as goal

grows : (g : Over) (c : After-cofactors g) → Grows c.args.d.now (InFixed c.args.d.now.store c.args.var c.args.bit c.args.x.now) c.cofactors.new.self
grows g c =
    let u = c.args.d.now in let w = c.cofactors.new.self in let v = c.args.var in let b = c.args.bit in let xs = c.args.x.now in
    let e = c.cofactors.ensures in
    let made : MakesOnly u.store w.store (InCofactors v b u.store xs) = rw (sym c.nodes.ensures) e.made in
    keeping_grows u w (InFixed u.store v b xs) e.sound e.extends e.functions e.cache (fixed_made u.store w.store v b xs made)

pub cofactors-requires-clause-fs : goal.cofactors-requires-clause-fs
cofactors-requires-clause-fs g c = rw c.nodes.ensures c.requires.x.live

pub returns-in_err-bits : goal.returns-in_err-bits
returns-in_err-bits g c =
    let u = c.args.d.now in let w = c.cofactors.new.self in let v = c.args.var in let b = c.args.bit in let xs = c.args.x.now in
    let why = c.in_err-bits.field-0.0 in
    let was : StopIs w.store (InCofactors v b u.store xs) why = rw (sym c.nodes.ensures) c.in_err-bits.ensures.stop in
    let p = err_from_is_err_and c.from_residual.result c.from_residual.ensures.1 in
    rw (p.1, p.2) (record {
      fixed = tt;
      grows = grows g (goal.at.returns-in_err-bits g c).After-cofactors;
      stop = fixed_stop u.store w.store v b xs why was;
      steps = rw (sym c.nodes.ensures) c.cofactors.ensures.steps;
    })

pub returns : goal.returns
returns g c =
    let u = c.args.d.now in let w = c.cofactors.new.self in let v = c.args.var in let b = c.args.bit in let xs = c.args.x.now in
    let all : AreCofactors v b u.store w.store xs (numbers_of c.in_ok-bits.bits.items) = rw (sym c.nodes.ensures) c.in_ok-bits.ensures.fixed in
    let grown = grows g (goal.at.returns g c).After-cofactors in
    record {
      fixed = cofactors_done u w v b xs (numbers_of c.in_ok-bits.bits.items) c.requires.x grown all;
      grows = grown;
      stop = tt;
      steps = rw (sym c.nodes.ensures) c.cofactors.ensures.steps;
    }
