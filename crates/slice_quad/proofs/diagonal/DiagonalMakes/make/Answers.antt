use Rattle.std.proofs.Common.{◌≡◌, arith}
use Rattle.slice_quad.proofs.DiagonalCalls.{plain_serves, plain_is, opposite_serves, opposite_is}
use Rattle.slice_quad.proofs.Serving.{grows_by, stops_by}
use Rattle.slice_quad.proofs.diagonal.DiagonalMakes.make.Goals as goal

pub returns-in_err-bits-clause-grows : goal.returns-in_err-bits-clause-grows
returns-in_err-bits-clause-grows g c =
    let u = c.args.d.now in let m = c.args.self.now in
    grows_by (plain_serves u m.target.now m.j m.here.0 m.q.now m.zero.now c.args.z c.requires.sound c.requires.takes c.turn_of-turn.result c.turn_of-turn.ensures c.if-not-turn.true c.get.result.now c.get-then-not-turn.result.now c.get.ensures c.get-then-not-turn.ensures) c.select.ensures.grows

pub returns-in_err-bits-clause-stop : goal.returns-in_err-bits-clause-stop
returns-in_err-bits-clause-stop g c =
    let u = c.args.d.now in let m = c.args.self.now in
    stops_by _ _ _ (plain_serves u m.target.now m.j m.here.0 m.q.now m.zero.now c.args.z c.requires.sound c.requires.takes c.turn_of-turn.result c.turn_of-turn.ensures c.if-not-turn.true c.get.result.now c.get-then-not-turn.result.now c.get.ensures c.get-then-not-turn.ensures) c.from_residual.ensures.1 c.in_err-bits.ensures.stop

pub returns-then-not-turn-clause-gives : goal.returns-then-not-turn-clause-gives
returns-then-not-turn-clause-gives g c =
    let u = c.args.d.now in let m = c.args.self.now in
    plain_is u m.target.now m.j m.here.0 m.q.now m.zero.now c.args.z c.requires.sound c.requires.takes c.turn_of-turn.result c.turn_of-turn.ensures c.if-not-turn.true c.get.result.now c.get-then-not-turn.result.now c.get.ensures c.get-then-not-turn.ensures c.select.new.d c.in_ok-bits.bits c.in_ok-bits.ensures.chosen

pub returns-then-not-turn-clause-grows : goal.returns-then-not-turn-clause-grows
returns-then-not-turn-clause-grows g c =
    let u = c.args.d.now in let m = c.args.self.now in
    grows_by (plain_serves u m.target.now m.j m.here.0 m.q.now m.zero.now c.args.z c.requires.sound c.requires.takes c.turn_of-turn.result c.turn_of-turn.ensures c.if-not-turn.true c.get.result.now c.get-then-not-turn.result.now c.get.ensures c.get-then-not-turn.ensures) c.select.ensures.grows

pub returns-in_err-opposite-clause-grows : goal.returns-in_err-opposite-clause-grows
returns-in_err-opposite-clause-grows g c =
    let u = c.args.d.now in let m = c.args.self.now in
    let four : m.j ≡ 4 = omega (arith, c.if-self-eq4.true) in
    grows_by (opposite_serves u m.target.now m.j m.here.0 m.q.now m.zero.now c.args.z c.requires.sound c.requires.takes c.get-then-self-eq4.result.now c.get-then-self-eq4.ensures four) c.negate_where.ensures.grows

pub returns-in_err-opposite-clause-stop : goal.returns-in_err-opposite-clause-stop
returns-in_err-opposite-clause-stop g c =
    let u = c.args.d.now in let m = c.args.self.now in
    let four : m.j ≡ 4 = omega (arith, c.if-self-eq4.true) in
    stops_by _ _ _ (opposite_serves u m.target.now m.j m.here.0 m.q.now m.zero.now c.args.z c.requires.sound c.requires.takes c.get-then-self-eq4.result.now c.get-then-self-eq4.ensures four) c.from_residual-in_err-opposite.ensures.1 c.in_err-opposite.ensures.stop

pub returns-then-self-eq4-clause-gives : goal.returns-then-self-eq4-clause-gives
returns-then-self-eq4-clause-gives g c =
    let u = c.args.d.now in let m = c.args.self.now in
    let four : m.j ≡ 4 = omega (arith, c.if-self-eq4.true) in
    opposite_is u m.target.now m.j m.here.0 m.q.now m.zero.now c.args.z c.requires.sound c.requires.takes c.get-then-self-eq4.result.now c.get-then-self-eq4.ensures four c.negate_where.new.d c.in_ok-opposite.opposite c.in_ok-opposite.ensures.negation

pub returns-then-self-eq4-clause-grows : goal.returns-then-self-eq4-clause-grows
returns-then-self-eq4-clause-grows g c =
    let u = c.args.d.now in let m = c.args.self.now in
    let four : m.j ≡ 4 = omega (arith, c.if-self-eq4.true) in
    grows_by (opposite_serves u m.target.now m.j m.here.0 m.q.now m.zero.now c.args.z c.requires.sound c.requires.takes c.get-then-self-eq4.result.now c.get-then-self-eq4.ensures four) c.negate_where.ensures.grows
