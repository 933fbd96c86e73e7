use Rattle.std.proofs.Common.{◌≡◌, arith}
use Rattle.diagram_model.specs.Functions.{IsPrefixOf}
use Rattle.slice_vec.specs.Growing.{Denotes}
use Rattle.slice_vec.specs.Slices.{InNegation}
use Rattle.slice_quad.specs.Column.{where_signed}
use Rattle.slice_quad.specs.Fours.{mix_of}
use Rattle.slice_quad.specs.Mix.{negates}
use Rattle.slice_quad.specs.Raws.{GivesUnsigned, IsMix}
use Rattle.slice_quad.proofs.Columns.{sign_serves, sign_is, negation_serves, negation_is}
use Rattle.slice_quad.proofs.Raws.{column_low, column_high, mix_serves, ready_on, unsigned_as}
use Rattle.slice_quad.proofs.Serving.{Serves, grows_by, stops_by}
use Rattle.slice_quad.proofs.raw.Mixing.part.Given.{Over}
use Rattle.slice_quad.proofs.raw.Mixing.part.Goals.{After-negates-2, After-signing, In_ok-term}
use Rattle.slice_quad.proofs.raw.Mixing.part.Goals as goal

first : (g : Over) (c : After-negates-2 g) → Serves c.args.d.now c.args.d.now (IsMix c.args.d.now.store c.args.self.now.gate.now.target c.args.self.now.q.now) (IsPrefixOf c.args.d.now.store.order (where_signed (mix_of c.args.self.now.gate.now.target) c.negates.result c.negates-2.result c.column_at-column.result.out))
first g c = let m = c.args.self.now in sign_serves c.args.d.now m.gate.now m.q.now m.halves.now m.zero.now c.args.z c.args.second c.requires.sound c.requires.ready c.column_at-column.result c.column_at-column.ensures c.negates.result c.negates-2.result c.negates.ensures c.negates-2.ensures

second : (g : Over) (c : After-signing g) → Serves c.args.d.now c.signing.new.d (IsMix c.args.d.now.store c.args.self.now.gate.now.target c.args.self.now.q.now) (IsMix c.signing.new.d.store c.args.self.now.gate.now.target c.args.self.now.q.now)
second g c =
    let m = c.args.self.now in
    let k = grows_by (sign_serves c.args.d.now m.gate.now m.q.now m.halves.now m.zero.now c.args.z c.args.second c.requires.sound c.requires.ready c.column_at-column.result c.column_at-column.ensures c.negates.result c.negates-2.result c.negates.ensures c.negates-2.ensures) c.signing.ensures.grows in
    mix_serves c.args.d.now c.signing.new.d m.gate.now.target m.q.now c.requires.sound k c.requires.ready.whole

-- the sign and the term after the second call
sign : (g : Over) (c : In_ok-term g) → Denotes c.unsigned.new.d.store c.in_ok-sign.sign.0 (negates (mix_of c.args.self.now.gate.now.target) c.args.z c.args.second)
sign g c = let m = c.args.self.now in sign_is c.args.d.now m.gate.now m.q.now m.halves.now m.zero.now c.args.z c.args.second c.requires.sound c.requires.ready c.column_at-column.result c.column_at-column.ensures c.negates.result c.negates-2.result c.negates.ensures c.negates-2.ensures c.signing.new.d c.unsigned.new.d _ c.in_ok-sign.sign.0 c.signing.ensures.grows.sound c.unsigned.ensures.grows c.in_ok-sign.ensures.node

term : (g : Over) (c : In_ok-term g) → GivesUnsigned c.args.self.now.gate.now.target c.args.self.now.q.now c.args.second c.args.d.now.store c.args.z c.unsigned.new.d.store c.in_ok-term.term
term g c =
    let m = c.args.self.now in
    let k = grows_by (sign_serves c.args.d.now m.gate.now m.q.now m.halves.now m.zero.now c.args.z c.args.second c.requires.sound c.requires.ready c.column_at-column.result c.column_at-column.ensures c.negates.result c.negates-2.result c.negates.ensures c.negates-2.ensures) c.signing.ensures.grows in
    unsigned_as c.args.d.now c.signing.new.d c.unsigned.new.d m.gate.now.target m.q.now c.args.second c.args.z c.in_ok-term.term c.requires.sound k c.requires.ready.whole c.in_ok-term.ensures.term

third : (g : Over) (c : In_ok-term g) → Serves c.args.d.now c.unsigned.new.d (IsMix c.args.d.now.store c.args.self.now.gate.now.target c.args.self.now.q.now) (InNegation c.unsigned.new.d.store c.in_ok-sign.sign.0 c.in_ok-term.term)
third g c =
    let m = c.args.self.now in
    let k = grows_by (sign_serves c.args.d.now m.gate.now m.q.now m.halves.now m.zero.now c.args.z c.args.second c.requires.sound c.requires.ready c.column_at-column.result c.column_at-column.ensures c.negates.result c.negates-2.result c.negates.ensures c.negates-2.ensures) c.signing.ensures.grows in
    let k2 = grows_by (mix_serves c.args.d.now c.signing.new.d m.gate.now.target m.q.now c.requires.sound k c.requires.ready.whole) c.unsigned.ensures.grows in
    negation_serves c.args.d.now m.gate.now m.q.now m.halves.now m.zero.now c.args.z c.args.second c.requires.sound c.requires.ready c.unsigned.new.d c.in_ok-sign.sign.0 c.in_ok-term.term (sign g c) (term g c) k2

pub negates-requires : goal.negates-requires
negates-requires g c = column_low c.args.self.now.gate.now.target c.args.z c.args.second c.column_at-column.result c.requires.ready.reduced c.column_at-column.ensures

pub negates-requires-2 : goal.negates-requires-2
negates-requires-2 g c = column_high c.args.self.now.gate.now.target c.args.z c.args.second c.column_at-column.result c.requires.ready.reduced c.column_at-column.ensures

pub returns-in_err-sign-clause-grows : goal.returns-in_err-sign-clause-grows
returns-in_err-sign-clause-grows g c = grows_by (first g (goal.at.returns-in_err-sign-clause-grows g c).After-negates-2) c.signing.ensures.grows

pub returns-in_err-sign-clause-stop : goal.returns-in_err-sign-clause-stop
returns-in_err-sign-clause-stop g c = stops_by _ _ _ (first g (goal.at.returns-in_err-sign-clause-stop g c).After-negates-2) c.from_residual.ensures.1 c.in_err-sign.ensures.stop

pub unsigned-requires-clause-ready : goal.unsigned-requires-clause-ready
unsigned-requires-clause-ready g c = let m = c.args.self.now in ready_on c.args.d.now c.signing.new.d _ m.gate.now m.q.now m.halves.now m.zero.now c.requires.sound c.signing.ensures.grows c.requires.ready

pub returns-in_err-term-clause-grows : goal.returns-in_err-term-clause-grows
returns-in_err-term-clause-grows g c = grows_by (second g (goal.at.returns-in_err-term-clause-grows g c).After-signing) c.unsigned.ensures.grows

pub returns-in_err-term-clause-stop : goal.returns-in_err-term-clause-stop
returns-in_err-term-clause-stop g c = stops_by _ _ _ (second g (goal.at.returns-in_err-term-clause-stop g c).After-signing) c.from_residual-in_err-term.ensures.1 c.in_err-term.ensures.stop

pub negate_where-requires-clause-width : goal.negate_where-requires-clause-width
negate_where-requires-clause-width g c = let few = c.requires.ready.few in let wide = c.in_ok-term.ensures.term.width in omega (arith, few, wide)

pub returns-in_err-signed-clause-grows : goal.returns-in_err-signed-clause-grows
returns-in_err-signed-clause-grows g c = grows_by (third g (goal.at.returns-in_err-signed-clause-grows g c).In_ok-term) c.negate_where.ensures.grows

pub returns-in_err-signed-clause-stop : goal.returns-in_err-signed-clause-stop
returns-in_err-signed-clause-stop g c = stops_by _ _ _ (third g (goal.at.returns-in_err-signed-clause-stop g c).In_ok-term) c.from_residual-in_err-signed.ensures.1 c.in_err-signed.ensures.stop

pub returns-clause-term : goal.returns-clause-term
returns-clause-term g c =
    let m = c.args.self.now in let at = (goal.at.returns-clause-term g c).In_ok-term in
    negation_is c.args.d.now m.gate.now m.q.now m.halves.now m.zero.now c.args.z c.args.second c.requires.sound c.requires.ready c.unsigned.new.d c.in_ok-sign.sign.0 c.in_ok-term.term (sign g at) (term g at) c.negate_where.new.d c.in_ok-signed.signed c.in_ok-signed.ensures.negation

pub returns-clause-grows : goal.returns-clause-grows
returns-clause-grows g c = grows_by (third g (goal.at.returns-clause-grows g c).In_ok-term) c.negate_where.ensures.grows
