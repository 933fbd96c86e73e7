use Rattle.slice_quad.specs.Vectors.{vector_in}
use Rattle.slice_quad.proofs.StepCalls.{mix_values, mix_grows, mix_stops, exchange_grows, exchange_stops}
use Rattle.slice_quad.proofs.stepping.raw_step.Goals as goal

pub returns-in-Mix-clause-values : goal.returns-in-Mix-clause-values
returns-in-Mix-clause-values g c =
    let u = c.args.d.now in let q = c.args.q.now in
    mix_values c.args.s.now _ _ _ _ c.target_of.result q c.in-Mix.is c.target_of.ensures c.mix_raw.result c.mix_raw.new.d.store (vector_in u.store q) c.mix_raw.ensures.values

pub returns-in-Mix-clause-grows : goal.returns-in-Mix-clause-grows
returns-in-Mix-clause-grows g c =
    mix_grows c.args.s.now _ _ _ _ c.target_of.result c.args.q.now c.in-Mix.is c.target_of.ensures c.args.d.now c.mix_raw.new.d c.mix_raw.ensures.grows

pub returns-in-Mix-clause-stop : goal.returns-in-Mix-clause-stop
returns-in-Mix-clause-stop g c =
    mix_stops c.args.s.now _ _ _ _ c.target_of.result c.args.q.now c.in-Mix.is c.target_of.ensures c.mix_raw.result c.args.d.now c.mix_raw.new.d.store c.mix_raw.ensures.stop

pub returns-in-Exchange-clause-grows : goal.returns-in-Exchange-clause-grows
returns-in-Exchange-clause-grows g c =
    exchange_grows c.args.s.now _ _ _ c.args.q.now c.in-Exchange.is c.args.d.now c.exchange_raw.new.d c.exchange_raw.ensures.grows

pub returns-in-Exchange-clause-stop : goal.returns-in-Exchange-clause-stop
returns-in-Exchange-clause-stop g c =
    exchange_stops c.args.s.now _ _ _ c.args.q.now c.in-Exchange.is c.exchange_raw.result c.args.d.now c.exchange_raw.new.d.store c.exchange_raw.ensures.stop
