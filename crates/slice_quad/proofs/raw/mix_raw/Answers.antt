use Rattle.slice_quad.specs.Raws.{IsMix}
use Rattle.slice_quad.specs.Variables.{IsGate}
use Rattle.slice_quad.proofs.Onwards.{gate_serves, raw_serves, raw_vector, reduced_as, mixable_at}
use Rattle.slice_quad.proofs.Serving.{Serves, grows_by, stops_by}
use Rattle.slice_quad.proofs.raw.mix_raw.Given.{Over}
use Rattle.slice_quad.proofs.raw.mix_raw.Goals.{Start, In_ok-gate}
use Rattle.slice_quad.proofs.raw.mix_raw.Goals as goal

first : (g : Over) (c : Start g) → Serves c.args.d.now c.args.d.now (IsMix c.args.d.now.store c.args.target c.args.q.now) (IsGate c.args.d.now.store c.args.target)
first g c = gate_serves c.args.d.now c.args.target c.args.q.now c.requires.sound

second : (g : Over) (c : In_ok-gate g) → Serves c.args.d.now c.gate_of.new.d (IsMix c.args.d.now.store c.args.target c.args.q.now) (IsMix c.gate_of.new.d.store c.in_ok-gate.gate.target c.args.q.now)
second g c =
    let k = grows_by (gate_serves c.args.d.now c.args.target c.args.q.now c.requires.sound) c.gate_of.ensures.grows in
    raw_serves c.args.d.now c.gate_of.new.d c.args.target c.in_ok-gate.gate.target c.args.q.now c.requires.sound c.requires.whole k c.in_ok-gate.ensures.gate

pub returns-in_err-gate-clause-grows : goal.returns-in_err-gate-clause-grows
returns-in_err-gate-clause-grows g c = grows_by (first g (goal.at.returns-in_err-gate-clause-grows g c).Start) c.gate_of.ensures.grows

pub returns-in_err-gate-clause-stop : goal.returns-in_err-gate-clause-stop
returns-in_err-gate-clause-stop g c = stops_by _ _ _ (first g (goal.at.returns-in_err-gate-clause-stop g c).Start) c.from_residual.ensures.1 c.in_err-gate.ensures.stop

pub raw_of-requires-clause-mixable : goal.raw_of-requires-clause-mixable
raw_of-requires-clause-mixable g c =
    let k = (second g (goal.at.raw_of-requires-clause-mixable g c).In_ok-gate).grows in
    mixable_at c.args.d.now c.gate_of.new.d _ c.args.target c.in_ok-gate.gate c.args.q.now k c.in_ok-gate.ensures.gate c.in_ok-gate.ensures.nodes c.requires.reduced c.requires.whole c.requires.some c.requires.few c.requires.target

pub returns-in_err-raw-clause-grows : goal.returns-in_err-raw-clause-grows
returns-in_err-raw-clause-grows g c = grows_by (second g (goal.at.returns-in_err-raw-clause-grows g c).In_ok-gate) c.raw_of.ensures.grows

pub returns-in_err-raw-clause-stop : goal.returns-in_err-raw-clause-stop
returns-in_err-raw-clause-stop g c = stops_by _ _ _ (second g (goal.at.returns-in_err-raw-clause-stop g c).In_ok-gate) c.from_residual-in_err-raw.ensures.1 c.in_err-raw.ensures.stop

pub returns-clause-values : goal.returns-clause-values
returns-clause-values g c =
    let k = (second g (goal.at.returns-clause-values g c).In_ok-gate).grows in
    let t = c.args.target in let r = c.in_ok-gate.gate.target in let e = c.in_ok-gate.ensures.gate in
    raw_vector c.args.d.now c.gate_of.new.d t r c.args.q.now c.requires.sound c.requires.whole k e c.raw_of.new.d.store c.in_ok-raw.raw (reduced_as t r e c.requires.reduced) c.in_ok-raw.ensures.raw c.requires.some

pub returns-clause-grows : goal.returns-clause-grows
returns-clause-grows g c = grows_by (second g (goal.at.returns-clause-grows g c).In_ok-gate) c.raw_of.ensures.grows
