use Rattle.slice_quad.proofs.Units.{unit_step}
use Rattle.slice_quad.proofs.kind.Step.is_unit.Goals as goal

pub returns-then-half-eq0-clause-unit : goal.returns-then-half-eq0-clause-unit
returns-then-half-eq0-clause-unit c = λ is.
    unit_step c.args.self.now _ _ _ _ c.target_of.result c.in-Mix.is c.target_of.ensures (c.is_unit.ensures is)
