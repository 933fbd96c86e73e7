use Rattle.std.proofs.Common.{◌≡◌, sym, ◌∙◌, ap}
use Rattle.ring_omega.specs.Ring.{times_power, omega_unit}
use Rattle.ring_omega.proofs.RingLaws.{zero-sum_of}
use Rattle.gate_set.specs.Matrix.{times_entry}
use Rattle.quad_lists.proofs.exact.ExactQuad.entry_times.Goals as goal

pub returns-in-Omega : goal.returns-in-Omega
returns-in-Omega c =
    c.plus_turned.ensures.value ∙ zero-sum_of (times_power omega_unit c.in-Omega.j c.args.q) ∙ ap (λ e. times_entry e c.args.q) (sym c.in-Omega.is)
