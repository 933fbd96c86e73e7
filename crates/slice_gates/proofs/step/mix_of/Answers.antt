use Rattle.std.proofs.Common.{[], ◌∷◌, ◌-◌, refl, ◌∙◌, ap}
use Rattle.gate_set.specs.Matrix.{arity_of}
use Rattle.slice_gates.proofs.Made.{target_made, target_as, step_made, small_own, below_extra, below_own, inside_one}
use Rattle.std.specs.Prelude.{◌==◌}
use Rattle.slice_gates.proofs.step.mix_of.Goals as goal

pub returns : goal.returns
returns c =
    step_made c.args.vars c.args.side c.args.gate.now c.controls_of.result c.place.result
    ((c.entry.result ∷ c.entry-2.result ∷ []) ∷ (c.entry-3.result ∷ c.entry-4.result ∷ []) ∷ []) c.half_power.result c.requires.one refl
    (target_as c.args.vars c.args.side c.args.gate.now c.on-on.result.now c.arity-arity.result c.controls_of.result
    c.entry.result c.entry-2.result c.entry-3.result c.entry-4.result (c.half_power.result == 1) c.place.result c.place.ensures
    (target_made c.args.vars c.args.side c.args.gate.now c.extra-extra.result.now c.on-on.result.now c.arity-arity.result c.block_start-row.result c.half_power.result c.controls_of.result
    c.entry.result c.entry-2.result c.entry-3.result c.entry-4.result
    c.on-on.ensures.sound c.requires.below c.requires.one c.extra-extra.ensures.extra c.on-on.ensures.on (c.arity-arity.ensures.value ∙ ap arity_of c.kind.ensures.kind) c.arity-arity.ensures.some c.block_start-row.ensures c.half_power.ensures.value c.controls_of.ensures
    (record {
      low_low = record { value = c.entry.ensures.value; power = c.entry.ensures.power };
      low_high = record { value = c.entry-2.ensures.value; power = c.entry-2.ensures.power };
      high_low = record { value = c.entry-3.ensures.value; power = c.entry-3.ensures.power };
      high_high = record { value = c.entry-4.ensures.value; power = c.entry-4.ensures.power };
    })))
    c.half_power.ensures.value

pub controls_of-requires-clause-small : goal.controls_of-requires-clause-small
controls_of-requires-clause-small c = small_own c.args.gate.now c.on-on.result.now c.on-on.ensures.sound c.on-on.ensures.on

pub controls_of-requires-clause-below_extra : goal.controls_of-requires-clause-below_extra
controls_of-requires-clause-below_extra c = below_extra c.args.vars c.args.side c.args.gate.now c.extra-extra.result.now c.requires.below c.extra-extra.ensures.extra

pub controls_of-requires-clause-below : goal.controls_of-requires-clause-below
controls_of-requires-clause-below c = below_own c.args.vars c.args.side c.args.gate.now c.on-on.result.now c.requires.below c.on-on.ensures.on

pub place-requires : goal.place-requires
place-requires c =
    let g = c.args.gate.now in
    let a = c.arity-arity.ensures.value ∙ ap arity_of c.kind.ensures.kind in
    small_own g c.on-on.result.now c.on-on.ensures.sound c.on-on.ensures.on (c.arity-arity.result - 1) 0
    (inside_one g c.on-on.result.now c.arity-arity.result c.on-on.ensures.sound c.on-on.ensures.on a c.arity-arity.ensures.some)
