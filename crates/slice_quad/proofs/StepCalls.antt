-- A step, from the functions of its kind to its work functions.
use Rattle.std.proofs.Common.{◌≡◌, ℕ, ◌-◌, Bool, List, length, Result, refl, sym, ◌∙◌, ap, subst}
use Rattle.std.specs.Prelude.{IfOk, IfErr}
use mathlib.Core.Path.{fun_ext}
use Rattle.node_store.specs.declared.node.StoreStop.{StoreStop}
use Rattle.node_store.specs.declared.node.StoreStop.TheVariants as store
use Rattle.diagram_model.specs.Functions.{Function}
use Rattle.diagram_model.specs.Stores.{Diagram, function_of}
use Rattle.diagram_ops.specs.Diagrams.{StoreAndCache}
use Rattle.diagram_ops.specs.Made.{Property, StopIs, IsMissing, IsPrefixOfSome}
use Rattle.gate_set.specs.declared.entry.Entry.{Entry}
use Rattle.slice_vec.specs.Growing.{Grows}
use Rattle.slice_vec.specs.Slices.{AreEven, SameValues}
use Rattle.slice_vec.proofs.Bits.{stands_on}
use Rattle.slice_vec.proofs.Growing.{grows_wider, some_later}
use Rattle.diagram_model.proofs.Growing.{live_on}
use Rattle.slice_quad.specs.declared.coord.Coord.{Coord}
use Rattle.slice_quad.specs.declared.coord.Coord.TheVariants.{A, B, C, D}
use Rattle.slice_quad.specs.declared.four.Four.{Four}
use Rattle.slice_quad.specs.declared.gate.Target.{Target}
use Rattle.slice_quad.specs.declared.kind.Step.{Step}
use Rattle.slice_quad.specs.declared.kind.Step.TheVariants as steps
use Rattle.slice_quad.specs.declared.quad.SliceQuad.{SliceQuad}
use Rattle.slice_quad.specs.declared.stop.QuadStop.{QuadStop}
use Rattle.slice_quad.specs.declared.stop.QuadStop.TheVariants as quads
use Rattle.slice_quad.specs.Bits.{bits_of}
use Rattle.slice_quad.specs.Crossings.{IsExchange}
use Rattle.slice_quad.specs.Fours.{nodes_of, digits_in, mix_of, AreIntegers}
use Rattle.slice_quad.specs.Mix.{Vector, Coordinates, vector_of, mixed}
use Rattle.slice_quad.specs.Raws.{AreReduced, IsMix}
use Rattle.slice_quad.specs.Settled.{AreSame, IsSettled, doubled}
use Rattle.slice_quad.specs.Stepping.{stepped, target_with, exchange_with, AreReducedRows, step_functions, work_functions, IsStep, IsWork}
use Rattle.slice_quad.specs.Stops.{stop_of, OnWidth, QuadStopIs, IsNotFull}
use Rattle.slice_quad.specs.Vectors.{vector_in, AreValues, Stands}
use Rattle.slice_quad.proofs.BitLemmas.{bits-of_vector}
use Rattle.slice_quad.proofs.DiagonalCalls.{steady_in}
use Rattle.slice_quad.proofs.RawValues.{vector_bits}

-- ---- by kinds
pub reduced_target : (controls : List Bool) (target : ℕ) (rows : List (List Entry)) (half : ℕ) → AreReducedRows rows → AreReduced (target_with controls target rows half)
reduced_target controls target rows half h = record { low_low = h.low_low; low_high = h.low_high; high_low = h.high_low; high_high = h.high_high }

module _ (s : Step) (controls : List Bool) (target : ℕ) (rows : List (List Entry)) (half : ℕ) (t : Target) (q : Four) (is : s ≡ steps.Mix controls target rows half) (same : t ≡ target_with controls target rows half) where
  pub mix_values : (o : Result Four StoreStop) (d : Diagram) (v : Vector) → IfOk o (AreValues d (mixed (mix_of t) v)) → IfOk o (AreValues d (stepped s v))
  mix_values o d v h = subst (λ r. IfOk o (AreValues d (stepped r v))) (sym is) (subst (λ r. IfOk o (AreValues d (mixed (mix_of r) v))) same h)

  pub mix_grows : (u w : StoreAndCache) → Grows u (IsMix u.store t q) w → Grows u (IsStep u.store s q) w
  unfolding step_functions
  mix_grows u w g = subst (λ r. Grows u (IsStep u.store r q) w) (sym is) (subst (λ r. Grows u (IsMix u.store r q) w) same g)

  pub mix_stops : (o : Result Four StoreStop) (u : StoreAndCache) (d : Diagram) → IfErr o (StopIs d (IsMix u.store t q)) → IfErr o (StopIs d (IsStep u.store s q))
  unfolding step_functions
  mix_stops o u d stop = subst (λ r. IfErr o (StopIs d (IsStep u.store r q))) (sym is) (subst (λ r. IfErr o (StopIs d (IsMix u.store r q))) same stop)

module _ (s : Step) (controls : List Bool) (first second : ℕ) (q : Four) (is : s ≡ steps.Exchange controls first second) where
  pub exchange_grows : (u w : StoreAndCache) → Grows u (IsExchange u.store (exchange_with controls first second) q) w → Grows u (IsStep u.store s q) w
  unfolding step_functions
  exchange_grows u w g = subst (λ r. Grows u (IsStep u.store r q) w) (sym is) g

  pub exchange_stops : (o : Result Four StoreStop) (u : StoreAndCache) (d : Diagram) → IfErr o (StopIs d (IsExchange u.store (exchange_with controls first second) q)) → IfErr o (StopIs d (IsStep u.store s q))
  unfolding step_functions
  exchange_stops o u d stop = subst (λ r. IfErr o (StopIs d (IsStep u.store r q))) (sym is) stop

-- ---- by the vector
-- the bits of the coordinates are those of the vector
pub digits_vector : (d : Diagram) (n : ℕ) (q : Four) → AreIntegers d n q → bits_of (vector_in d q) ≡ digits_in d q
digits_vector d n q h =
    let vector : vector_of (n - 1) (digits_in d q) ≡ vector_in d q = fun_ext (λ x. vector_bits d n q h x) in
    ap bits_of (sym vector) ∙ fun_ext (λ z. bits-of_vector (n - 1) (digits_in d q) z (steady_in d n q h))

work_list : (vs : List ℕ) (w : ℕ) (kept : Function) (s : Step) (v : Vector) (q : Coordinates) (p : Function) → bits_of v ≡ q → IsPrefixOfSome vs (step_functions w s q) p → IsPrefixOfSome vs (work_functions w kept s v) p
unfolding work_functions
work_list vs w kept s v q p e h = some_later vs kept (step_functions w s (bits_of v)) p (rw e h)

pub whole_of : (d : Diagram) (q : SliceQuad) → Stands d q → length q.four.b ≡ length q.four.a → length q.four.c ≡ length q.four.a → length q.four.d ≡ length q.four.a → AreIntegers d (length q.four.a) q.four
whole_of d q h b c e = record { stands = h.integers; width = wide }
  where
    wide : (z : Coord) → length (nodes_of q.four z) ≡ length q.four.a
    wide A = refl
    wide B = b
    wide C = c
    wide D = e

work_of : (d : Diagram) (s : Step) (q : SliceQuad) (p : Function) → AreIntegers d (length q.four.a) q.four → IsStep d s q.four p → IsWork d s q p
work_of d s q p h is = work_list d.order (length q.four.a) (function_of d q.kept.0) s (vector_in d q.four) (digits_in d q.four) p (digits_vector d (length q.four.a) q.four h) is

pub work_grows : (u w : StoreAndCache) (s : Step) (q : SliceQuad) → AreIntegers u.store (length q.four.a) q.four → Grows u (IsStep u.store s q.four) w → Grows u (IsWork u.store s q) w
work_grows u w s q h g = grows_wider u w (IsStep u.store s q.four) (IsWork u.store s q) (λ p is. work_of u.store s q p h is) g

missing_wider : (d : Diagram) (Is Are : Property) → ((p : Function) → Is p → Are p) → IsMissing d Is → IsMissing d Are
missing_wider d Is Are wider m = record { full = m.full; missing = m.missing; is = wider m.missing m.is; none = m.none }

pub work_stops : (u : StoreAndCache) (d : Diagram) (s : Step) (q : SliceQuad) → AreIntegers u.store (length q.four.a) q.four → (cause : StoreStop) (why : QuadStop) → why ≡ stop_of cause → StopIs d (IsStep u.store s q.four) cause → QuadStopIs d (IsWork u.store s q) why
work_stops u d s q h (store.Full held) why e stop = rw e (stop.0, missing_wider d (IsStep u.store s q.four) (IsWork u.store s q) (λ p is. work_of u.store s q p h is) stop.1)
work_stops u d s q h store.OutOfMemory why e stop = rw e tt

pub not_width : (P : Type 0) (cause : StoreStop) (why : QuadStop) → why ≡ stop_of cause → OnWidth P why
not_width P (store.Full held) why e = rw e tt
not_width P store.OutOfMemory why e = rw e tt

pub never_full : (d : Diagram) (Is : Property) (why : QuadStop) → IsNotFull why → QuadStopIs d Is why
never_full d Is quads.Width h = tt
never_full d Is (quads.Full held) h = absurd h
never_full d Is quads.OutOfMemory h = tt

-- ---- what stands
pub stands_later : (u w : StoreAndCache) (Is : Property) (q : SliceQuad) → Grows u Is w → Stands u.store q → Stands w.store q
stands_later u w Is q g h = record {
  integers = λ z. stands_on u w Is (nodes_of q.four z) g (h.integers z);
  kept = live_on u.store w.store q.kept.0 g.extends h.kept;
}

pub stands_next : (u w : StoreAndCache) (Is : Property) (q r : SliceQuad) (v : Vector) (k : ℕ) → Grows u Is w → Stands u.store q → r.kept ≡ q.kept → IsSettled w.store v k r.four r.exponent → Stands w.store r
stands_next u w Is q r v k g h kept settled = record {
  integers = settled.halfway.stands;
  kept = let live = live_on u.store w.store q.kept.0 g.extends h.kept in rw kept live;
}

-- ---- signs repeated
even_as : (d : Diagram) (ns ms : List ℕ) → SameValues d ms ns → AreEven d ms → AreEven d ns
even_as d ns ms same even x = let e = even x in (e.0, sym (same x) ∙ e.1)

pub settled_same : (d : Diagram) (v : Vector) (k : ℕ) (f g : Four) (j : ℕ) → IsSettled d v k f j → AreSame d f g → IsSettled d v k g j
settled_same d v k f g j h same = record {
  halfway = record {
    times = h.halfway.times;
    exponent = h.halfway.exponent;
    stands = λ z. (same z).stands;
    values = λ z x. h.halfway.values z x ∙ ap (doubled h.halfway.times) (sym ((same z).values x));
  };
  ended = λ two all. h.ended two (λ z. even_as d (nodes_of f z) (nodes_of g z) ((same z).values) (all z));
}
