-- Further controls: a gate with them is its kind's step under them and the kind's own.
use Rattle.std.proofs.Common.{◌≡◌, ◌≢◌, ℕ, suc, ◌+◌, ◌-◌, ◌^◌, ◌<◌, ◌≤◌, Bool, true, false, cond, List, [], ◌∷◌, ◌++◌, length, get_or, take, map, All, refl, sym, ◌∙◌, ap, subst, length-append, arith}
use Rattle.std.specs.Prelude.{◌&&◌, ◌==◌}
use Rattle.std.proofs.lemmas.List.{length-map, map-append}
use Rattle.std.proofs.lemmas.Bool.{false≢true}
use Rattle.ring_omega.specs.declared.quad.Quad.{Quad}
use Rattle.ring_omega.specs.Ring.{sum_of}
use Rattle.diagram_model.specs.Functions.{Assignment, put, bit}
use Rattle.gate_set.specs.declared.gate.Gate.{Gate}
use Rattle.gate_set.specs.declared.kind.Kind.{Kind}
use Rattle.gate_set.specs.declared.kind.Kind.TheVariants.{Id, X, Y, Z, H, S, Sdg, T, Tdg, RxP, RxM, RyP, RyM, Cx, Cz, Swap, Ccx, Cswap, Phase}
use Rattle.gate_set.specs.Matrix.{arity_of, half_power_of, entry_of, matrix_of, beside, controlled_entry, times_entry}
use Rattle.gate_set.specs.Shape.{qubits_of}
use Rattle.circuit_model.proofs.Controlled.{controlled_product, controlled_turned}
use Rattle.circuit_model.specs.Vector.{all_set}
use Rattle.circuit_model.specs.Product.{entries_product}
use Rattle.slice_quad.specs.declared.gate.Target.{Target}
use Rattle.slice_quad.specs.Mix.{Vector, all_true, elsewhere, mixed}
use Rattle.slice_quad.specs.Exchange.{Exchange, exchanged}
use Rattle.slice_quad.specs.Fours.{true_places, mix_of}
use Rattle.slice_gates.specs.declared.side.Side.{Side}
use Rattle.slice_gates.specs.declared.side.Side.TheVariants.{State, Rows, Columns}
use Rattle.slice_gates.specs.Sides.{place_on, entry_in, product_on, gate_on}
use Rattle.slice_gates.specs.Stepped.{exchanges, controls_for}
use Rattle.slice_gates.proofs.Controls.{controls_are, all_true-append}
use Rattle.slice_gates.proofs.GateKinds.{HasNumbers, HasPair, HasRows, target-applied, exchange-applied}

all_set-is : (x : List Bool) (cs : List ℕ) → all_set x cs ≡ all_true cs (bit x)
unfolding all_true
all_set-is x [] = refl
all_set-is x (c ∷ cs) = ap (λ b. get_or x c false && b) (all_set-is x cs)

-- what stands beside a kind's matrix, times a number
beside_times : (k : Kind) (q : Quad) → times_entry (beside k) q ≡ elsewhere (half_power_of k == 1) q
beside_times Id q = refl
beside_times X q = refl
beside_times Y q = refl
beside_times Z q = refl
beside_times H q = refl
beside_times S q = refl
beside_times Sdg q = refl
beside_times T q = refl
beside_times Tdg q = refl
beside_times RxP q = refl
beside_times RxM q = refl
beside_times RyP q = refl
beside_times RyM q = refl
beside_times Cx q = refl
beside_times Cz q = refl
beside_times Swap q = refl
beside_times Ccx q = refl
beside_times Cswap q = refl
beside_times (Phase j) q = refl

-- an exchange leaves nothing out
exchange_beside : (k : Kind) → exchanges k ≡ true → (half_power_of k == 1) ≡ false
exchange_beside Swap two = refl
exchange_beside Cswap two = refl
exchange_beside Id two = absurd (false≢true two)
exchange_beside X two = absurd (false≢true two)
exchange_beside Y two = absurd (false≢true two)
exchange_beside Z two = absurd (false≢true two)
exchange_beside H two = absurd (false≢true two)
exchange_beside S two = absurd (false≢true two)
exchange_beside Sdg two = absurd (false≢true two)
exchange_beside T two = absurd (false≢true two)
exchange_beside Tdg two = absurd (false≢true two)
exchange_beside RxP two = absurd (false≢true two)
exchange_beside RxM two = absurd (false≢true two)
exchange_beside RyP two = absurd (false≢true two)
exchange_beside RyM two = absurd (false≢true two)
exchange_beside Cx two = absurd (false≢true two)
exchange_beside Cz two = absurd (false≢true two)
exchange_beside Ccx two = absurd (false≢true two)
exchange_beside (Phase j) two = absurd (false≢true two)

-- the gate on a side, by its kind's matrix there
pub further : (side : Side) (g : Gate) (w : List Bool → Quad) (x : List Bool) → length g.on ≡ arity_of g.kind
    → gate_on side g w x ≡ cond (all_true (map (place_on side) g.extra) (bit x)) (product_on side (matrix_of g.kind) (map (place_on side) g.on) w x) (times_entry (beside g.kind) (w x))
unfolding entry_of
further side g w x count =
    ap (λ l. entries_product (entry_in side g) l w x) (map-append (place_on side) g.extra g.on)
    ∙ by side
    ∙ ap (λ b. cond b (product_on side (matrix_of g.kind) (map (place_on side) g.on) w x) (times_entry (beside g.kind) (w x))) (all_set-is x (map (place_on side) g.extra))
  where
    cs : Side → List ℕ
    cs s = map (place_on s) g.extra

    on : Side → List ℕ
    on s = map (place_on s) g.on

    same : (s : Side) → length g.extra ≡ length (map (place_on s) g.extra)
    same s = sym (length-map g.extra (place_on s))

    counted : (s : Side) → length (map (place_on s) g.on) ≡ arity_of g.kind
    counted s = length-map g.on (place_on s) ∙ count

    by : (s : Side) → entries_product (entry_in s g) (map (place_on s) g.extra ++ map (place_on s) g.on) w x
        ≡ cond (all_set x (map (place_on s) g.extra)) (product_on s (matrix_of g.kind) (map (place_on s) g.on) w x) (times_entry (beside g.kind) (w x))
    by State = ap (λ n. entries_product (controlled_entry n g.kind) (cs State ++ on State) w x) (same State) ∙ controlled_product g.kind (cs State) (on State) w x (counted State)
    by Rows = ap (λ n. entries_product (controlled_entry n g.kind) (cs Rows ++ on Rows) w x) (same Rows) ∙ controlled_product g.kind (cs Rows) (on Rows) w x (counted Rows)
    by Columns = ap (λ n. entries_product (λ r c. controlled_entry n g.kind c r) (cs Columns ++ on Columns) w x) (same Columns) ∙ controlled_turned g.kind (cs Columns) (on Columns) w x (counted Columns)

joined : (p q : Bool) (a b : Quad) → cond p (cond q a b) b ≡ cond (p && q) a b
joined true q a b = refl
joined false q a b = refl

-- the numbers of a gate's kind, and its controls besides
pub record HasFurther (side : Side) (g : Gate) (r : ℕ) (t : Target) : Type 0 where
  pub start : r + 2 ≡ 2 ^ arity_of g.kind
  pub rows : HasRows side g.kind r t
  pub target : t.target ≡ get_or (map (place_on side) g.on) (arity_of g.kind - 1) 0
  pub controls : (x : Assignment) → all_true (true_places 0 t.controls) x ≡ all_true (map (place_on side) g.extra ++ take (arity_of g.kind - 1) (map (place_on side) g.on)) x
  pub rooted : t.rooted ≡ (half_power_of g.kind == 1)

pub further-applied : (side : Side) (g : Gate) (r : ℕ) (t : Target) (v : Vector) (x : List Bool) → length g.on ≡ arity_of g.kind → exchanges g.kind ≡ false
    → HasFurther side g r t → t.target < length x → All (λ q. q < length x) (map (place_on side) g.on) → gate_on side g (λ y. v (bit y)) x ≡ mixed (mix_of t) v (bit x)
unfolding mixed
further-applied side g r t v x count one has less below =
    further side g (λ y. v (bit y)) x count
    ∙ ap (λ a. cond (all_true (map (place_on side) g.extra) (bit x)) a (times_entry (beside g.kind) (v (bit x)))) (target-applied side g on r own v x counted one numbers less)
    ∙ ap (λ a. cond (all_true (map (place_on side) g.extra) (bit x)) (mixed (mix_of own) v (bit x)) a) (beside_times g.kind (v (bit x)) ∙ ap (λ b. elsewhere b (v (bit x))) (sym has.rooted))
    ∙ both
  where
    on : List ℕ
    on = map (place_on side) g.on

    firsts : List ℕ
    firsts = take (arity_of g.kind - 1) on

    own : Target
    own = record t { controls = controls_for (length x) (take (arity_of g.kind - 1) on) }

    counted : length on ≡ arity_of g.kind
    counted = length-map g.on (place_on side) ∙ count

    own_controls : (y : Assignment) → all_true (true_places 0 (controls_for (length x) (take (arity_of g.kind - 1) on))) y ≡ all_true (take (arity_of g.kind - 1) on) y
    own_controls y = (controls_are (length x) on (arity_of g.kind - 1) below (omega (arith, counted))).same y

    numbers : HasNumbers side g on r own
    numbers = record { start = has.start; rows = record { low_low = has.rows.low_low; low_high = has.rows.low_high; high_low = has.rows.high_low; high_high = has.rows.high_high }; target = has.target; controls = own_controls; rooted = has.rooted }

    both : cond (all_true (map (place_on side) g.extra) (bit x)) (mixed (mix_of own) v (bit x)) (elsewhere t.rooted (v (bit x))) ≡ mixed (mix_of t) v (bit x)
    both =
        let y = bit x in
        let s = sum_of (times_entry ((mix_of t).rows (y t.target) false) (v (put y t.target false))) (times_entry ((mix_of t).rows (y t.target) true) (v (put y t.target true))) in
        joined (all_true (map (place_on side) g.extra) y) (all_true (true_places 0 own.controls) y) s (elsewhere t.rooted (v y))
        ∙ ap (λ b. cond b s (elsewhere t.rooted (v y))) (ap (λ b. all_true (map (place_on side) g.extra) y && b) (own_controls y) ∙ sym (all_true-append (map (place_on side) g.extra) firsts y) ∙ sym (has.controls y))

-- the same of an exchange
pub record HasFurtherPair (side : Side) (g : Gate) (e : Exchange) : Type 0 where
  pub first : e.first ≡ get_or (map (place_on side) g.on) (arity_of g.kind - 2) 0
  pub second : e.second ≡ get_or (map (place_on side) g.on) (arity_of g.kind - 2 + 1) 0
  pub controls : (x : Assignment) → all_true e.controls x ≡ all_true (map (place_on side) g.extra ++ take (arity_of g.kind - 2) (map (place_on side) g.on)) x

pub further-exchanged : (side : Side) (g : Gate) (e : Exchange) (v : Vector) (x : List Bool) → length g.on ≡ arity_of g.kind → exchanges g.kind ≡ true
    → HasFurtherPair side g e → e.first ≢ e.second → e.first < length x → e.second < length x → gate_on side g (λ y. v (bit y)) x ≡ exchanged e v (bit x)
unfolding exchanged
further-exchanged side g e v x count two has ne first second =
    further side g (λ y. v (bit y)) x count
    ∙ ap (λ a. cond (all_true (map (place_on side) g.extra) (bit x)) a (times_entry (beside g.kind) (v (bit x)))) (exchange-applied side g on own v x counted two numbers ne first second)
    ∙ ap (λ a. cond (all_true (map (place_on side) g.extra) (bit x)) (exchanged own v (bit x)) a) (beside_times g.kind (v (bit x)) ∙ ap (λ b. elsewhere b (v (bit x))) (exchange_beside g.kind two))
    ∙ both
  where
    on : List ℕ
    on = map (place_on side) g.on

    own : Exchange
    own = record e { controls = take (arity_of g.kind - 2) on }

    counted : length on ≡ arity_of g.kind
    counted = length-map g.on (place_on side) ∙ count

    numbers : HasPair g on own
    numbers = record { first = has.first; second = has.second; controls = λ y. refl }

    both : cond (all_true (map (place_on side) g.extra) (bit x)) (exchanged own v (bit x)) (v (bit x)) ≡ exchanged e v (bit x)
    both =
        let y = bit x in
        let s = v (put (put y e.second (y e.first)) e.first (y e.second)) in
        joined (all_true (map (place_on side) g.extra) y) (all_true own.controls y) s (v y)
        ∙ ap (λ b. cond b s (v y)) (sym (all_true-append (map (place_on side) g.extra) own.controls y) ∙ sym (has.controls y))
