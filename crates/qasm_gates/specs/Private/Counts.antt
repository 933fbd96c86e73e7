-- What calls come to, as functions: how often a gate of which kind, and how many gates there are.
use Rattle.std.specs.Prelude.{ℕ, ◌+◌, ◌-◌, cond, nat_eq, nat_le, min, List, [], ◌∷◌, ◌++◌, map, flat_map, Option, Some, None, option_map, unwrap_or, Result, Ok, Err, Vec, pos, ◌*ℤ◌, int_div, int_rem, unsigned_abs}
use Rattle.std.specs.Global.{Global}
use Rattle.std.specs.Int.{int_rem_euclid}
use Rattle.std.specs.Result.{result_map_both}
use Rattle.gate_set.specs.declared.kind.Kind.{Kind}
use Rattle.gate_set.specs.declared.kind.Kind.TheVariants.{Id, Phase}
use Rattle.qasm_lex.specs.declared.value.Value.{Value}
use Rattle.qasm_lex.specs.declared.params.Bound.{Bound}
use Rattle.qasm_lex.specs.declared.refusal.AngleRefusal.{AngleRefusal}
use Rattle.qasm_lex.specs.Fractions.{Ratio}
use Rattle.qasm_lex.specs.Values.{multiple_of}
use Rattle.qasm_lex.specs.Angles.{given_by}
use Rattle.qasm_gates.specs.Gates.{Item, Base, gate, turn, phase, Builtin, Basic, Meaning, all_of, item_on}
use Rattle.qasm_gates.specs.Private.Seen.{items_of}

-- the number m below 8 for which k times the fraction is m, but for a multiple of 8, or None
unfoldable pub whole_turns : ℕ → Ratio → Option ℕ
whole_turns k q = cond (nat_eq (unsigned_abs (int_rem (q.num *ℤ pos k) q.den)) 0) (Some (unsigned_abs (int_rem_euclid (int_div (q.num *ℤ pos k) q.den) (pos 8)))) None

-- how m quarter turns are done: by how many of which kind
abbrev pub turn_body : Kind → Kind → ℕ → Kind × ℕ
turn_body forth back m = cond (nat_eq m 0) (Id, 1) (cond (nat_le m 4) (forth, m) (back, 8 - m))

abbrev pub phase_body : ℕ → Kind × ℕ
phase_body m = (Phase m, 1)

-- how often a gate of which kind a call of a built-in gate comes to, or None off its grid
abbrev pub body_of : Base → List Ratio → Option (Kind × ℕ)
body_of (gate kind) [] = Some (kind, 1)
body_of (turn forth back) (q ∷ []) = option_map (turn_body forth back) (whole_turns 2 q)
body_of phase (q ∷ []) = option_map phase_body (whole_turns 4 q)
body_of _ _ = None

-- by the values of its angles, of which one may be refused
abbrev pub body_for : Base → Result (List Ratio) AngleRefusal → Result (Option (Kind × ℕ)) AngleRefusal
body_for base angles = result_map_both (body_of base) (λ e. e) angles

abbrev pub multiples : List Value → Result (List Ratio) AngleRefusal
multiples values = all_of (map (λ v. multiple_of (Ok v)) values)

-- how many gates a call of a built-in gate comes to
abbrev pub gate_count : Builtin → List Ratio → Option ℕ
gate_count b angles = option_map (λ p. p.1) (body_of b.base angles)

-- how many gates there are, None where an angle is off its grid, or the first refusal
abbrev pub Tally : Type 0
Tally = Result (Option ℕ) AngleRefusal

abbrev pub both_counts : Option ℕ → Option ℕ → Option ℕ
both_counts (Some m) (Some n) = Some (m + n)
both_counts _ _ = None

abbrev pub count_of : List Basic → Option ℕ
count_of [] = Some 0
count_of (c ∷ calls) = both_counts (gate_count c.gate c.angles) (count_of calls)

abbrev pub tally : Meaning → Tally
tally (Ok calls) = Ok (count_of calls)
tally (Err e) = Err e

abbrev pub added : Tally → Tally → Tally
added (Ok m) (Ok n) = Ok (both_counts m n)
added (Ok m) (Err e) = Err e
added (Err e) n = Err e

-- more gates than a circuit may have
abbrev pub many : ℕ
many = 1000001

-- counted up to many
abbrev pub capped : Tally → Tally
capped (Ok n) = Ok (option_map (λ k. min k many) n)
capped (Err e) = Err e

-- the gates of a call of a built-in gate: none off its grid
abbrev pub basic_items : Basic → List Item
basic_items c = map (item_on c.on) (unwrap_or (option_map (items_of c.gate.controls) (body_of c.gate.base c.angles)) [])

-- the gates of calls
abbrev pub items_done : List Basic → List Item
items_done calls = flat_map basic_items calls

-- values of angles, or the first refusal, as the definitions have them
abbrev pub seen_values : Result (Vec Bound Global) AngleRefusal → Result (List Value) AngleRefusal
seen_values v = result_map_both (λ b. given_by b.items) (λ e. e) v

-- values, and then those of others that may be refused
abbrev pub after : List Value → Result (List Value) AngleRefusal → Result (List Value) AngleRefusal
after values (Ok more) = Ok (values ++ more)
after values (Err e) = Err e
