-- The code's types as the definitions have them.
use Rattle.std.specs.Prelude.{ℕ, List, map, Result}
use Rattle.std.specs.Result.{result_map_both}
use Rattle.std.specs.Borrow.{Bor}
use Rattle.qasm_reader.specs.declared.registers.Register.{Register as Row}
use Rattle.qasm_reader.specs.declared.registers.Target.{Target as Place}
use Rattle.qasm_reader.specs.declared.registers.Miss.{Miss}
use Rattle.qasm_reader.specs.Acts.{Register, Target, place_in}

abbrev pub seen_register : Row → Register
seen_register r = record { quantum = r.quantum; first = r.first; size = r.size }

abbrev pub seen_target : Place → Target
seen_target t = place_in (seen_register t.register) t.index

abbrev pub seen_targets : List Place → List Target
seen_targets ts = map seen_target ts

abbrev pub seen_find : Result Place Miss → Result Target Miss
seen_find t = result_map_both seen_target (λ m. m) t

abbrev pub seen_both : Result (Place × Place) Miss → Result (Target × Target) Miss
seen_both ts = result_map_both (λ p. (seen_target p.0, seen_target p.1)) (λ m. m) ts

-- an entry of the map of registers
abbrev pub entry_of : Bor (List ℕ) × Row → List ℕ × Register
entry_of p = (p.0.now, seen_register p.1)
