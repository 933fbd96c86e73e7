-- Registers by name, in the map and in the list.
use Rattle.std.proofs.Common.{◌≡◌, ◌∙◌, ap, refl, ℕ, Bool, true, false, cond, not, List, [], ◌∷◌, map, is_some, Option, Some, None, option_map}
use Rattle.std.specs.Str.{bytes_eq}
use Rattle.std.specs.Borrow.{Bor}
use Rattle.std.specs.Map.{lookup}
use Rattle.qasm_reader.specs.declared.registers.Register.{Register as Row}
use Rattle.qasm_reader.specs.Private.Seen.{seen_register, entry_of}

row_cond : (b : Bool) (r : Row) (x : Option Row) → option_map seen_register (cond b (Some r) x) ≡ cond b (Some (seen_register r)) (option_map seen_register x)
row_cond true r x = refl
row_cond false r x = refl

pub lookup_named : (name : List ℕ) (es : List (Bor (List ℕ) × Row)) → option_map seen_register (lookup (λ (k : Bor (List ℕ)). bytes_eq name k.now) es) ≡ lookup (bytes_eq name) (map entry_of es)
lookup_named name [] = refl
lookup_named name (e ∷ es) =
    row_cond (bytes_eq name e.0.now) e.1 (lookup (λ (k : Bor (List ℕ)). bytes_eq name k.now) es)
    ∙ ap (λ r. cond (bytes_eq name e.0.now) (Some (seen_register e.1)) r) (lookup_named name es)

-- whether there is a row
pub row_there : (x : Option Row) → is_some (option_map seen_register x) ≡ is_some x
row_there None = refl
row_there (Some r) = refl

pub no_row : (x : Option Row) → not (is_some x) ≡ true → x ≡ None
no_row None e = refl
no_row (Some r) e = absurd cc
