-- A connective of three functions, by its table of eight bits.
use Rattle.std.specs.Prelude.{ℕ, ◌+◌, ◌*◌, ◌/◌, ◌%◌, ◌^◌, Bool, cond, ◌==◌}
use Rattle.diagram_model.specs.Functions.{Function}

-- bit 4f + 2g + h of the table
abbrev pub table_bit : ℕ → ℕ → ℕ → ℕ → ℕ
table_bit t f g h = t / 2 ^ (4 * f + 2 * g + h) % 2

-- a truth value as a number: 1 for true, 0 for false
abbrev pub number : Bool → ℕ
number b = cond b 1 0

-- the truth value that a table gives for three truth values
unfoldable pub connective : ℕ → Bool → Bool → Bool → Bool
connective t a b c = table_bit t (number a) (number b) (number c) == 1

-- the connective of three functions
unfoldable pub connected : ℕ → Function → Function → Function → Function
connected t f g h = λ x. connective t (f x) (g x) (h x)
