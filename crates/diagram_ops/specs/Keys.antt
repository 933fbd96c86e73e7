-- The operands under which the answer of a connective is kept.
use Rattle.std.specs.Prelude.{ℕ, Bool, cond, ◌||◌, ◌==◌, min, max}
use Rattle.diagram_ops.specs.declared.operands.Operands.{Operands}

-- whether a table is that of the exclusive or or of the majority of three, which read their operands in any
-- order
abbrev pub is_symmetric : ℕ → Bool
is_symmetric t = t == 150 || t == 232

-- three operands from the least to the greatest
abbrev pub sorted : Operands → Operands
sorted at = record {
  f = min (min at.f at.g) at.h;
  g = max (min at.f at.g) (min (max at.f at.g) at.h);
  h = max (max at.f at.g) at.h;
}

-- the operands under which a table's answer is kept: sorted where it reads them in any order
abbrev pub keyed : ℕ → Operands → Operands
keyed t at = cond (is_symmetric t) (sorted at) at
