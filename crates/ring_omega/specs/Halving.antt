-- Words that only the clauses of private functions cite: weights that are twice a weight.
use Rattle.std.specs.Prelude.{◌≡◌, ◌+ℤ◌}
use Rattle.ring_omega.specs.declared.weight.Weight.{Weight}
use Rattle.ring_omega.specs.Weights.{weight}

abbrev pub twice : Weight → Weight
twice w = weight (w.a +ℤ w.a) (w.b +ℤ w.b)

abbrev pub IsDouble : Weight → Type 0
IsDouble w = (half : Weight) × (w ≡ twice half)
