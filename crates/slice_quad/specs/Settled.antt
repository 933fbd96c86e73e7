-- A vector with shared factors of 2 taken out.
use Rattle.std.specs.Prelude.{◌≡◌, ℕ, zero, suc, ◌+◌, ◌*◌, ◌<◌, ◌≤◌, ℤ, ◌+ℤ◌, length, max}
use Rattle.diagram_model.specs.Functions.{Assignment}
use Rattle.diagram_model.specs.Stores.{Diagram}
use Rattle.slice_vec.specs.Slices.{StandsIn, AreEven, IsSame, value_at}
use Rattle.slice_quad.specs.declared.coord.Coord.{Coord}
use Rattle.slice_quad.specs.declared.four.Four.{Four}
use Rattle.slice_quad.specs.Turns.{coordinate}
use Rattle.slice_quad.specs.Mix.{Vector}
use Rattle.slice_quad.specs.Fours.{nodes_of}

-- each of the four has some bit
abbrev pub HasBits : Four → Type 0
HasBits f = (z : Coord) → 0 < length (nodes_of f z)

-- how many bits the widest of the four has
abbrev pub widest : Four → ℕ
widest f = max (max (length f.a) (length f.b)) (max (length f.c) (length f.d))

-- the four have the values of the others
abbrev pub AreSame : Diagram → Four → Four → Type 0
AreSame d f g = (z : Coord) → IsSame d (nodes_of f z) (nodes_of g z)

-- twice, t times
unfoldable pub doubled : ℕ → ℤ → ℤ
doubled zero n = n
doubled (suc t) n = doubled t (n +ℤ n)

-- f stands for twice g
pub record AreDoubles (d : Diagram) (f g : Four) : Type 0 where
  pub stands : (z : Coord) → StandsIn d (nodes_of g z)
  pub values : (z : Coord) (x : Assignment) → value_at d (nodes_of f z) x ≡ value_at d (nodes_of g z) x +ℤ value_at d (nodes_of g z) x

-- v over √2 to the power k is f over √2 to the power j: a factor of 2 was taken out several times, each of which lowers the power by 2
pub record IsHalfway (d : Diagram) (v : Vector) (k : ℕ) (f : Four) (j : ℕ) : Type 0 where
  pub times : ℕ
  pub exponent : k ≡ j + 2 * times
  pub stands : (z : Coord) → StandsIn d (nodes_of f z)
  pub values : (z : Coord) (x : Assignment) → coordinate z (v x) ≡ doubled times (value_at d (nodes_of f z) x)

-- and none is left that could be
pub record IsSettled (d : Diagram) (v : Vector) (k : ℕ) (f : Four) (j : ℕ) : Type 0 where
  pub halfway : IsHalfway d v k f j
  pub ended : 2 ≤ j → ((z : Coord) → AreEven d (nodes_of f z)) → ⊥
