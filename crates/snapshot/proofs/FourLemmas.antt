-- Four integers, one by one; and the least width that a vector fits.
use Rattle.std.proofs.Common.{ℕ, ◌-◌, ◌≤◌, inl, inr, arith}
use Rattle.std.proofs.lemmas.Bool.{cases_lt}
use Rattle.diagram_model.specs.Stores.{Diagram}
use Rattle.slice_vec.specs.Slices.{AreEven, AreWithin}
use Rattle.slice_vec.proofs.Ranges.{range-wider}
use Rattle.slice_quad.specs.declared.coord.Coord.TheVariants.{A, B, C, D}
use Rattle.slice_quad.specs.declared.four.Four.{Four}
use Rattle.slice_quad.specs.Mix.{Vector}
use Rattle.slice_quad.specs.Turns.{coordinate}
use Rattle.slice_quad.specs.Vectors.{FitsWidth, vector_in}
use Rattle.snapshot.specs.Snapshots.{AllEven}

pub four_fits_all : (d : Diagram) (f : Four) (w : ℕ) → AreWithin d w f.a → AreWithin d w f.b → AreWithin d w f.c → AreWithin d w f.d → FitsWidth w (vector_in d f)
four_fits_all d f w a b c e A x = a x
four_fits_all d f w a b c e B x = b x
four_fits_all d f w a b c e C x = c x
four_fits_all d f w a b c e D x = e x

pub four_even_all : (d : Diagram) (f : Four) → AreEven d f.a → AreEven d f.b → AreEven d f.c → AreEven d f.d → AllEven (vector_in d f)
four_even_all d f a b c e A x = a x
four_even_all d f a b c e B x = b x
four_even_all d f a b c e C x = c x
four_even_all d f a b c e D x = e x

wider : (v : Vector) (m k : ℕ) → m ≤ k → FitsWidth m v → FitsWidth k v
wider v m k le fits z x =
    let r = range-wider (m - 1) (k - 1) (coordinate z (v x)) (omega (arith, le)) (record { low = (fits z x).low; high = (fits z x).high }) in
    record { low = r.low; high = r.high }

-- where a width less one doesn't do, no smaller one does
pub narrow_from : (v : Vector) (k w : ℕ) → (FitsWidth (k - 1) v → ⊥) → FitsWidth w v → k ≤ w
narrow_from v k w not fits =
    elim (cases_lt w k) [
      | inl lt ↦ absurd (not (wider v w (k - 1) (omega (arith, lt)) fits))
      | inr le ↦ le
    ]
