-- Connectives as operations.
use Rattle.std.proofs.Common.{ℕ, inl, inr, refl, ◌∙◌, ap, arith, length}
use mathlib.Core.Path.{fun_ext}
use Rattle.diagram_model.specs.Functions.{Function, fix}
use Rattle.diagram_model.specs.Nodes.{value}
use Rattle.diagram_model.specs.Stores.{Diagram, IsSound, function_of}
use Rattle.diagram_model.proofs.Values.{value-small}
use Rattle.diagram_ops.specs.Connectives.{connected}
use Rattle.diagram_ops.specs.declared.operands.Operands.{Operands}
use Rattle.diagram_ops.specs.Operands.{AreLive}
use Rattle.diagram_ops.specs.Operations.{IsResult}
use Rattle.diagram_ops.specs.Short.{IsShort}
use Rattle.diagram_ops.proofs.Results.{Fixes}

-- a connective goes through each fixed variable
pub connected_fixes : (t v : ℕ) → Fixes (connected t) v
unfolding connected
connected_fixes t v = record {
  both = λ b f g h. refl;
  ignores = λ u f g h lf lg lh b.
      ap (λ (w : Function). connected t w (fix u b g) (fix u b h)) (lf b)
      ∙ ap (λ (w : Function). connected t f w (fix u b h)) (lg b)
      ∙ ap (λ (w : Function). connected t f g w) (lh b);
}

-- a short cut is the connective
pub short_result : (t : ℕ) (d : Diagram) (at : Operands) (n : ℕ) → IsSound d → AreLive d at → IsShort t at.f at.g at.h n → IsResult (connected t) d at n
unfolding connected function_of
short_result t d at n s live short =
    record {
      operands = live;
      live = elim short.one [
        | inl lt ↦ inl lt
        | inr more ↦ elim more [ inl e ↦ rw e live.0 | inr rest ↦ elim rest [ inl e ↦ rw e live.1 | inr e ↦ rw e live.2 ] ]
      ];
      below = λ w is above. elim short.one [
        | inl lt ↦ inl lt
        | inr more ↦ elim more [ inl e ↦ rw e above.0 | inr rest ↦ elim rest [ inl e ↦ rw e above.1 | inr e ↦ rw e above.2 ] ]
      ];
      denotes = fun_ext (λ x. short.right (λ m. value d.slots d.order x m) (record {
        at_false = value-small d.slots (length d.order) d.order 0 s.diagram (omega arith) x;
        at_true = value-small d.slots (length d.order) d.order 1 s.diagram (omega arith) x;
      }));
    }
