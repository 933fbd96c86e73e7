-- Shots: outcomes that are drawn one after another, and what is written of them.
use Rattle.std.specs.Prelude.{ℕ, ◌+◌, ◌*◌, Bool, List, ◌++◌, flat_map}
use Rattle.std.specs.List.{range_with_len}
use Rattle.ring_omega.specs.declared.quad.Quad.{Quad}
use Rattle.amp_printer.specs.declared.counted.Counted.TheVariants.{Shots}
use Rattle.amp_printer.specs.Texts.{outcome_text, count_line}
use Rattle.probabilities.specs.Outcomes.{measured_count}
use Rattle.sampler.specs.Draws.{drawn}

-- the line of shot s: the outcome that its words draw. With m measured qubits these are the m words from number s·m on
abbrev pub shot_line : List Bool → (ℕ → ℕ) → (List Bool → Quad) → ℕ → List ℕ
shot_line measured words v s = outcome_text (drawn v (λ i. words (s * measured_count measured + i)) measured)

-- the lines of so many shots, from shot 0 on
abbrev pub shot_lines : List Bool → ℕ → (ℕ → ℕ) → (List Bool → Quad) → List ℕ
shot_lines measured shots words v = flat_map (shot_line measured words v) (range_with_len 0 shots)

-- what is written of a vector of which these qubits are measured in so many shots
unfoldable pub shots_output : List Bool → ℕ → (ℕ → ℕ) → (List Bool → Quad) → List ℕ
shots_output measured shots words v = shot_lines measured shots words v ++ count_line Shots shots
