-- The texts that a run writes, as bytes.
use Rattle.std.specs.Prelude.{ℕ, Bool, List, [], ◌++◌, codes, decimal}
use Rattle.std.specs.Fmt.{signed_decimal}
use Rattle.ring_omega.specs.declared.quad.Quad.{Quad}
use Rattle.ring_omega.specs.declared.weight.Weight.{Weight}
use Rattle.ring_omega.specs.Lowest.{lowest_form}
use Rattle.bit_lists.specs.Lists.{bits_text}
use Rattle.amp_printer.specs.declared.counted.Counted.{Counted}
use Rattle.amp_printer.specs.declared.counted.Counted.TheVariants.{Qubits, States, Measured, Outcomes, Gates, Exponent, Shots}

-- the number q/√2^k: `(a,b,c,d)/sqrt2^k`
unfoldable pub entry_text : Quad → ℕ → List ℕ
entry_text q k =
    codes "(" ++ signed_decimal q.a ++ codes "," ++ signed_decimal q.b ++ codes "," ++ signed_decimal q.c ++ codes "," ++ signed_decimal q.d
    ++ codes ")/sqrt2^" ++ decimal k

-- the basis state x with the amplitude q/√2^k: `|BITS> ENTRY` and a line feed
unfoldable pub state_line : List Bool → Quad → ℕ → List ℕ
state_line x q k = codes "|" ++ bits_text x ++ codes "> " ++ entry_text q k ++ codes "\n"

-- the basis state x with the lowest form of the amplitude q/√2^k
abbrev pub lowest_line : List Bool → Quad → ℕ → List ℕ
lowest_line x q k = state_line x (lowest_form q k).0 (lowest_form q k).1

-- the outcome x with the probability w over the k-th power of 2: `BITS (A,B)/2^k` and a line feed
unfoldable pub weight_line : List Bool → Weight → ℕ → List ℕ
weight_line x w k = bits_text x ++ codes " (" ++ signed_decimal w.a ++ codes "," ++ signed_decimal w.b ++ codes ")/2^" ++ decimal k ++ codes "\n"

-- an outcome that was drawn: its bits and a line feed
unfoldable pub outcome_text : List Bool → List ℕ
outcome_text y = bits_text y ++ codes "\n"

-- the fidelity w over the k-th power of 2: `fidelity (A,B)/2^k` and a line feed
unfoldable pub fidelity_text : Weight → ℕ → List ℕ
fidelity_text w k = codes "fidelity" ++ weight_line [] w k

abbrev pub word_of : Counted → List ℕ
word_of Qubits = codes "qubits"
word_of States = codes "states"
word_of Measured = codes "measured"
word_of Outcomes = codes "outcomes"
word_of Gates = codes "gates"
word_of Exponent = codes "exponent"
word_of Shots = codes "shots"

-- the count n: its word, the number and a line feed
unfoldable pub count_line : Counted → ℕ → List ℕ
count_line word n = word_of word ++ codes " " ++ decimal n ++ codes "\n"
