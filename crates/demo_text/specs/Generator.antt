-- The circuit text that `demo` makes of a number of qubits, a number of gates and a seed.
use Prim.Native.Char.{code}
use Rattle.std.specs.Prelude.{ℕ, suc, zero, ◌+◌, ◌*◌, ◌/◌, ◌%◌, ◌^◌, ◌==◌, cond, nat_lt, List, [], ◌∷◌, ◌++◌, map, flat_map, length, get_or, min, codes, decimal}
use Rattle.std.specs.Fn.{iterate}
use Rattle.std.specs.List.{range_with_len, remove, join_with_byte}

-- the state after a draw, of a linear congruential generator
unfoldable pub next : ℕ → ℕ
next s = (s * 6364136223846793005 + 1442695040888963407) % 2 ^ 64

-- what is drawn from the numbers below m
unfoldable pub drawn : ℕ → ℕ → ℕ
drawn m s = next s / 2 ^ 33 % m

-- the names of the gates: eight of one qubit, three of two, and two of three
abbrev pub names : List (List ℕ)
names = codes "id" ∷ codes "x" ∷ codes "y" ∷ codes "z" ∷ codes "s" ∷ codes "sdg" ∷ codes "t" ∷ codes "tdg" ∷ codes "cx" ∷ codes "cz" ∷ codes "swap" ∷ codes "ccx" ∷ codes "cswap" ∷ []

-- the name of this number
unfoldable pub name_at : ℕ → List ℕ
name_at k = get_or names k []

-- on how many qubits the gate of this name acts
abbrev pub arity : ℕ → ℕ
arity k = cond (nat_lt k 8) 1 (cond (nat_lt k 11) 2 3)

-- how many of the names may be drawn
abbrev pub kinds : ℕ → ℕ
kinds q = cond (q == 1) 8 (cond (q == 2) 11 13)

-- so many qubits, each drawn from the rising list of those that are left
unfoldable pub qubits_drawn : ℕ → List ℕ → ℕ → List ℕ
qubits_drawn zero free s = []
qubits_drawn (suc n) free s = get_or free (drawn (length free) s) 0 ∷ qubits_drawn n (remove free (drawn (length free) s)) (next s)

-- a gate call: the gate's name, and the qubits on which it acts
pub record Call : Type 0 where
  pub name : List ℕ
  pub on : List ℕ

-- the call of a name on qubits
abbrev pub call : List ℕ → List ℕ → Call
call name on = record { name = name; on = on }

-- the call that is drawn: first its name, then its qubits
unfoldable pub call_drawn : ℕ → ℕ → Call
call_drawn q s = call (name_at (drawn (kinds q) s)) (qubits_drawn (arity (drawn (kinds q) s)) (range_with_len 0 q) (next s))

-- the state after a call
unfoldable pub after_call : ℕ → ℕ → ℕ
after_call q s = iterate next (arity (drawn (kinds q) s)) (next s)

-- so many calls, one after the other
unfoldable pub calls_drawn : ℕ → ℕ → ℕ → List Call
calls_drawn q zero s = []
calls_drawn q (suc n) s = call_drawn q s ∷ calls_drawn q n (after_call q s)

-- `q[I]`
unfoldable pub place_text : ℕ → List ℕ
place_text i = codes "q[" ++ (decimal i ++ codes "]")

-- the places with a comma between two
unfoldable pub places_text : List ℕ → List ℕ
places_text is = join_with_byte (code ",") (map place_text is)

-- a line of one gate call
unfoldable pub line : Call → List ℕ
line c = c.name ++ (codes " " ++ (places_text c.on ++ codes ";\n"))

-- a Hadamard gate on each of the first qubits, at most four
abbrev pub first_calls : ℕ → List Call
first_calls q = map (λ i. call (codes "h") (i ∷ [])) (range_with_len 0 (min q 4))

-- the calls of the text: the Hadamard gates, and then those that are drawn
abbrev pub demo_calls : ℕ → ℕ → ℕ → List Call
demo_calls q n seed = first_calls q ++ calls_drawn q n seed

-- the version, the include and the register
unfoldable pub head_text : ℕ → List ℕ
head_text q = codes "OPENQASM 2.0;\ninclude \"qelib1.inc\";\nqreg q[" ++ (decimal q ++ codes "];\n")

-- the text of q qubits, n gates and a seed
unfoldable pub demo_text : ℕ → ℕ → ℕ → List ℕ
demo_text q n seed = head_text q ++ flat_map line (demo_calls q n seed)
