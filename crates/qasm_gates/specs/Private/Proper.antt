-- Calls of built-in gates that are on different arguments, as many as each asks for.
use Rattle.std.specs.Prelude.{◌≡◌, ◌≢◌, ◌<◌, ℕ, List, [], length, All, AllPairs, Some, Ok, Err, pos, ◌≤ℤ◌}
use Rattle.std.specs.List.{AllByRecursion}
use Rattle.qasm_lex.specs.declared.value.Value.{Value}
use Rattle.qasm_gates.specs.Gates.{Item, builtin, arity, Basic, Meaning, Named}
use Rattle.qasm_gates.specs.Private.Counts.{items_done}

-- the gate has a name; it is on as many different ones of n arguments as it asks for
pub record IsProper (n : ℕ) (c : Basic) : Type 0 where
  pub named : (name : List ℕ) × (builtin name ≡ Some c.gate)
  pub counted : length c.on ≡ arity c.gate
  pub below : All (λ k. k < n) c.on
  pub different : AllPairs (λ p q. p ≢ q) c.on

abbrev pub AreProper : ℕ → List Basic → Type 0
AreProper n basics = All (IsProper n) basics

-- what the gate means is proper
abbrev pub IsGood : Named → Type 0
IsGood g = (vs : List Value) (basics : List Basic) → g.means vs ≡ Ok basics → AreProper g.arity basics

-- both fractions of a value have positive denominators
abbrev pub IsPositive : Value → Type 0
IsPositive v = (pos 1 ≤ℤ v.u.den) × (pos 1 ≤ℤ v.v.den)

-- the angles of a call have positive denominators
abbrev pub HasPositive : Basic → Type 0
HasPositive c = AllByRecursion (λ q. pos 1 ≤ℤ q.den) c.angles

-- for values with positive denominators the gate means calls with such angles
abbrev pub GivesPositive : Named → Type 0
GivesPositive g = (vs : List Value) (basics : List Basic) → AllByRecursion IsPositive vs → g.means vs ≡ Ok basics → AllByRecursion HasPositive basics

-- what the gate means is proper, with positive denominators
pub record IsSound (g : Named) : Type 0 where
  pub good : IsGood g
  pub positive : GivesPositive g

-- n different qubits below 64
pub record AreQubits (n : ℕ) (on : List ℕ) : Type 0 where
  pub counted : length on ≡ n
  pub small : All (λ q. q < 64) on
  pub different : AllPairs (λ p q. p ≢ q) on

-- no angle is refused
abbrev pub IsMeant : Meaning → Type 0
IsMeant m = (basics : List Basic) × (m ≡ Ok basics)

-- the gates of what is meant
abbrev pub done_in : Meaning → List Item
done_in (Ok basics) = items_done basics
done_in (Err e) = []
