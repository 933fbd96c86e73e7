-- Entries by lists of bits, and which of them are zero.
use Rattle.std.specs.Prelude.{◌≡◌, ◌≢◌, ℕ, ◌+◌, ◌<◌, ◌≤◌, pos, Bool, true, false, List, length, Option, slice_set}
use Rattle.bit_lists.specs.Partials.{agrees}
use Rattle.diagram_model.specs.Functions.{bit}
use Rattle.diagram_model.specs.Stores.{Diagram}
use Rattle.ring_omega.specs.declared.quad.Quad.{Quad}
use Rattle.ring_omega.specs.Ring.{zero_quad}
use Rattle.slice_vec.specs.Slices.{value_at}
use Rattle.slice_quad.specs.declared.four.Four.{Four}
use Rattle.slice_quad.specs.declared.walk.Branch.{Branch}
use Rattle.slice_quad.specs.Vectors.{vector_in}

-- an entry for each list of bits
abbrev pub Entries : Type 0
Entries = List Bool → Quad

-- the entry at a list, where bit v is the value of variable v
unfoldable pub entries_in : Diagram → Four → Entries
entries_in d q x = vector_in d q (bit x)

-- the integer isn't 0 at some list that agrees with p
pub record IsNonzeroWithin (d : Diagram) (p : List (Option Bool)) (ns : List ℕ) : Type 0 where
  pub at : List Bool
  pub long : length at ≡ length d.order
  pub agreeing : agrees p at ≡ true
  pub nonzero : value_at d ns (bit at) ≢ pos 0

-- the integer is 0 at each list that agrees with p
abbrev pub IsZeroWithin : Diagram → List (Option Bool) → List ℕ → Type 0
IsZeroWithin d p ns = (x : List Bool) → length x ≡ length d.order → agrees p x ≡ true → value_at d ns (bit x) ≡ pos 0

-- the first k bits are the same
abbrev pub Shares : ℕ → List Bool → List Bool → Type 0
Shares k x y = (i : ℕ) → i < k → bit x i ≡ bit y i

-- some entry isn't zero whose first k bits are those of x
pub record IsNonzeroFrom (n : ℕ) (v : Entries) (k : ℕ) (x : List Bool) : Type 0 where
  pub at : List Bool
  pub long : length at ≡ n
  pub shares : Shares k at x
  pub nonzero : v at ≢ zero_quad

-- all entries are zero whose first k bits are those of x
abbrev pub AreZeroFrom : ℕ → Entries → ℕ → List Bool → Type 0
AreZeroFrom n v k x = (y : List Bool) → length y ≡ n → Shares k y x → v y ≡ zero_quad

-- x and y differ at the place i first, and x has 0 there
pub record IsBeforeAt (i : ℕ) (x y : List Bool) : Type 0 where
  pub same : Shares i x y
  pub low : bit x i ≡ false
  pub high : bit y i ≡ true

-- r is the first list whose first k bits are those of x and whose entry isn't zero
pub record IsLeastFrom (n : ℕ) (v : Entries) (k : ℕ) (x r : List Bool) : Type 0 where
  pub long : length r ≡ n
  pub shares : Shares k r x
  pub nonzero : v r ≢ zero_quad
  pub first : (y : List Bool) (i : ℕ) → length y ≡ n → Shares k y x → i < n → IsBeforeAt i y r → v y ≡ zero_quad

-- all entries after x are zero whose first k bits are those of x
abbrev pub AreZeroBeyond : ℕ → Entries → List Bool → ℕ → Type 0
AreZeroBeyond n v x k = (y : List Bool) (i : ℕ) → length y ≡ n → k ≤ i → i < n → IsBeforeAt i x y → v y ≡ zero_quad

-- x has 0 at the place, some entry isn't zero that has 1 there and shares the bits before it, and none
-- after x that differs from x behind the place
pub record IsBranch (n : ℕ) (v : Entries) (x : List Bool) (b : Branch) : Type 0 where
  pub within : b.place < n
  pub long : length b.at ≡ n
  pub low : bit x b.place ≡ false
  pub is : b.at ≡ slice_set x b.place true
  pub some : IsNonzeroFrom n v (b.place + 1) b.at
  pub rest : AreZeroBeyond n v x (b.place + 1)
