-- The bits of positions and the variables that stand for them.
use Rattle.std.proofs.Common.{◌≡◌, ◌≢◌, ◌⊎◌, ℕ, zero, suc, ◌+◌, ◌-◌, ◌*◌, ◌<◌, ◌≤◌, Bool, true, false, cond, List, ◌∷◌, take, drop, length, Option, Some, None, get_or, set, replicate, inl, inr, refl, sym, ◌∙◌, ap, arith}
use Rattle.std.proofs.lemmas.Bool.{cases_eq, lt-ltb, le-ltb}
use Rattle.std.proofs.lemmas.List.{get_or-take, get_or-drop, get_or-set_same, get_or-set_other, length-set, length-take-le, length-drop, length-replicate}
use Rattle.bit_lists.specs.Partials.{fits, agrees}
use Rattle.bit_lists.proofs.Partials.{agrees_at, agrees_all}
use Rattle.diagram_model.specs.Functions.{bit}
use Rattle.slice_vec.proofs.Bits.{lt_or_le}
use Rattle.slice_quad.specs.Walks.{Shares}
use Rattle.slice_quad.proofs.Walking.{ext_bits}
use Rattle.slice_gates.specs.Sides.{woven}
use Rattle.slice_gates.proofs.Weaving.{row_get, column_get}
use Rattle.slice_gates.proofs.Moved.{length-woven, rewoven-covers}
use Rattle.equivalence.specs.Positions.{variable_at, in_turns, AreFixed}

-- ---- the variable of a bit
pub variable_row : (n i : ℕ) → i < n → variable_at n i ≡ 2 * i
variable_row n i less = ap (λ b. cond b (2 * i) (2 * (i - n) + 1)) (lt-ltb i n less)

pub variable_column : (n i : ℕ) → n ≤ i → variable_at n i ≡ 2 * (i - n) + 1
variable_column n i le = ap (λ b. cond b (2 * i) (2 * (i - n) + 1)) (le-ltb i n le)

pub variable_within : (n i : ℕ) → i < n + n → variable_at n i < n + n
variable_within n i within = elim (lt_or_le i n) [
  | inl less ↦ (let e = variable_row n i less in omega (arith, e, less))
  | inr le ↦ (let e = variable_column n i le in omega (arith, e, le, within))
]

-- different bits have different variables
pub variable_once : (n i j : ℕ) → variable_at n i ≡ variable_at n j → i ≡ j
variable_once n i j e = elim (lt_or_le i n) [
  | inl less ↦ elim (lt_or_le j n) [
    | inl under ↦ (let a = variable_row n i less in let b = variable_row n j under in omega (arith, a, b, e))
    | inr beyond ↦ (let a = variable_row n i less in let b = variable_column n j beyond in absurd (omega (arith, a, b, e)))
  ]
  | inr le ↦ elim (lt_or_le j n) [
    | inl under ↦ (let a = variable_column n i le in let b = variable_row n j under in absurd (omega (arith, a, b, e)))
    | inr beyond ↦ (let a = variable_column n i le in let b = variable_column n j beyond in omega (arith, a, b, e, le, beyond))
  ]
]

-- each variable stands for a bit
pub record StandsFor (n v : ℕ) : Type 0 where
  pub place : ℕ
  pub within : place < n + n
  pub is : variable_at n place ≡ v

pub stands_for : (n v : ℕ) → v < n + n → StandsFor n v
stands_for n v within = by (halved v)
  where
    halved : (m : ℕ) → (h : ℕ) × ((m ≡ 2 * h) ⊎ (m ≡ 2 * h + 1))
    halved zero = (0, inl refl)
    halved (suc zero) = (0, inr refl)
    halved (suc (suc m)) = let r = halved m in (suc r.0, elim r.1 [ inl e ↦ inl (omega (arith, e)) | inr e ↦ inr (omega (arith, e)) ])

    by : (h : ℕ) × ((v ≡ 2 * h) ⊎ (v ≡ 2 * h + 1)) → StandsFor n v
    by r = elim r.1 [
      | inl e ↦ record { place = r.0; within = omega (arith, e, within); is = variable_row n r.0 (omega (arith, e, within)) ∙ sym e }
      | inr e ↦ record {
        place = n + r.0;
        within = omega (arith, e, within);
        is = variable_column n (n + r.0) (omega arith) ∙ (let f : 2 * (n + r.0 - n) + 1 ≡ v = omega (arith, e) in f);
      }
    ]

-- ---- a position by its variables
pub row_long : (n : ℕ) (x : List Bool) → length x ≡ n + n → length (take n x) ≡ n
row_long n x len = length-take-le n x (omega (arith, len))

pub column_long : (n : ℕ) (x : List Bool) → length x ≡ n + n → length (drop n x) ≡ n
column_long n x len = length-drop n x ∙ omega (arith, len)

pub turns_long : (n : ℕ) (x : List Bool) → length x ≡ n + n → length (in_turns n x) ≡ n + n
turns_long n x len =
    let r = row_long n x len in
    let w = length-woven (take n x) (drop n x) (r ∙ sym (column_long n x len)) in
    omega (arith, r, w)

pub bit_in_turns : (n : ℕ) (x : List Bool) (i : ℕ) → length x ≡ n + n → bit (in_turns n x) (variable_at n i) ≡ bit x i
bit_in_turns n x i len =
    let same : length (take n x) ≡ length (drop n x) = row_long n x len ∙ sym (column_long n x len) in
    elim (lt_or_le i n) [
      | inl less ↦ ap (bit (in_turns n x)) (variable_row n i less) ∙ row_get (take n x) (drop n x) i same ∙ get_or-take n x i false less
      | inr le ↦
          ap (bit (in_turns n x)) (variable_column n i le) ∙ column_get (take n x) (drop n x) (i - n) same ∙ get_or-drop n x (i - n) false
          ∙ ap (bit x) (let e : n + (i - n) ≡ i = omega (arith, le) in e)
    ]

-- each list of values is that of a position
pub record IsSeen (n : ℕ) (z : List Bool) : Type 0 where
  pub at : List Bool
  pub long : length at ≡ n + n
  pub is : in_turns n at ≡ z

pub seen : (n : ℕ) (z : List Bool) → length z ≡ n + n → IsSeen n z
seen n z len = let c = rewoven-covers n z (omega (arith, len)) in record { at = c.0; long = c.1; is = c.2 }

-- a list with the bits of a position at their variables
pub turned_as : (n : ℕ) (x z : List Bool) → length x ≡ n + n → length z ≡ n + n → ((i : ℕ) → i < n + n → bit z (variable_at n i) ≡ bit x i) → z ≡ in_turns n x
turned_as n x z xlong zlong same =
    ext_bits z (in_turns n x) (zlong ∙ sym (turns_long n x xlong)) (λ v lt.
    let s = stands_for n v (omega (arith, lt, zlong)) in
    ap (bit z) (sym s.is) ∙ same s.place s.within ∙ sym (bit_in_turns n x s.place xlong) ∙ ap (bit (in_turns n x)) s.is)

-- ---- partial lists
free_fits : (o : Option Bool) (b : Bool) → o ≡ None → fits o b ≡ true
free_fits None b e = refl
free_fits (Some a) b e = cc

same_fits : (o : Option Bool) (a b : Bool) → o ≡ Some a → b ≡ a → fits o b ≡ true
same_fits None a b e same = cc
same_fits (Some true) true true e same = refl
same_fits (Some false) false false e same = refl
same_fits (Some true) false b e same = cc
same_fits (Some false) true b e same = cc
same_fits (Some true) true false e same = cc
same_fits (Some false) false true e same = cc

pub fixed_none : (n : ℕ) (x : List Bool) (p : List (Option Bool)) → p ≡ replicate (n + n) None → AreFixed n x 0 p
fixed_none n x p e = record {
  long = ap length e ∙ length-replicate {A = Option Bool} (n + n) None;
  fixed = λ i lt. absurd (omega (arith, lt));
  free = λ i le lt. ap (λ (o : List (Option Bool)). get_or o (variable_at n i) None) e ∙ none (n + n) (variable_at n i);
}
  where
    none : (m i : ℕ) → get_or (replicate {A = Option Bool} m None) i None ≡ None
    none zero i = refl
    none (suc m) zero = refl
    none (suc m) (suc i) = none m i

-- one bit more
pub fixed_more : (n : ℕ) (x : List Bool) (k v : ℕ) (b : Bool) (p r : List (Option Bool)) → AreFixed n x k p → k < n + n → v ≡ variable_at n k → b ≡ bit x k → r ≡ set p v (Some b) → AreFixed n x (k + 1) r
fixed_more n x k v b p r f lt at e is =
    let len = f.long in
    let here : r ≡ set p (variable_at n k) (Some b) = is ∙ ap (λ w. set p w (Some b)) at in
    let under = variable_within n k lt in
    let elsewhere : (i : ℕ) → i ≢ k → get_or r (variable_at n i) None ≡ get_or p (variable_at n i) None =
    λ i ne. ap (λ (o : List (Option Bool)). get_or o (variable_at n i) None) here ∙ get_or-set_other p (variable_at n k) (variable_at n i) (Some b) None (λ s. ne (variable_once n i k s)) in
    record {
      long = ap length here ∙ length-set p (variable_at n k) (Some b) ∙ len;
      fixed = λ i le. elim (cases_eq i k) [
        | inl same ↦
            ap (λ j. get_or r (variable_at n j) None) same ∙ ap (λ (o : List (Option Bool)). get_or o (variable_at n k) None) here
            ∙ get_or-set_same p (variable_at n k) (Some b) None (omega (arith, len, under)) ∙ ap Some e ∙ ap (λ j. Some (bit x j)) (sym same)
        | inr ne ↦ elsewhere i ne ∙ f.fixed i (omega (arith, le, ne))
      ];
      free = λ i le less. elsewhere i (λ same. absurd (omega (arith, le, same))) ∙ f.free i (omega (arith, le)) less;
    }

-- the positions that share the first bits are those whose values agree
pub shares_agrees : (n : ℕ) (x : List Bool) (k : ℕ) (p : List (Option Bool)) (y : List Bool) → AreFixed n x k p → length y ≡ n + n → Shares k y x → agrees p (in_turns n y) ≡ true
shares_agrees n x k p y f ylong shares =
    let len = f.long in
    agrees_all p (in_turns n y) (turns_long n y ylong ∙ sym len) (λ v lt.
    let s = stands_for n v (omega (arith, lt, len)) in
    let here : bit (in_turns n y) v ≡ bit y s.place = ap (bit (in_turns n y)) (sym s.is) ∙ bit_in_turns n y s.place ylong in
    let read : get_or p v None ≡ get_or p (variable_at n s.place) None = ap (λ w. get_or p w None) (sym s.is) in
    elim (lt_or_le s.place k) [
      | inl less ↦ same_fits (get_or p v None) (bit x s.place) (bit (in_turns n y) v) (read ∙ f.fixed s.place less) (here ∙ shares s.place less)
      | inr le ↦ free_fits (get_or p v None) (bit (in_turns n y) v) (read ∙ f.free s.place le s.within)
    ])

pub agrees_shares : (n : ℕ) (x : List Bool) (k : ℕ) (p : List (Option Bool)) (y : List Bool) → AreFixed n x k p → length y ≡ n + n → agrees p (in_turns n y) ≡ true → Shares k y x
agrees_shares n x k p y f ylong agreeing i lt =
    sym (bit_in_turns n y i ylong) ∙ agrees_at p (in_turns n y) (variable_at n i) (bit x i) (turns_long n y ylong ∙ sym f.long) agreeing (f.fixed i lt)

-- ---- zeros
pub zeros_woven : (n : ℕ) → woven (replicate n false) (replicate n false) ≡ replicate (n + n) false
zeros_woven zero = refl
zeros_woven (suc n) =
    ap (λ (l : List Bool). false ∷ false ∷ l) (zeros_woven n)
    ∙ ap (λ m. replicate {A = Bool} m false) (let e : suc (suc (n + n)) ≡ suc n + suc n = omega arith in e)

-- ---- lists made bit by bit
pub zeros_long : (n : ℕ) (z : List Bool) → z ≡ replicate n false → length z ≡ n
zeros_long n z e = ap length e ∙ length-replicate {A = Bool} n false

-- one bit more, at its variable
pub one_more : (n : ℕ) (x z r : List Bool) (i v : ℕ) (b : Bool) → i < n + n → length z ≡ n + n → v ≡ variable_at n i → b ≡ bit x i → r ≡ set z v b
    → ((j : ℕ) → j < i → bit z (variable_at n j) ≡ bit x j) → (j : ℕ) → j < i + 1 → bit r (variable_at n j) ≡ bit x j
one_more n x z r i v b lt long at e is same j le =
    let here : r ≡ set z (variable_at n i) b = is ∙ ap (λ w. set z w b) at in
    let under = variable_within n i lt in
    elim (cases_eq j i) [
      | inl s ↦
          ap (λ k. bit r (variable_at n k)) s ∙ ap (λ l. bit l (variable_at n i)) here ∙ get_or-set_same z (variable_at n i) b false (omega (arith, long, under)) ∙ e
          ∙ ap (bit x) (sym s)
      | inr ne ↦
          ap (λ l. bit l (variable_at n j)) here ∙ get_or-set_other z (variable_at n i) (variable_at n j) b false (λ s. ne (variable_once n j i s))
          ∙ same j (omega (arith, le, ne))
    ]

-- one bit more of those from a place on
pub next_bit : (x : List Bool) (from : ℕ) (z r : List Bool) (i : ℕ) (b : Bool) → i < length z → b ≡ bit x (from + i) → r ≡ set z i b
    → ((j : ℕ) → j < i → bit z j ≡ bit x (from + j)) → (j : ℕ) → j < i + 1 → bit r j ≡ bit x (from + j)
next_bit x from z r i b lt e is same j le = elim (cases_eq j i) [
  | inl s ↦ ap (bit r) s ∙ ap (λ l. bit l i) is ∙ get_or-set_same z i b false lt ∙ e ∙ ap (λ k. bit x (from + k)) (sym s)
  | inr ne ↦ ap (λ l. bit l j) is ∙ get_or-set_other z i j b false ne ∙ same j (omega (arith, le, ne))
]
