-- Entries of a matrix with controls: the identity, but for the block at the end of rows and columns.
use Rattle.std.proofs.Common.{◌≡◌, ℕ, zero, suc, ◌+◌, ◌-◌, ◌^◌, ◌<◌, ◌≤◌, ◌⊎◌, inl, inr, refl, sym, ◌∙◌, ap, arith, List, [], ◌∷◌, ◌++◌, map, length, get_or, All, length-append}
use Rattle.std.proofs.Math.Nat.{pow-suc}
use Rattle.std.proofs.lemmas.List.{length-map, get_or-map, get_or-append-add, get_or_append_left}
use Rattle.std.proofs.lemmas.List.Elements.{All-append, All-cons, All-nil, All-map, All-from_recursion}
use Rattle.gate_set.specs.declared.entry.Entry.{Entry}
use Rattle.gate_set.specs.declared.entry.Entry.TheVariants.{Zero, Omega}
use Rattle.gate_set.specs.Matrix.{identity_like, controlled, two_by_two, exchange}
use Rattle.gate_set.specs.Private.{controlled_by, entry_at, block_arity, block_matrix}
use Rattle.gate_set.specs.declared.table.Block.{Block}
use Rattle.gate_set.specs.declared.table.Block.TheVariants.{One, Exchange}

abbrev Matrix : Type 0
Matrix = List (List Entry)

-- n rows of n entries
pub record IsSquare (n : ℕ) (m : Matrix) : Type 0 where
  pub rows : length m ≡ n
  pub columns : All (λ (r : List Entry). length r ≡ n) m

half_cases : (n i : ℕ) → (i < n) ⊎ (n ≤ i)
half_cases n i = grind arith

-- a row of zeros, as long as m
abbrev zeros : Matrix → List Entry
zeros m = map (λ _. Zero) m

get_or-zeros : (m : Matrix) (i : ℕ) → get_or (zeros m) i Zero ≡ Zero
get_or-zeros [] i = refl
get_or-zeros (r ∷ m) zero = refl
get_or-zeros (r ∷ m) (suc i) = get_or-zeros m i

length-zeros : (m : Matrix) → length (zeros m) ≡ length m
length-zeros m = length-map m (λ _. Zero)

length-identity_like : (m : Matrix) → length (identity_like m) ≡ length m
length-identity_like [] = refl
length-identity_like (r ∷ m) = ap suc (length-map (identity_like m) (λ s. Zero ∷ s) ∙ length-identity_like m)

identity_like-columns : (m : Matrix) → All (λ (r : List Entry). length r ≡ length m) (identity_like m)
identity_like-columns [] = All-nil (λ (r : List Entry). length r ≡ 0)
identity_like-columns (r ∷ m) =
    let P : List Entry → Type 0 = λ s. length s ≡ suc (length m) in
    All-cons P (Omega 0 ∷ zeros m) (map (λ s. Zero ∷ s) (identity_like m)) (ap suc (length-zeros m))
    (All-map P (λ s. Zero ∷ s) (identity_like m) (λ k d lt. ap suc (identity_like-columns m k d lt)))

-- on the diagonal of the identity, and beside it
identity_like-diagonal : (m : Matrix) (r : ℕ) → r < length m → entry_at (identity_like m) r r ≡ Omega 0
identity_like-diagonal [] r lt = absurd (omega arith)
identity_like-diagonal (x ∷ m) zero lt = refl
identity_like-diagonal (x ∷ m) (suc r) lt =
    let row = get_or-map (λ s. Zero ∷ s) (identity_like m) r [] [] (omega (arith, length-identity_like m)) in
    ap (λ (s : List Entry). get_or s (suc r) Zero) row ∙ identity_like-diagonal m r (omega arith)

identity_like-beside : (m : Matrix) (r s : ℕ) → r < length m → ¬ (r ≡ s) → entry_at (identity_like m) r s ≡ Zero
identity_like-beside [] r s lt ne = absurd (omega arith)
identity_like-beside (x ∷ m) zero zero lt ne = absurd (ne refl)
identity_like-beside (x ∷ m) zero (suc s) lt ne = get_or-zeros m s
identity_like-beside (x ∷ m) (suc r) zero lt ne =
    ap (λ (t : List Entry). get_or t zero Zero) (get_or-map (λ s. Zero ∷ s) (identity_like m) r [] [] (omega (arith, length-identity_like m)))
identity_like-beside (x ∷ m) (suc r) (suc s) lt ne =
    ap (λ (t : List Entry). get_or t (suc s) Zero) (get_or-map (λ s. Zero ∷ s) (identity_like m) r [] [] (omega (arith, length-identity_like m)))
    ∙ identity_like-beside m r s (omega arith) (λ e. ne (ap suc e))

module _ (n : ℕ) (m : Matrix) (square : IsSquare n m) where
  upper : Matrix
  upper = map (λ r. r ++ zeros m) (identity_like m)

  lower : Matrix
  lower = map (λ r. zeros m ++ r) m

  length-upper : length upper ≡ n
  unfolding upper
  length-upper = length-map (identity_like m) (λ r. r ++ zeros m) ∙ length-identity_like m ∙ square.rows

  -- a row where the control is 0, and one where it is 1
  upper_row : (r : ℕ) → r < n → get_or (controlled m) r [] ≡ get_or (identity_like m) r [] ++ zeros m
  unfolding upper
  upper_row r lt =
      get_or_append_left upper (map (λ r. zeros m ++ r) m) [] r (omega (arith, length-upper))
      ∙ get_or-map (λ r. r ++ zeros m) (identity_like m) r [] [] (omega (arith, length-identity_like m, square.rows))

  lower_row : (i : ℕ) → i < n → get_or (controlled m) (n + i) [] ≡ zeros m ++ get_or m i []
  unfolding upper
  lower_row i lt =
      ap (λ k. get_or (controlled m) (k + i) []) (sym length-upper)
      ∙ get_or-append-add upper (map (λ r. zeros m ++ r) m) i []
      ∙ get_or-map (λ r. zeros m ++ r) m i [] [] (omega (arith, square.rows))

  length-upper_row : (r : ℕ) → r < n → length (get_or (identity_like m) r []) ≡ n
  length-upper_row r lt = identity_like-columns m r [] (omega (arith, length-identity_like m, square.rows)) ∙ square.rows

  pub entry-block : (i j : ℕ) → i < n → entry_at (controlled m) (n + i) (n + j) ≡ entry_at m i j
  entry-block i j lt =
      ap (λ (t : List Entry). get_or t (n + j) Zero) (lower_row i lt)
      ∙ ap (λ k. get_or (zeros m ++ get_or m i []) (k + j) Zero) (sym (length-zeros m ∙ square.rows))
      ∙ get_or-append-add (zeros m) (get_or m i []) j Zero

  pub entry-diagonal : (r : ℕ) → r < n → entry_at (controlled m) r r ≡ Omega 0
  entry-diagonal r lt =
      ap (λ (t : List Entry). get_or t r Zero) (upper_row r lt)
      ∙ get_or_append_left (get_or (identity_like m) r []) (zeros m) Zero r (omega (arith, length-upper_row r lt))
      ∙ identity_like-diagonal m r (omega (arith, square.rows))

  pub entry-upper : (r s : ℕ) → r < n → ¬ (r ≡ s) → entry_at (controlled m) r s ≡ Zero
  entry-upper r s lt ne =
      ap (λ (t : List Entry). get_or t s Zero) (upper_row r lt)
      ∙ elim (half_cases n s) [ inl below ↦ left below | inr above ↦ right above ]
    where
      left : s < n → get_or (get_or (identity_like m) r [] ++ zeros m) s Zero ≡ Zero
      left below =
          get_or_append_left (get_or (identity_like m) r []) (zeros m) Zero s (omega (arith, length-upper_row r lt))
          ∙ identity_like-beside m r s (omega (arith, square.rows)) ne

      right : n ≤ s → get_or (get_or (identity_like m) r [] ++ zeros m) s Zero ≡ Zero
      right above =
          let at : s ≡ length (get_or (identity_like m) r []) + (s - n) = omega (arith, length-upper_row r lt) in
          ap (λ k. get_or (get_or (identity_like m) r [] ++ zeros m) k Zero) at
          ∙ get_or-append-add (get_or (identity_like m) r []) (zeros m) (s - n) Zero ∙ get_or-zeros m (s - n)

  pub entry-lower : (i s : ℕ) → i < n → s < n → entry_at (controlled m) (n + i) s ≡ Zero
  entry-lower i s lt below =
      ap (λ (t : List Entry). get_or t s Zero) (lower_row i lt)
      ∙ get_or_append_left (zeros m) (get_or m i []) Zero s (omega (arith, length-zeros m, square.rows))
      ∙ get_or-zeros m s

  pub IsSquare-controlled : IsSquare (n + n) (controlled m)
  unfolding upper
  IsSquare-controlled = record {
    rows = length-append upper (map (λ r. zeros m ++ r) m) ∙ omega (arith, length-upper, length-map m (λ r. zeros m ++ r), square.rows);
    columns =
        All-append Long upper (map (λ r. zeros m ++ r) m)
        (All-map Long (λ r. r ++ zeros m) (identity_like m) (λ k d lt. length-append (get_or (identity_like m) k d) (zeros m) ∙ omega (arith, identity_like-columns m k d lt, square.rows, length-zeros m)))
        (All-map Long (λ r. zeros m ++ r) m (λ k d lt. length-append (zeros m) (get_or m k d) ∙ omega (arith, square.columns k d lt, square.rows, length-zeros m)));
  }
    where
      Long : List Entry → Type 0
      Long r = length r ≡ n + n

-- the side of a matrix with c controls, and where its block begins
side : ℕ → ℕ → ℕ
side zero n = n
side (suc c) n = side c n + side c n

first : ℕ → ℕ → ℕ
first zero n = 0
first (suc c) n = side c n + first c n

side-is : (c n : ℕ) → side c n ≡ first c n + n
unfolding side first
side-is zero n = omega arith
side-is (suc c) n = omega (arith, side-is c n)

IsSquare-controlled_by : (c n : ℕ) (m : Matrix) → IsSquare n m → IsSquare (side c n) (controlled_by c m)
unfolding side
IsSquare-controlled_by zero n m square = square
IsSquare-controlled_by (suc c) n m square = IsSquare-controlled (side c n) (controlled_by c m) (IsSquare-controlled_by c n m square)

module _ (n : ℕ) (m : Matrix) (square : IsSquare n m) where
  controlled_by-block : (c i j : ℕ) → i < n → entry_at (controlled_by c m) (first c n + i) (first c n + j) ≡ entry_at m i j
  unfolding first
  controlled_by-block zero i j lt =
      let e : 0 + i ≡ i = omega arith in
      let f : 0 + j ≡ j = omega arith in
      ap (λ k. entry_at m k (0 + j)) e ∙ ap (λ k. entry_at m i k) f
  controlled_by-block (suc c) i j lt =
      let e : side c n + first c n + i ≡ side c n + (first c n + i) = omega arith in
      let f : side c n + first c n + j ≡ side c n + (first c n + j) = omega arith in
      ap (λ k. entry_at (controlled_by (suc c) m) k (side c n + first c n + j)) e
      ∙ ap (λ k. entry_at (controlled_by (suc c) m) (side c n + (first c n + i)) k) f
      ∙ entry-block (side c n) (controlled_by c m) (IsSquare-controlled_by c n m square) (first c n + i) (first c n + j) (omega (arith, side-is c n))
      ∙ controlled_by-block c i j lt

  controlled_by-diagonal : (c r : ℕ) → r < first c n → entry_at (controlled_by c m) r r ≡ Omega 0
  unfolding first
  controlled_by-diagonal zero r lt = absurd (omega arith)
  controlled_by-diagonal (suc c) r lt = elim (half_cases (side c n) r) [ inl below ↦ entry-diagonal (side c n) (controlled_by c m) whole r below | inr above ↦ later (λ i. controlled_by-diagonal c i) above ]
    where
      whole : IsSquare (side c n) (controlled_by c m)
      whole = IsSquare-controlled_by c n m square

      later : ((i : ℕ) → i < first c n → entry_at (controlled_by c m) i i ≡ Omega 0) → side c n ≤ r → entry_at (controlled_by (suc c) m) r r ≡ Omega 0
      later earlier above =
          let i = r - side c n in
          let at : r ≡ side c n + i = omega arith in
          ap (λ k. entry_at (controlled_by (suc c) m) k k) at
          ∙ entry-block (side c n) (controlled_by c m) whole i i (omega (arith, side-is c n))
          ∙ earlier i (omega arith)

  controlled_by-beside : (c r s : ℕ) → r < side c n → s < side c n → (r < first c n) ⊎ (s < first c n) → ¬ (r ≡ s) → entry_at (controlled_by c m) r s ≡ Zero
  unfolding side first
  controlled_by-beside zero r s lr ls (inl lt) ne = absurd (omega arith)
  controlled_by-beside zero r s lr ls (inr lt) ne = absurd (omega arith)
  controlled_by-beside (suc c) r s lr ls early ne =
      elim (half_cases (side c n) r) [
        | inl below ↦ entry-upper (side c n) (controlled_by c m) whole r s below ne
        | inr above ↦ elim (half_cases (side c n) s) [ inl below ↦ lower above below | inr above' ↦ later (λ i j. controlled_by-beside c i j) above above' ]
      ]
    where
      whole : IsSquare (side c n) (controlled_by c m)
      whole = IsSquare-controlled_by c n m square

      lower : side c n ≤ r → s < side c n → entry_at (controlled_by (suc c) m) r s ≡ Zero
      lower above below =
          let i = r - side c n in
          let at : r ≡ side c n + i = omega arith in
          ap (λ k. entry_at (controlled_by (suc c) m) k s) at ∙ entry-lower (side c n) (controlled_by c m) whole i s (omega arith) below

      later : ((i j : ℕ) → i < side c n → j < side c n → (i < first c n) ⊎ (j < first c n) → ¬ (i ≡ j) → entry_at (controlled_by c m) i j ≡ Zero) → side c n ≤ r → side c n ≤ s
          → entry_at (controlled_by (suc c) m) r s ≡ Zero
      later earlier above above' =
          let i = r - side c n in
          let j = s - side c n in
          let at : r ≡ side c n + i = omega arith in
          let at' : s ≡ side c n + j = omega arith in
          ap (λ k. entry_at (controlled_by (suc c) m) k s) at
          ∙ ap (λ k. entry_at (controlled_by (suc c) m) (side c n + i) k) at'
          ∙ entry-block (side c n) (controlled_by c m) whole i j (omega arith)
          ∙ earlier i j (omega arith) (omega arith) (shifted early) (λ e. ne (omega arith))
        where
          shifted : (r < first (suc c) n) ⊎ (s < first (suc c) n) → (r - side c n < first c n) ⊎ (s - side c n < first c n)
          shifted (inl lt) = inl (omega arith)
          shifted (inr lt) = inr (omega arith)

side-pow : (c a : ℕ) → side c (2 ^ a) ≡ 2 ^ (c + a)
unfolding side
side-pow zero a = let e : a ≡ 0 + a = omega arith in ap (λ k. 2 ^ k) e
side-pow (suc c) a =
    let e : suc c + a ≡ suc (c + a) = omega arith in
    omega (arith, side-pow c a, pow-suc 2 (c + a), ap (λ k. 2 ^ k) e)

IsSquare-block : (b : Block) → IsSquare (2 ^ block_arity b) (block_matrix b)
IsSquare-block (One a b c d) = record { rows = refl; columns = All-from_recursion (λ (r : List Entry). length r ≡ 2) (two_by_two a b c d) (refl, (refl, tt)) }
IsSquare-block Exchange = record { rows = refl; columns = All-from_recursion (λ (r : List Entry). length r ≡ 4) exchange (refl, (refl, (refl, (refl, tt)))) }

-- a row of the table: c controls before the block b, whose rows and columns begin at f
module _ (c f : ℕ) (b : Block) (begins : f + 2 ^ block_arity b ≡ 2 ^ (c + block_arity b)) where
  at_first : f ≡ first c (2 ^ block_arity b)
  at_first = omega (arith, side-is c (2 ^ block_arity b), side-pow c (block_arity b))

  pub row-block : (r s : ℕ) → r < 2 ^ (c + block_arity b) → f ≤ r → f ≤ s → entry_at (block_matrix b) (r - f) (s - f) ≡ entry_at (controlled_by c (block_matrix b)) r s
  row-block r s lr fr fs =
      let n = 2 ^ block_arity b in
      let at : first c n + (r - f) ≡ r = omega (arith, at_first) in
      let at' : first c n + (s - f) ≡ s = omega (arith, at_first) in
      sym (controlled_by-block n (block_matrix b) (IsSquare-block b) c (r - f) (s - f) (omega arith))
      ∙ ap (λ k. entry_at (controlled_by c (block_matrix b)) k (first c n + (s - f))) at
      ∙ ap (λ k. entry_at (controlled_by c (block_matrix b)) r k) at'

  pub row-diagonal : (r s : ℕ) → (r < f) ⊎ (s < f) → r ≡ s → Omega 0 ≡ entry_at (controlled_by c (block_matrix b)) r s
  row-diagonal r s (inl lt) e =
      sym (controlled_by-diagonal (2 ^ block_arity b) (block_matrix b) (IsSquare-block b) c r (omega (arith, at_first)))
      ∙ ap (λ k. entry_at (controlled_by c (block_matrix b)) r k) e
  row-diagonal r s (inr lt) e =
      sym (controlled_by-diagonal (2 ^ block_arity b) (block_matrix b) (IsSquare-block b) c r (omega (arith, at_first)))
      ∙ ap (λ k. entry_at (controlled_by c (block_matrix b)) r k) e

  pub row-beside : (r s : ℕ) → r < 2 ^ (c + block_arity b) → s < 2 ^ (c + block_arity b) → (r < f) ⊎ (s < f) → ¬ (r ≡ s) → Zero ≡ entry_at (controlled_by c (block_matrix b)) r s
  row-beside r s lr ls early ne =
      let whole = side-pow c (block_arity b) in
      sym (controlled_by-beside (2 ^ block_arity b) (block_matrix b) (IsSquare-block b) c r s (omega arith) (omega arith) (moved early) ne)
    where
      moved : (r < f) ⊎ (s < f) → (r < first c (2 ^ block_arity b)) ⊎ (s < first c (2 ^ block_arity b))
      moved (inl lt) = inl (omega (arith, at_first))
      moved (inr lt) = inr (omega (arith, at_first))
