-- Lists of bits by the first place where they differ, and the search for the next entry that isn't zero.
use Rattle.std.proofs.Common.{◌≡◌, ◌≢◌, ◌⊎◌, ℕ, zero, suc, ◌+◌, ◌-◌, ◌*◌, ◌^◌, ◌<◌, ◌≤◌, ℤ, pos, ◌-ℤ◌, Bool, true, false, List, [], ◌∷◌, length, Option, Some, None, get_or, set, replicate, inl, inr, refl, sym, ◌∙◌, ap, arith}
use Rattle.std.proofs.lemmas.Bool.{cases_Bool, cases_eq}
use Rattle.std.proofs.lemmas.Int.{ints}
use Rattle.std.proofs.lemmas.List.{get_or-set_same, get_or-set_other, length-set}
use Rattle.bit_lists.specs.Lists.{IsBefore}
use Rattle.bit_lists.specs.Partials.{fits, agrees}
use Rattle.bit_lists.proofs.Partials.{agrees_at, agrees_all}
use Rattle.diagram_model.specs.Functions.{Assignment, bit}
use Rattle.diagram_model.specs.Nodes.{value}
use Rattle.diagram_model.specs.Stores.{Diagram, function_of}
use Rattle.diagram_ops.specs.Connectives.{number}
use Rattle.node_store.specs.Differs.{IsTrueSomewhere, IsFalseThroughout}
use Rattle.ring_omega.specs.declared.quad.Quad.{Quad}
use Rattle.ring_omega.specs.Ring.{quad, zero_quad}
use Rattle.slice_vec.specs.Digits.{Digits, low_sum, slice_value}
use Rattle.slice_vec.specs.Slices.{bit_node, digits_of, value_at}
use Rattle.slice_vec.proofs.Ranges.{low_sum-less}
use Rattle.slice_quad.specs.declared.four.Four.{Four}
use Rattle.slice_quad.specs.declared.walk.Branch.{Branch}
use Rattle.slice_quad.specs.Nonzero.{NoneAfter, IsNextNonzero}
use Rattle.slice_quad.specs.Walks.{Entries, entries_in, IsNonzeroWithin, IsZeroWithin, Shares, IsNonzeroFrom, AreZeroFrom, IsBeforeAt, IsLeastFrom, AreZeroBeyond, IsBranch}

-- values and bits

pub low_none : (n : ℕ) (s : Digits) (x : Assignment) → ((i : ℕ) → i < n → s i x ≡ false) → low_sum n s x ≡ 0
unfolding low_sum
low_none zero s x off = refl
low_none (suc n) s x off =
    let h = low_none n s x (λ i lt. off i (omega arith)) in
    ap (λ b. low_sum n s x + 2 ^ n * number b) (off n (omega arith)) ∙ omega (arith, h)

pub value_none : (m : ℕ) (s : Digits) (x : Assignment) → ((i : ℕ) → i ≤ m → s i x ≡ false) → slice_value m s x ≡ pos 0
unfolding slice_value
value_none m s x off =
    let h = low_none m s x (λ i lt. off i (omega arith)) in
    ap (λ b. pos (low_sum m s x) -ℤ pos (2 ^ m * number b)) (off m (omega arith)) ∙ omega (arith, ints, h)

power_some : (n : ℕ) → 0 < 2 ^ n
power_some zero = omega arith
power_some (suc n) = let h = power_some n in omega (arith, h)

low_some : (n : ℕ) (s : Digits) (x : Assignment) (i : ℕ) → i < n → s i x ≡ true → 0 < low_sum n s x
unfolding low_sum
low_some zero s x i lt on = absurd (omega arith)
low_some (suc n) s x i lt on =
    elim (cases_eq i n) [
      | inl e ↦
          let p = power_some n in
          let one : low_sum (suc n) s x ≡ low_sum n s x + 2 ^ n * 1 = ap (λ b. low_sum n s x + 2 ^ n * number b) (ap (λ j. s j x) (sym e) ∙ on) in
          omega (arith, one, p)
      | inr ne ↦ let h = low_some n s x i (omega (arith, ne)) on in omega (arith, h)
    ]

-- an integer with a true bit isn't 0
pub value_some : (m : ℕ) (s : Digits) (x : Assignment) (i : ℕ) → i ≤ m → s i x ≡ true → slice_value m s x ≢ pos 0
unfolding slice_value
value_some m s x i le on e =
    let less = low_sum-less m s x in
    elim (cases_Bool (s m x)) [
      | inl t ↦
          let one : slice_value m s x ≡ pos (low_sum m s x) -ℤ pos (2 ^ m * 1) = ap (λ b. pos (low_sum m s x) -ℤ pos (2 ^ m * number b)) t in
          omega (arith, ints, one, e, less)
      | inr f ↦
          let none : slice_value m s x ≡ pos (low_sum m s x) -ℤ pos (2 ^ m * 0) = ap (λ b. pos (low_sum m s x) -ℤ pos (2 ^ m * number b)) f in
          elim (cases_eq i m) [
            | inl same ↦ let clash : true ≡ false = sym on ∙ ap (λ j. s j x) same ∙ f in cc
            | inr ne ↦ let some = low_some m s x i (omega (arith, ne)) on in omega (arith, ints, none, e, some)
          ]
    ]

-- a true bit
pub bit_within : (d : Diagram) (p : List (Option Bool)) (ns : List ℕ) (i n : ℕ) → i < length ns → n ≡ bit_node ns i → IsTrueSomewhere d p n → IsNonzeroWithin d p ns
unfolding digits_of function_of
bit_within d p ns i n lt e h = record {
  at = h.at;
  long = h.long;
  agreeing = h.agreeing;
  nonzero = value_some (length ns - 1) (digits_of d ns) (bit h.at) i (omega arith) (ap (λ m. value d.slots d.order (bit h.at) m) (sym e) ∙ h.is);
}

-- no true bit
pub bits_none : (d : Diagram) (p : List (Option Bool)) (ns : List ℕ) (w : ℕ) → 0 < length ns → length ns ≤ w → ((i : ℕ) → i < w → IsFalseThroughout d p (bit_node ns i)) → IsZeroWithin d p ns
unfolding digits_of function_of
bits_none d p ns w some le off x long agreeing =
    value_none (length ns - 1) (digits_of d ns) (bit x) (λ i lt. off i (omega arith) x long agreeing)

-- the four coordinates

pub zero_entry : (d : Diagram) (q : Four) (x : List Bool) → value_at d q.a (bit x) ≡ pos 0 → value_at d q.b (bit x) ≡ pos 0 → value_at d q.c (bit x) ≡ pos 0 → value_at d q.d (bit x) ≡ pos 0 → entries_in d q x ≡ zero_quad
unfolding entries_in
zero_entry d q x a b c e =
    ap (λ i. quad i (value_at d q.b (bit x)) (value_at d q.c (bit x)) (value_at d q.d (bit x))) a
    ∙ ap (λ i. quad (pos 0) i (value_at d q.c (bit x)) (value_at d q.d (bit x))) b
    ∙ ap (λ i. quad (pos 0) (pos 0) i (value_at d q.d (bit x))) c
    ∙ ap (λ i. quad (pos 0) (pos 0) (pos 0) i) e

pub some_a : (d : Diagram) (q : Four) (x : List Bool) → value_at d q.a (bit x) ≢ pos 0 → entries_in d q x ≢ zero_quad
unfolding entries_in
some_a d q x h e = h (ap (λ (r : Quad). r.a) e)

pub some_b : (d : Diagram) (q : Four) (x : List Bool) → value_at d q.b (bit x) ≢ pos 0 → entries_in d q x ≢ zero_quad
unfolding entries_in
some_b d q x h e = h (ap (λ (r : Quad). r.b) e)

pub some_c : (d : Diagram) (q : Four) (x : List Bool) → value_at d q.c (bit x) ≢ pos 0 → entries_in d q x ≢ zero_quad
unfolding entries_in
some_c d q x h e = h (ap (λ (r : Quad). r.c) e)

pub some_d : (d : Diagram) (q : Four) (x : List Bool) → value_at d q.d (bit x) ≢ pos 0 → entries_in d q x ≢ zero_quad
unfolding entries_in
some_d d q x h e = h (ap (λ (r : Quad). r.d) e)

-- p has the first k bits of x, and is free elsewhere
pub record IsFirst (p : List (Option Bool)) (x : List Bool) (k : ℕ) : Type 0 where
  pub len : length p ≡ length x
  pub fixed : (i : ℕ) → i < k → get_or p i None ≡ Some (bit x i)
  pub free : (i : ℕ) → k ≤ i → get_or p i None ≡ None

fits_same : (o : Option Bool) (a b : Bool) → o ≡ Some a → b ≡ a → fits o b ≡ true
fits_same None a b e same = cc
fits_same (Some true) true true e same = refl
fits_same (Some false) false false e same = refl
fits_same (Some true) false b e same = cc
fits_same (Some false) true b e same = cc
fits_same (Some true) true false e same = cc
fits_same (Some false) false true e same = cc

fits_free : (o : Option Bool) (b : Bool) → o ≡ None → fits o b ≡ true
fits_free None b e = refl
fits_free (Some a) b e = cc

-- a list agrees with p where it shares the first bits
pub shares_agrees : (p : List (Option Bool)) (x y : List Bool) (k : ℕ) → IsFirst p x k → length y ≡ length x → Shares k y x → agrees p y ≡ true
shares_agrees p x y k f long shares =
    let len = f.len in
    agrees_all p y (omega (arith, len, long)) (λ i lt. elim (cases_lt i k) [
      | inl less ↦ fits_same (get_or p i None) (bit x i) (bit y i) (f.fixed i less) (shares i less)
      | inr le ↦ fits_free (get_or p i None) (bit y i) (f.free i le)
    ])
  where
    cases_lt : (i k : ℕ) → (i < k) ⊎ (k ≤ i)
    cases_lt i zero = inr (omega arith)
    cases_lt zero (suc k) = inl (omega arith)
    cases_lt (suc i) (suc k) = elim (cases_lt i k) [ inl h ↦ inl (omega (arith, h)) | inr h ↦ inr (omega (arith, h)) ]

pub agrees_shares : (p : List (Option Bool)) (x y : List Bool) (k : ℕ) → IsFirst p x k → length y ≡ length x → agrees p y ≡ true → Shares k y x
agrees_shares p x y k f long agreeing i lt =
    let len = f.len in agrees_at p y i (bit x i) (omega (arith, len, long)) agreeing (f.fixed i lt)

pub nonzero_from : (d : Diagram) (q : Four) (p : List (Option Bool)) (x : List Bool) (k : ℕ) (ns : List ℕ) → IsFirst p x k → length x ≡ length d.order → ((y : List Bool) → value_at d ns (bit y) ≢ pos 0 → entries_in d q y ≢ zero_quad) → IsNonzeroWithin d p ns → IsNonzeroFrom (length x) (entries_in d q) k x
nonzero_from d q p x k ns f len some h = record {
  at = h.at;
  long = h.long ∙ sym len;
  shares = agrees_shares p x h.at k f (h.long ∙ sym len) h.agreeing;
  nonzero = some h.at h.nonzero;
}

pub zero_from : (d : Diagram) (q : Four) (p : List (Option Bool)) (x : List Bool) (k : ℕ) → IsFirst p x k → length x ≡ length d.order → IsZeroWithin d p q.a → IsZeroWithin d p q.b → IsZeroWithin d p q.c → IsZeroWithin d p q.d → AreZeroFrom (length x) (entries_in d q) k x
zero_from d q p x k f len a b c e y long shares =
    let agreeing = shares_agrees p x y k f long shares in
    zero_entry d q y (a y (long ∙ len) agreeing) (b y (long ∙ len) agreeing) (c y (long ∙ len) agreeing) (e y (long ∙ len) agreeing)

-- p gets one bit more of x
pub first_none : (n k : ℕ) (x : List Bool) (p : List (Option Bool)) → p ≡ replicate n None → n ≡ length x → IsFirst p x 0
first_none n k x p e len = record {
  len = ap length e ∙ long n ∙ len;
  fixed = λ i lt. absurd (omega arith);
  free = λ i le. ap (λ (o : List (Option Bool)). get_or o i None) e ∙ none n i;
}
  where
    long : (m : ℕ) → length (replicate {A = Option Bool} m None) ≡ m
    long zero = refl
    long (suc m) = ap suc (long m)

    none : (m i : ℕ) → get_or (replicate {A = Option Bool} m None) i None ≡ None
    none zero i = refl
    none (suc m) zero = refl
    none (suc m) (suc i) = none m i

pub first_more : (p r : List (Option Bool)) (x : List Bool) (k : ℕ) (b : Bool) → IsFirst p x k → k < length x → b ≡ bit x k → r ≡ set p k (Some b) → IsFirst r x (k + 1)
first_more p r x k b f lt e is =
    let len = f.len in
    record {
      len = ap length is ∙ length-set p k (Some b) ∙ len;
      fixed = λ i le. elim (cases_eq i k) [
        | inl same ↦ ap (λ (o : List (Option Bool)). get_or o i None) is ∙ ap (λ j. get_or (set p k (Some b)) j None) same ∙ get_or-set_same p k (Some b) None (omega (arith, len, lt)) ∙ ap Some e ∙ ap (λ j. Some (bit x j)) (sym same)
        | inr ne ↦ ap (λ (o : List (Option Bool)). get_or o i None) is ∙ get_or-set_other p k i (Some b) None ne ∙ f.fixed i (omega (arith, le, ne))
      ];
      free = λ i le. ap (λ (o : List (Option Bool)). get_or o i None) is ∙ get_or-set_other p k i (Some b) None (λ same. absurd (omega (arith, le, same))) ∙ f.free i (omega (arith, le));
    }

-- the order of lists by the first place where they differ

pub before_at : (x y : List Bool) → length x ≡ length y → IsBefore x y → (i : ℕ) × (i < length x) × IsBeforeAt i x y
before_at [] y len h = absurd h
before_at (false ∷ x) [] len h = absurd h
before_at (true ∷ x) [] len h = absurd h
before_at (false ∷ x) (true ∷ y) len h = (0, omega arith, record { same = λ j lt. absurd (omega arith); low = refl; high = refl })
before_at (true ∷ x) (false ∷ y) len h = absurd h
before_at (false ∷ x) (false ∷ y) len h = let r = before_at x y (omega (arith, len)) h in (suc r.0, (let lt = r.1 in omega (arith, lt)), later false x y r.0 r.2)
  where
    later : (b : Bool) (x y : List Bool) (i : ℕ) → IsBeforeAt i x y → IsBeforeAt (suc i) (b ∷ x) (b ∷ y)
    later b x y i h = record { same = both b x y i h.same; low = h.low; high = h.high }
      where
        both : (b : Bool) (x y : List Bool) (i : ℕ) → Shares i x y → Shares (suc i) (b ∷ x) (b ∷ y)
        both b x y i h zero lt = refl
        both b x y i h (suc j) lt = h j (omega (arith, lt))
before_at (true ∷ x) (true ∷ y) len h = let r = before_at x y (omega (arith, len)) h in (suc r.0, (let lt = r.1 in omega (arith, lt)), later true x y r.0 r.2)
  where
    later : (b : Bool) (x y : List Bool) (i : ℕ) → IsBeforeAt i x y → IsBeforeAt (suc i) (b ∷ x) (b ∷ y)
    later b x y i h = record { same = both b x y i h.same; low = h.low; high = h.high }
      where
        both : (b : Bool) (x y : List Bool) (i : ℕ) → Shares i x y → Shares (suc i) (b ∷ x) (b ∷ y)
        both b x y i h zero lt = refl
        both b x y i h (suc j) lt = h j (omega (arith, lt))

pub at_before : (x y : List Bool) (i : ℕ) → length x ≡ length y → i < length x → Shares i x y → bit x i ≡ false → bit y i ≡ true → IsBefore x y
at_before [] y i len lt same low high = absurd (omega arith)
at_before (a ∷ x) [] i len lt same low high = absurd (omega arith)
at_before (false ∷ x) (true ∷ y) zero len lt same low high = tt
at_before (true ∷ x) (b ∷ y) zero len lt same low high = cc
at_before (false ∷ x) (false ∷ y) zero len lt same low high = cc
at_before (false ∷ x) (false ∷ y) (suc i) len lt same low high = at_before x y i (omega (arith, len)) (omega (arith, lt)) (λ j le. same (suc j) (omega (arith, le))) low high
at_before (true ∷ x) (true ∷ y) (suc i) len lt same low high = at_before x y i (omega (arith, len)) (omega (arith, lt)) (λ j le. same (suc j) (omega (arith, le))) low high
at_before (false ∷ x) (true ∷ y) (suc i) len lt same low high = let clash : false ≡ true = same 0 (omega arith) in cc
at_before (true ∷ x) (false ∷ y) (suc i) len lt same low high = let clash : true ≡ false = same 0 (omega arith) in cc

pub shares_set : (x : List Bool) (i : ℕ) (b : Bool) → Shares i (set x i b) x
shares_set x i b j lt = get_or-set_other x i j b false (λ e. absurd (omega (arith, lt, e)))

pub set_at : (x : List Bool) (i : ℕ) (b : Bool) → i < length x → bit (set x i b) i ≡ b
set_at x i b lt = get_or-set_same x i b false lt

clash_of : (b : Bool) → b ≡ false → b ≡ true → ⊥
clash_of b f t = let e : false ≡ true = sym f ∙ t in cc

-- one bit more is shared
pub shares_more : (x y : List Bool) (k : ℕ) → Shares k x y → bit x k ≡ bit y k → Shares (k + 1) x y
shares_more x y k h e i lt = elim (cases_eq i k) [
  | inl same ↦ ap (bit x) same ∙ e ∙ ap (bit y) (sym same)
  | inr ne ↦ h i (omega (arith, lt, ne))
]

-- from the end of the list to its front

pub beyond_end : (n m : ℕ) (v : Entries) (x : List Bool) → n ≤ m → AreZeroBeyond n v x m
beyond_end n m v x le y i long at lt h = absurd (omega arith)

pub beyond_one : (n k : ℕ) (v : Entries) (x : List Bool) → bit x k ≡ true → AreZeroBeyond n v x (k + 1) → AreZeroBeyond n v x k
beyond_one n k v x on rest y i long le lt h = elim (cases_eq i k) [
  | inl same ↦ absurd (clash_of (bit x k) (ap (bit x) (sym same) ∙ h.low) on)
  | inr ne ↦ rest y i long (omega (arith, le, ne)) lt h
]

pub beyond_zero : (n k : ℕ) (v : Entries) (x r : List Bool) → r ≡ set x k true → k < length x → AreZeroFrom n v (k + 1) r → AreZeroBeyond n v x (k + 1) → AreZeroBeyond n v x k
beyond_zero n k v x r e within none rest y i long le lt h = elim (cases_eq i k) [
  | inl same ↦
      none y long (shares_more y r k
      (λ j less. sym (h.same j (omega (arith, less, same))) ∙ sym (shares_set x k true j less) ∙ ap (λ z. bit z j) (sym e))
      (ap (bit y) (sym same) ∙ h.high ∙ sym (set_at x k true within) ∙ ap (λ z. bit z k) (sym e)))
  | inr ne ↦ rest y i long (omega (arith, le, ne)) lt h
]

pub beyond_as : (n k j : ℕ) (v : Entries) (x : List Bool) → k ≡ j → AreZeroBeyond n v x k → AreZeroBeyond n v x j
beyond_as n k j v x e h = rw (sym e) h

-- the least list: what holds once the bits from k to i are found
pub record IsSoFar (n : ℕ) (v : Entries) (k : ℕ) (x : List Bool) (i : ℕ) (r : List Bool) : Type 0 where
  pub long : length r ≡ n
  pub shares : Shares k r x
  pub some : IsNonzeroFrom n v i r
  pub first : (y : List Bool) (j : ℕ) → length y ≡ n → Shares k y x → j < i → IsBeforeAt j y r → v y ≡ zero_quad

pub so_far_none : (n : ℕ) (v : Entries) (k : ℕ) (x : List Bool) → length x ≡ n → IsNonzeroFrom n v k x → IsSoFar n v k x k x
so_far_none n v k x long some = record {
  long = long;
  shares = λ i lt. refl;
  some = some;
  first = λ y j ylong shares lt h. absurd (clash_of (bit y j) h.low (shares j lt ∙ h.high));
}

-- a 0, where some entry isn't zero then
pub so_far_low : (n : ℕ) (v : Entries) (k : ℕ) (x : List Bool) (i m : ℕ) (r s : List Bool) → IsSoFar n v k x i r → k ≤ i → i < n → s ≡ set r i false → m ≡ i + 1 → IsNonzeroFrom n v m s → IsSoFar n v k x m s
so_far_low n v k x i m r s h le lt e at some =
    let rlong = h.long in
    record {
      long = ap length e ∙ length-set r i false ∙ h.long;
      shares = λ j less. ap (λ z. bit z j) e ∙ shares_set r i false j (omega (arith, less, le)) ∙ h.shares j less;
      some = some;
      first = λ y j long shares less b. elim (cases_eq j i) [
        | inl same ↦ absurd (clash_of (bit s j) (ap (λ z. bit z j) e ∙ ap (bit (set r i false)) same ∙ set_at r i false (omega (arith, rlong, lt))) b.high)
        | inr ne ↦
            let before : j < i = omega (arith, less, at, ne) in
            h.first y j long shares before (record {
              same = λ l under. b.same l under ∙ ap (λ z. bit z l) e ∙ shares_set r i false l (omega (arith, under, before));
              low = b.low;
              high = sym (shares_set r i false j before) ∙ ap (λ z. bit z j) (sym e) ∙ b.high;
            })
      ];
    }

-- a 1, where all entries with a 0 there are zero
pub so_far_high : (n : ℕ) (v : Entries) (k : ℕ) (x : List Bool) (i m : ℕ) (r s t : List Bool) → IsSoFar n v k x i r → k ≤ i → i < n → s ≡ set r i false → t ≡ set s i true → m ≡ i + 1 → AreZeroFrom n v m s → IsSoFar n v k x m t
so_far_high n v k x i m r s t h le lt e et at none =
    let rlong = h.long in
    let slong : length s ≡ n = ap length e ∙ length-set r i false ∙ h.long in
    let alike : Shares i t r = λ j less. ap (λ z. bit z j) et ∙ shares_set s i true j less ∙ ap (λ z. bit z j) e ∙ shares_set r i false j less in
    let is_one : bit t i ≡ true = ap (λ z. bit z i) et ∙ set_at s i true (omega (arith, slong, lt)) in
    let is_zero : bit s i ≡ false = ap (λ z. bit z i) e ∙ set_at r i false (omega (arith, rlong, lt)) in
    let alike_s : Shares i s r = λ j less. ap (λ z. bit z j) e ∙ shares_set r i false j less in
    let w = h.some in
    record {
      long = ap length et ∙ length-set s i true ∙ slong;
      shares = λ j less. alike j (omega (arith, less, le)) ∙ h.shares j less;
      some = record {
        at = w.at;
        long = w.long;
        shares = elim (cases_Bool (bit w.at i)) [
          | inl on ↦ λ j less. shares_more w.at t i (λ l under. w.shares l under ∙ sym (alike l under)) (on ∙ sym is_one) j (omega (arith, less, at))
          | inr off ↦ absurd (w.nonzero (none w.at w.long (λ j less. shares_more w.at s i (λ l under. w.shares l under ∙ sym (alike_s l under)) (off ∙ sym is_zero) j (omega (arith, less, at)))))
        ];
        nonzero = w.nonzero;
      };
      first = λ y j long shares less b. elim (cases_eq j i) [
        | inl same ↦
            none y long (λ l under. shares_more y s i
            (λ o deep. b.same o (omega (arith, deep, same)) ∙ alike o deep ∙ sym (alike_s o deep))
            (ap (bit y) (sym same) ∙ b.low ∙ sym is_zero) l (omega (arith, under, at)))
        | inr ne ↦
            let before : j < i = omega (arith, less, at, ne) in
            h.first y j long shares before (record {
              same = λ l under. b.same l under ∙ alike l (omega (arith, under, before));
              low = b.low;
              high = sym (alike j before) ∙ b.high;
            })
      ];
    }

pub ext_bits : (x y : List Bool) → length x ≡ length y → ((i : ℕ) → i < length x → bit x i ≡ bit y i) → x ≡ y
ext_bits [] [] len same = refl
ext_bits [] (b ∷ y) len same = absurd (omega arith)
ext_bits (a ∷ x) [] len same = absurd (omega arith)
ext_bits (a ∷ x) (b ∷ y) len same =
    ap (λ c. c ∷ x) (same 0 (omega arith)) ∙ ap (λ l. b ∷ l) (ext_bits x y (omega (arith, len)) (λ i lt. same (suc i) (omega (arith, lt))))

pub least_done : (n : ℕ) (v : Entries) (k : ℕ) (x : List Bool) (i : ℕ) (r : List Bool) → IsSoFar n v k x i r → n ≤ i → IsLeastFrom n v k x r
least_done n v k x i r h le =
    let w = h.some in
    let wlong = w.long in
    let rlong = h.long in
    let is : w.at ≡ r = ext_bits w.at r (w.long ∙ sym h.long) (λ j lt. w.shares j (omega (arith, lt, wlong, le))) in
    record {
      long = h.long;
      shares = h.shares;
      nonzero = λ e. w.nonzero (ap v is ∙ e);
      first = λ y j long shares lt b. h.first y j long shares (omega (arith, lt, le)) b;
    }

-- the answers

pub next_first : (n : ℕ) (v : Entries) (x r : List Bool) → IsLeastFrom n v 0 x r → IsNextNonzero n v None r
next_first n v x r h = record {
  long = h.long;
  after = tt;
  nonzero = h.nonzero;
  first = λ y long a before.
      let b = before_at y r (long ∙ sym h.long) before in
      let lt = b.1 in
      h.first y b.0 long (λ i less. absurd (omega (arith, less))) (omega (arith, lt, long)) b.2;
}

pub none_first : (n : ℕ) (v : Entries) (x : List Bool) → AreZeroFrom n v 0 x → NoneAfter n v None
none_first n v x h y long a = h y long (λ i less. absurd (omega (arith, less)))

pub none_after : (n : ℕ) (v : Entries) (x : List Bool) → length x ≡ n → AreZeroBeyond n v x 0 → NoneAfter n v (Some x)
none_after n v x xlong h y long before =
    let b = before_at x y (xlong ∙ sym long) before in
    let lt = b.1 in
    h y b.0 long (omega arith) (omega (arith, lt, xlong)) b.2

-- y is after x and before r, where r is the least list behind the branch
between : (n : ℕ) (v : Entries) (x : List Bool) (b : Branch) (r y : List Bool) (i j : ℕ) → length x ≡ n → IsBranch n v x b → IsLeastFrom n v (b.place + 1) b.at r → length y ≡ n → i < n → j < n → IsBeforeAt i x y → IsBeforeAt j y r → v y ≡ zero_quad
between n v x b r y i j xlong h least long li lj up down =
    let p = b.place in
    let within = h.within in
    let alike : Shares p b.at x = λ l under. ap (λ z. bit z l) h.is ∙ shares_set x p true l under in
    let on : bit b.at p ≡ true = ap (λ z. bit z p) h.is ∙ set_at x p true (omega (arith, within, xlong)) in
    let r_is_x : Shares p r x = λ l under. least.shares l (omega (arith, under)) ∙ alike l under in
    elim (cases_eq i p) [
      | inl same ↦
          least.first y j long
          (λ l under. shares_more y b.at p (λ o deep. sym (up.same o (omega (arith, deep, same))) ∙ sym (alike o deep)) (ap (bit y) (sym same) ∙ up.high ∙ sym on) l under)
          lj down
      | inr ne ↦ elim (cases_lt i p) [
        | inr past ↦ h.rest y i long (omega (arith, past, ne)) li up
        | inl before ↦ elim (cases_eq j i) [
          | inl same ↦ absurd (clash_of (bit y j) down.low (ap (bit y) same ∙ up.high))
          | inr other ↦ elim (cases_lt j i) [
            | inl less ↦ absurd (clash_of (bit y j) down.low (sym (up.same j less) ∙ sym (r_is_x j (omega (arith, less, before))) ∙ down.high))
            | inr more ↦ absurd (clash_of (bit r i) (r_is_x i before ∙ up.low) (sym (down.same i (omega (arith, more, other))) ∙ up.high))
          ]
        ]
      ]
    ]
  where
    cases_lt : (i k : ℕ) → (i < k) ⊎ (k ≤ i)
    cases_lt i zero = inr (omega arith)
    cases_lt zero (suc k) = inl (omega arith)
    cases_lt (suc i) (suc k) = elim (cases_lt i k) [ inl h ↦ inl (omega (arith, h)) | inr h ↦ inr (omega (arith, h)) ]

pub next_after : (n : ℕ) (v : Entries) (x : List Bool) (b : Branch) (r : List Bool) → length x ≡ n → IsBranch n v x b → IsLeastFrom n v (b.place + 1) b.at r → IsNextNonzero n v (Some x) r
next_after n v x b r xlong h least =
    let p = b.place in
    let within = h.within in
    let alike : Shares p b.at x = λ l under. ap (λ z. bit z l) h.is ∙ shares_set x p true l under in
    let on : bit b.at p ≡ true = ap (λ z. bit z p) h.is ∙ set_at x p true (omega (arith, within, xlong)) in
    record {
      long = least.long;
      after = at_before x r p (xlong ∙ sym least.long) (omega (arith, within, xlong))
          (λ l under. sym (least.shares l (omega (arith, under)) ∙ alike l under)) h.low (least.shares p (omega arith) ∙ on);
      nonzero = least.nonzero;
      first = λ y long up down.
          let a = before_at x y (xlong ∙ sym long) up in
          let c = before_at y r (long ∙ sym least.long) down in
          let la = a.1 in let lc = c.1 in
          between n v x b r y a.0 c.0 xlong h least long (omega (arith, la, xlong)) (omega (arith, lc, long)) a.2 c.2;
    }

pub entry_as : (d : Diagram) (q : Four) (x : List Bool) (a b c e : ℤ) → a ≡ value_at d q.a (bit x) → b ≡ value_at d q.b (bit x) → c ≡ value_at d q.c (bit x) → e ≡ value_at d q.d (bit x) → quad a b c e ≡ entries_in d q x
unfolding entries_in
entry_as d q x a b c e ha hb hc he = rw (← ha, ← hb, ← hc, ← he) refl

-- a written list is as long as before
pub beyond_long : (n : ℕ) (v : Entries) (k : ℕ) (r x : List Bool) → r ≡ set x k true → AreZeroFrom (length r) v (k + 1) r → AreZeroFrom (length x) v (k + 1) r
beyond_long n v k r x e h y long = h y (long ∙ sym (length-set x k true) ∙ ap length (sym e))

pub so_far_as : (n : ℕ) (v : Entries) (k : ℕ) (x : List Bool) (i : ℕ) (r s : List Bool) → s ≡ r → IsSoFar n v k x i r → IsSoFar n v k x i s
so_far_as n v k x i r s e h = rw e h

pub length_zeros : (n : ℕ) → length (replicate {A = Bool} n false) ≡ n
length_zeros zero = refl
length_zeros (suc n) = ap suc (length_zeros n)
