-- Entries of a matrix with further controls, by those with one control fewer.
use Rattle.std.proofs.Common.{◌≡◌, ◌≢◌, ◌⊎◌, inl, inr, ℕ, zero, suc, ◌+◌, ◌-◌, ◌^◌, ◌<◌, ◌≤◌, refl, sym, ◌∙◌, ap, Bool, true, false, cond, ◌&&◌, nat_le, arith}
use Rattle.std.specs.Prelude.{◌==◌}
use Rattle.std.proofs.Math.Nat.{pow-suc}
use Rattle.std.proofs.Math.Pow.{pow_mono}
use Rattle.std.proofs.lemmas.Bool.{le-leb, ne_eqb, cases_eq}
use Rattle.std.proofs.lemmas.Bool.Decides.{leb_tells}
use Rattle.std.proofs.Common.{eq-eqb}
use Rattle.gate_set.specs.declared.entry.Entry.{Entry}
use Rattle.gate_set.specs.declared.entry.Entry.TheVariants.{Zero, Omega, Root2}
use Rattle.gate_set.specs.declared.kind.Kind.{Kind}
use Rattle.gate_set.specs.Matrix.{arity_of, entry_of, beside, block_start, controlled_entry}

-- how many rows there are with e further controls
abbrev pub side_of : ℕ → Kind → ℕ
side_of e k = 2 ^ (e + arity_of k)

pub side-suc : (e : ℕ) (k : Kind) → side_of (suc e) k ≡ side_of e k + side_of e k
side-suc e k =
    let next : suc e + arity_of k ≡ suc (e + arity_of k) = omega arith in
    omega (arith, pow-suc 2 (e + arity_of k), ap (λ n. 2 ^ n) next)

pub side-most : (e : ℕ) (k : Kind) → 2 ^ arity_of k ≤ side_of e k
side-most e k = pow_mono (omega arith)

pub side-none : (k : Kind) → side_of 0 k ≡ 2 ^ arity_of k
side-none k = let e : 0 + arity_of k ≡ arity_of k = omega arith in ap (λ n. 2 ^ n) e

start-none : (k : Kind) → block_start 0 k ≡ 0
start-none k = omega (arith, side-none k)

start-suc : (e : ℕ) (k : Kind) → block_start (suc e) k ≡ side_of e k + block_start e k
start-suc e k = omega (arith, side-suc e k, side-most e k)

-- the two tests
both_true : (s r c : ℕ) → s ≤ r → s ≤ c → (nat_le s r && nat_le s c) ≡ true
both_true s r c hr hc = ap (λ b. b && nat_le s c) (le-leb s r hr) ∙ le-leb s c hc

not_first : (s r c : ℕ) → r < s → (nat_le s r && nat_le s c) ≡ false
not_first s r c h = elim (leb_tells s r) [ inl t ↦ absurd (let e = t.1 in omega (arith, e, h)) | inr t ↦ ap (λ b. b && nat_le s c) t.0 ]

not_second : (s r c : ℕ) → c < s → (nat_le s r && nat_le s c) ≡ false
not_second s r c h = elim (leb_tells s c) [ inl t ↦ absurd (let e = t.1 in omega (arith, e, h)) | inr t ↦ ap (λ b. nat_le s r && b) t.0 ∙ none (nat_le s r) ]
  where
    none : (b : Bool) → (b && false) ≡ false
    none true = refl
    none false = refl

abbrev pub Besides : Kind → ℕ → ℕ → Entry
Besides k r c = cond (r == c) (beside k) Zero

-- in the block, and beside it
pub in_block : (e : ℕ) (k : Kind) (r c : ℕ) → block_start e k ≤ r → block_start e k ≤ c → controlled_entry e k r c ≡ entry_of k (r - block_start e k) (c - block_start e k)
unfolding controlled_entry
in_block e k r c hr hc = ap (λ b. cond b (entry_of k (r - block_start e k) (c - block_start e k)) (Besides k r c)) (both_true (block_start e k) r c hr hc)

pub out_of_block : (e : ℕ) (k : Kind) (r c : ℕ) → (r < block_start e k) ⊎ (c < block_start e k) → controlled_entry e k r c ≡ Besides k r c
unfolding controlled_entry
out_of_block e k r c (inl h) = ap (λ b. cond b (entry_of k (r - block_start e k) (c - block_start e k)) (Besides k r c)) (not_first (block_start e k) r c h)
out_of_block e k r c (inr h) = ap (λ b. cond b (entry_of k (r - block_start e k) (c - block_start e k)) (Besides k r c)) (not_second (block_start e k) r c h)

pub besides_same : (k : Kind) (r : ℕ) → Besides k r r ≡ beside k
besides_same k r = ap (λ b. cond b (beside k) Zero) (eq-eqb r r refl)

pub besides_other : (k : Kind) (r c : ℕ) → r ≢ c → Besides k r c ≡ Zero
besides_other k r c ne = ap (λ b. cond b (beside k) Zero) (ne_eqb r c ne)

-- without further controls it is the kind's entry
pub entry-none : (k : Kind) (r c : ℕ) → controlled_entry 0 k r c ≡ entry_of k r c
entry-none k r c =
    let s = start-none k in
    let er : r - block_start 0 k ≡ r = omega (arith, s) in
    let ec : c - block_start 0 k ≡ c = omega (arith, s) in
    in_block 0 k r c (omega (arith, s)) (omega (arith, s)) ∙ ap (λ n. entry_of k n (c - block_start 0 k)) er ∙ ap (entry_of k r) ec

-- ---- one control more, the first
abbrev Falls : ℕ → ℕ → ℕ → Type 0
Falls s r c = (s ≤ r) × (s ≤ c)

block_cases : (s r c : ℕ) → Falls s r c ⊎ ((r < s) ⊎ (c < s))
block_cases s r c = elim (leb_tells s r) [
  | inl a ↦ elim (leb_tells s c) [ inl b ↦ inl (a.1, b.1) | inr b ↦ inr (inr b.1) ]
  | inr a ↦ inr (inl a.1)
]

same_test : (n r c : ℕ) → (n + r == n + c) ≡ (r == c)
same_test n r c = elim (cases_eq r c) [
  | inl e ↦ eq-eqb (n + r) (n + c) (ap (λ k. n + k) e) ∙ sym (eq-eqb r c e)
  | inr ne ↦ ne_eqb (n + r) (n + c) (λ e. ne (omega (arith, e))) ∙ sym (ne_eqb r c ne)
]

-- where it is 1 in row and column
pub entry-one : (e : ℕ) (k : Kind) (r c : ℕ) → controlled_entry (suc e) k (side_of e k + r) (side_of e k + c) ≡ controlled_entry e k r c
entry-one e k r c = by (block_cases (block_start e k) r c)
  where
    n : ℕ
    n = side_of e k

    by : Falls (block_start e k) r c ⊎ ((r < block_start e k) ⊎ (c < block_start e k)) → controlled_entry (suc e) k (side_of e k + r) (side_of e k + c) ≡ controlled_entry e k r c
    by (inl (hr, hc)) =
        let s = start-suc e k in
        let er : side_of e k + r - block_start (suc e) k ≡ r - block_start e k = omega (arith, s) in
        let ec : side_of e k + c - block_start (suc e) k ≡ c - block_start e k = omega (arith, s) in
        in_block (suc e) k (side_of e k + r) (side_of e k + c) (omega (arith, s, hr)) (omega (arith, s, hc))
        ∙ ap (λ i. entry_of k i (side_of e k + c - block_start (suc e) k)) er ∙ ap (entry_of k (r - block_start e k)) ec
        ∙ sym (in_block e k r c hr hc)
    by (inr (inl h)) =
        let s = start-suc e k in
        out_of_block (suc e) k (side_of e k + r) (side_of e k + c) (inl (omega (arith, s, h)))
        ∙ ap (λ b. cond b (beside k) Zero) (same_test (side_of e k) r c) ∙ sym (out_of_block e k r c (inl h))
    by (inr (inr h)) =
        let s = start-suc e k in
        out_of_block (suc e) k (side_of e k + r) (side_of e k + c) (inr (omega (arith, s, h)))
        ∙ ap (λ b. cond b (beside k) Zero) (same_test (side_of e k) r c) ∙ sym (out_of_block e k r c (inr h))

-- where it is 0 in one of them
pub entry-diagonal : (e : ℕ) (k : Kind) (r : ℕ) → r < side_of e k → controlled_entry (suc e) k r r ≡ beside k
entry-diagonal e k r h = let s = start-suc e k in out_of_block (suc e) k r r (inl (omega (arith, s, h))) ∙ besides_same k r

pub entry-beside : (e : ℕ) (k : Kind) (r c : ℕ) → (r < side_of e k) ⊎ (c < side_of e k) → r ≢ c → controlled_entry (suc e) k r c ≡ Zero
entry-beside e k r c (inl h) ne = let s = start-suc e k in out_of_block (suc e) k r c (inl (omega (arith, s, h))) ∙ besides_other k r c ne
entry-beside e k r c (inr h) ne = let s = start-suc e k in out_of_block (suc e) k r c (inr (omega (arith, s, h))) ∙ besides_other k r c ne
