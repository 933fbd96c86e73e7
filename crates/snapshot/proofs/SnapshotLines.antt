-- What the lines of a snapshot say: the children of a node stand before it, and its function is the choice between theirs.
use Rattle.std.proofs.Common.{◌≡◌, ℕ, suc, ◌<◌, true, false, cond, eqb, List, [], ◌∷◌, ◌++◌, map, length, get_or, inl, inr, refl, sym, ◌∙◌, ap, subst, arith, eq-eqb}
use Rattle.std.specs.List.{range_with_len}
use Rattle.std.proofs.lemmas.Bool.{cases_eq, cases_Bool, cond-true, cond-false, ne_eqb, false≢true, false_from_ne_true}
use Rattle.bit_lists.specs.Orders.{has, after, AreVars}
use Rattle.bit_lists.proofs.Variables.{has-tail}
use Rattle.diagram_model.specs.Functions.{Assignment, Function, fix}
use Rattle.diagram_model.proofs.Counting.{ignores_depends}
use Rattle.diagram_model.proofs.Values.{after-after, has-after}
use Rattle.slice_quad.specs.declared.coord.Coord.{Coord}
use Rattle.slice_quad.specs.declared.coord.Coord.TheVariants.{A, B, C, D}
use Rattle.slice_quad.specs.Bits.{int_bit, bits_of}
use Rattle.slice_quad.specs.Mix.{Vector}
use Rattle.slice_quad.specs.Turns.{coordinate}
use Rattle.snapshot.specs.Numbers.{NodeLine, same, knows, number_in, line_of, numbered, never, always}
use Rattle.snapshot.specs.Snapshots.{Snapshot, IsSnapshot, ReadsFirst, bits_in, all_bits, functions_in}
use Rattle.snapshot.proofs.Skipping.{IsBelow, line_here, line_skip}
use Rattle.snapshot.proofs.Listed.{Reads, AllReads, HasBoth, IsEntry, Adds, AllKnown, same_self, same_function, fix_own, all_visited, all_known}

-- ---- numbers of functions that are there
pub number_more : (k : ℕ) (fs gs : List Function) (f : Function) → knows k fs f ≡ true → number_in k (fs ++ gs) f ≡ number_in k fs f
unfolding knows number_in
number_more k [] gs f h = absurd (false≢true h)
number_more k (g ∷ fs) gs f h =
    elim (cases_Bool (same k g f)) [
      | inl is ↦ cond-true (same k g f) 0 (suc (number_in k (fs ++ gs) f)) is ∙ sym (cond-true (same k g f) 0 (suc (number_in k fs f)) is)
      | inr other ↦
          cond-false (same k g f) 0 (suc (number_in k (fs ++ gs) f)) other
          ∙ ap suc (number_more k fs gs f (sym (cond-false (same k g f) true (knows k fs f) other) ∙ h))
          ∙ sym (cond-false (same k g f) 0 (suc (number_in k fs f)) other)
    ]

pub number_below : (k : ℕ) (fs : List Function) (f : Function) → knows k fs f ≡ true → number_in k fs f < length fs
unfolding knows number_in
number_below k [] f h = absurd (false≢true h)
number_below k (g ∷ fs) f h =
    elim (cases_Bool (same k g f)) [
      | inl is ↦ (let e : cond (same k g f) 0 (suc (number_in k fs f)) ≡ 0 = cond-true (same k g f) 0 (suc (number_in k fs f)) is in omega (arith, e))
      | inr other ↦
          (let e : cond (same k g f) 0 (suc (number_in k fs f)) ≡ suc (number_in k fs f) = cond-false (same k g f) 0 (suc (number_in k fs f)) other in
          let rest : number_in k fs f < length fs = number_below k fs f (sym (cond-false (same k g f) true (knows k fs f) other) ∙ h) in
          omega (arith, e, rest))
    ]

-- the function of that number
pub number_function : (k : ℕ) (fs : List Function) (f d : Function) → AllReads k fs → Reads k f → knows k fs f ≡ true → get_or fs (number_in k fs f) d ≡ f
unfolding knows number_in
number_function k [] f d all reads h = absurd (false≢true h)
number_function k (g ∷ fs) f d all reads h =
    elim (cases_Bool (same k g f)) [
      | inl is ↦ ap (λ i. get_or (g ∷ fs) i d) (cond-true (same k g f) 0 (suc (number_in k fs f)) is) ∙ same_function k g f all.0 reads is
      | inr other ↦
          ap (λ i. get_or (g ∷ fs) i d) (cond-false (same k g f) 0 (suc (number_in k fs f)) other)
          ∙ number_function k fs f d all.1 reads (sym (cond-false (same k g f) true (knows k fs f) other) ∙ h)
    ]

-- ---- the line of an entry
after_self : (k : ℕ) (vs : List ℕ) (v : ℕ) → AreVars k vs → has (after vs v) v ≡ false
unfolding has after
after_self k [] v h = refl
after_self k (w ∷ ws) v h =
    elim (cases_eq w v) [
      | inl e ↦ ap (λ l. has l v) (cond-true (eqb w v) ws (after ws v) (eq-eqb w v e)) ∙ subst (λ u. has ws u ≡ false) e h.1
      | inr ne ↦ ap (λ l. has l v) (cond-false (eqb w v) ws (after ws v) (ne_eqb w v ne)) ∙ after_self k ws v h.2
    ]

above_apart : (k : ℕ) (order : List ℕ) (u v : ℕ) → AreVars k order → has (after order u) v ≡ true → has (v ∷ after order v) u ≡ false
above_apart k order u v vars above =
    false_from_ne_true (has (v ∷ after order v) u) (λ h. elim (cases_eq v u) [
      | inl e ↦ false≢true (sym (after_self k order v vars) ∙ ap (λ w. has (after order w) v) e ∙ above)
      | inr ne ↦
          let below : has (after order v) u ≡ true = has-tail v u (after order v) h ne in
          let twice : has (after (after order v) u) v ≡ true = ap (λ l. has l v) (sym (after-after k order v u vars below)) ∙ above in
          false≢true (sym (after_self k order v vars) ∙ has-after (after order v) u v twice)
    ])

entry_below : (k : ℕ) (order : List ℕ) (fs : List Function) (f : Function) → AreVars k order → (h : IsEntry k order fs f) → IsBelow k order h.var f
entry_below k order fs f vars h u above = ignores_depends k u f (h.only u (above_apart k order u h.var vars above))

line : ℕ → ℕ → ℕ → NodeLine
line v l h = record { var = v; low = l; high = h }

-- the line of an entry names its variable, and two functions that stand before it
pub entry_line : (k : ℕ) (order : List ℕ) (before more : List Function) (f : Function) → AreVars k order → (h : IsEntry k order before f)
    → line_of k order (before ++ more) f ≡ record { var = h.var; low = number_in k before (fix h.var false f); high = number_in k before (fix h.var true f) }
unfolding line
entry_line k order before more f vars h =
    let v = h.var in
    let all = before ++ more in
    line_skip k order v all f h.there (entry_below k order before f vars h) ∙ line_here k v (after order v) all f h.depends
    ∙ ap (λ i. line v i (number_in k all (fix v true f))) (number_more k before more (fix v false f) h.low)
    ∙ ap (λ i. line v (number_in k before (fix v false f)) i) (number_more k before more (fix v true f) h.high)

-- a function is the choice between its halves
pub entry_choice : (f : Function) (v : ℕ) (x : Assignment) → f x ≡ fix v (x v) f x
entry_choice f v x = sym (fix_own f v x)

-- ---- those of a snapshot
pub bit_reads : (k : ℕ) (v : Vector) (z : Coord) (i : ℕ) → ReadsFirst k v → Reads k (bits_of v z i)
unfolding bits_of
bit_reads k v z i h x y agree = ap (λ q. int_bit i (coordinate z q)) (h x y agree)

bits_read : (k : ℕ) (v : Vector) (z : Coord) (is : List ℕ) → ReadsFirst k v → AllReads k (map (bits_of v z) is)
bits_read k v z [] h = tt
bits_read k v z (i ∷ is) h = (bit_reads k v z i h, bits_read k v z is h)

reads_append : (k : ℕ) (fs gs : List Function) → AllReads k fs → AllReads k gs → AllReads k (fs ++ gs)
reads_append k [] gs a b = b
reads_append k (f ∷ fs) gs a b = (a.0, reads_append k fs gs a.1 b)

both_constants : (k : ℕ) → HasBoth k (never ∷ always ∷ [])
unfolding knows
both_constants k = (
  cond-true (same k never never) true (cond (same k always never) true false) (same_self k never never refl),
  elim (cases_Bool (same k never always)) [
    | inl is ↦ cond-true (same k never always) true (cond (same k always always) true false) is
    | inr other ↦ cond-false (same k never always) true (cond (same k always always) true false) other ∙ cond-true (same k always always) true false (same_self k always always refl)
  ],
)

pub all_bits_read : (s : Snapshot) → IsSnapshot s → AllReads (length s.order) (all_bits s)
all_bits_read s h =
    let k = length s.order in
    let part : (z : Coord) → AllReads k (bits_in s z) = λ z. bits_read k s.vector z (range_with_len 0 s.width) h.reads in
    reads_append k (bits_in s A ++ bits_in s B ++ bits_in s C) (bits_in s D) (reads_append k (bits_in s A ++ bits_in s B) (bits_in s C) (reads_append k (bits_in s A) (bits_in s B) (part A) (part B)) (part C)) (part D)

-- the functions of a snapshot's nodes stand behind those of their children
pub snapshot_listed : (s : Snapshot) → IsSnapshot s → Adds (length s.order) s.order (never ∷ always ∷ []) (functions_in s)
unfolding numbered
snapshot_listed s h = all_visited (length s.order) s.order (all_bits s) (never ∷ always ∷ []) h.order refl (all_bits_read s h) (both_constants (length s.order))

-- and those of its bits are among them
pub bits_known : (s : Snapshot) → IsSnapshot s → AllKnown (length s.order) (functions_in s) (all_bits s)
unfolding numbered
bits_known s h = all_known (length s.order) s.order (all_bits s) (never ∷ always ∷ []) h.order refl (all_bits_read s h) (both_constants (length s.order))
