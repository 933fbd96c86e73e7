use Rattle.std.proofs.Common.{◌≡◌, ℕ, ◌+◌, ◌-◌, ◌^◌, ◌<◌, ◌≤◌, ◌⊎◌, inl, inr, ap, subst, ◌∙◌, arith, pow_mono, Option, Some, None}
use Rattle.std.specs.Option.{SomeIff}
use Rattle.gate_set.specs.Private.{block_arity, entry_at, block_matrix}
use Rattle.gate_set.proofs.table.Row.entry.Goals as goal
use Rattle.gate_set.proofs.table.Row.entry.Goals.{in_default-via-in-Some+in_default, in_default-via-in_default}
use Rattle.gate_set.proofs.TableLemmas.{row-block, row-diagonal, row-beside}

at_some : (r : Option ℕ) (P : Type 0) (v x : ℕ) → SomeIff r P v → r ≡ Some x → P × (x ≡ v)
at_some r P v x s e = subst (λ o. SomeIff o P v) e s

at_none : (r : Option ℕ) (P : Type 0) (v : ℕ) → SomeIff r P v → r ≡ None → ¬ P
at_none r P v s e = subst (λ o. SomeIff o P v) e s

-- where the block begins
begins : (n a s t : ℕ) → s ≡ 2 ^ (n + a) → t ≡ 2 ^ a → s - t + 2 ^ a ≡ 2 ^ (n + a)
begins n a s t es et = let less : 2 ^ a ≤ 2 ^ (n + a) = pow_mono (omega arith) in omega arith

not_above : (f k : ℕ) → ¬ (f ≤ k) → k < f
not_above f k h = omega arith

pub overflow_sub-first : goal.overflow_sub-first
overflow_sub-first c =
    let b = c.args.self.now.block in
    let n = c.args.self.now.controls in
    let less : 2 ^ block_arity b ≤ 2 ^ (n + block_arity b) = pow_mono (omega arith) in
    rw (c.side-2.ensures, c.side.ensures, c.arity.ensures.value) less

pub returns-in-Some-Some : goal.returns-in-Some-Some
returns-in-Some-Some c =
    let b = c.args.self.now.block in
    let n = c.args.self.now.controls in
    let first = c.side.result - c.side-2.result in
    let at = begins n (block_arity b) c.side.result c.side-2.result c.side.ensures (c.side-2.ensures ∙ ap (λ k. 2 ^ k) c.arity.ensures.value) in
    let rows = at_some _ _ _ _ c.checked_sub.ensures c.in-Some-Some.is-0 in
    let cols = at_some _ _ _ _ c.checked_sub-2.ensures c.in-Some-Some.is-1 in
    c.entry.ensures ∙ ap (λ k. entry_at (block_matrix b) k c.in-Some-Some.col) rows.1 ∙ ap (λ k. entry_at (block_matrix b) (c.args.row - first) k) cols.1
    ∙ row-block n first b at c.args.row c.args.col c.requires.row rows.0 cols.0

pub returns-in_default : goal.returns-in_default
returns-in_default c =
    let b = c.args.self.now.block in
    let n = c.args.self.now.controls in
    let first = c.side.result - c.side-2.result in
    let at = begins n (block_arity b) c.side.result c.side-2.result c.side.ensures (c.side-2.ensures ∙ ap (λ k. 2 ^ k) c.arity.ensures.value) in
    let early : (c.args.row < first) ⊎ (c.args.col < first) =
    elim c.in_default.branch [
      | in_default-via-in-Some+in_default w ↦ inr (not_above _ _ (at_none _ _ _ c.checked_sub-2.ensures w.in_default.is-1))
      | in_default-via-in_default w ↦ inl (not_above _ _ (at_none _ _ _ c.checked_sub.ensures w.in_default.is-0))
    ] in
    row-diagonal n first b at c.args.row c.args.col early c.if-row-col.true

pub returns-in_default-2 : goal.returns-in_default-2
returns-in_default-2 c =
    let b = c.args.self.now.block in
    let n = c.args.self.now.controls in
    let first = c.side.result - c.side-2.result in
    let at = begins n (block_arity b) c.side.result c.side-2.result c.side.ensures (c.side-2.ensures ∙ ap (λ k. 2 ^ k) c.arity.ensures.value) in
    let early : (c.args.row < first) ⊎ (c.args.col < first) =
    elim c.in_default.branch [
      | in_default-via-in-Some+in_default w ↦ inr (not_above _ _ (at_none _ _ _ c.checked_sub-2.ensures w.in_default.is-1))
      | in_default-via-in_default w ↦ inl (not_above _ _ (at_none _ _ _ c.checked_sub.ensures w.in_default.is-0))
    ] in
    row-beside n first b at c.args.row c.args.col c.requires.row c.requires.col early c.if-row-col.false
