use Rattle.std.proofs.Common.{◌≡◌, ℕ, List, map, length, replicate, slice_index_or, ap, sym, subst, ◌∙◌, arith}
use Rattle.node_store.specs.declared.node.Node.{Node}
use Rattle.snapshot.specs.Private.{AreNumbers}
use Rattle.snapshot.proofs.NumberingLemmas.{no_numbers, zeros_none}
use Rattle.snapshot.proofs.numbering.Numbering.new.Goals as goal

pub invariant_of-result : goal.invariant_of-result
invariant_of-result c =
    let ks = c.in_ok-vec.field-0.items in
    let items : ks ≡ replicate {A = ℕ} c.args.past 0 = c.in_ok-vec.ensures.items_if_clones_equal (λ y e. e) in
    let empty = c.new.ensures.items in
    let none : (n : ℕ) → slice_index_or ks n 0 ≡ 0 = λ n. ap (λ l. slice_index_or l n 0) items ∙ zeros_none c.args.past n in
    (subst (λ (l : List Node). AreNumbers (map (λ n. n.0) l) ks) (sym empty) (no_numbers ks none), omega (arith, ap length empty))
