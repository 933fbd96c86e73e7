use Rattle.std.proofs.Common.{◌≡◌, ◌<◌, ◌+◌, ℕ, List, [], ◌∷◌, ◌++◌, map, length, set, false, ap, sym, subst, ◌∙◌, arith, length-append}
use Rattle.std.proofs.lemmas.List.{map-append, length-map}
use Rattle.bit_lists.specs.Orders.{has}
use Rattle.node_store.specs.declared.node.Node.{Node}
use Rattle.snapshot.specs.Private.{AreNumbers}
use Rattle.snapshot.proofs.NumberingLemmas.{pushed_numbers}
use Rattle.snapshot.proofs.numbering.Numbering.push.Goals as goal

pub invariant_of-self-2 : goal.invariant_of-self-2
invariant_of-self-2 c =
    let old = c.self.inside.listed.items in
    let new = c.push.new.self.items in
    let numbers : List Node → List ℕ = λ l. map (λ n. n.0) l in
    let items : new ≡ old ++ c.args.n ∷ [] = c.in_ok-push.ensures.items in
    let longer : length new ≡ length old + 1 = ap length items ∙ length-append old (c.args.n ∷ []) in
    let same : numbers new ≡ numbers old ++ c.args.n.0 ∷ [] = ap numbers items ∙ map-append (λ n. n.0) old (c.args.n ∷ []) in
    let lacks : has (0 ∷ 1 ∷ numbers old) c.args.n.0 ≡ false = ap (λ s. has s.nodes c.args.n.0) c.self.view_is ∙ c.requires.new in
    let within : c.args.n.0 < length c.self.inside.numbers.items = subst (λ k. c.args.n.0 < k) (sym (ap (λ s. s.past) c.self.view_is)) c.requires.place in
    let value : c.len-2.result + 1 ≡ length (numbers old) + 2 = omega (arith, c.len-2.ensures, longer, length-map old (λ (n : Node). n.0)) in
    (subst (λ (l : List ℕ). AreNumbers l (set c.self.inside.numbers.items c.args.n.0 (c.len-2.result + 1))) (sym same) (pushed_numbers (numbers old) c.self.inside.numbers.items c.args.n.0 (c.len-2.result + 1) c.self.invariant.0 lacks within value), omega (arith, longer, c.if-len-ge-MOST.false, c.len.ensures))
