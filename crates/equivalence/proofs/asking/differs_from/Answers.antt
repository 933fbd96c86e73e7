use Rattle.std.proofs.Common.{◌≡◌, ◌+◌, Bool, true, false, replicate, length, ◌∙◌, ap}
use Rattle.std.proofs.lemmas.Result.{IfOk-weaker}
use Rattle.diagram_model.specs.Stores.{Diagram}
use Rattle.slice_quad.specs.declared.coord.Coord.TheVariants.{A, B, C, D}
use Rattle.slice_quad.specs.Walks.{IsNonzeroFrom, AreZeroFrom}
use Rattle.equivalence.specs.Matrices.{matrix_in}
use Rattle.equivalence.specs.Positions.{rest_at, IsUnlike, AreAlike}
use Rattle.equivalence.proofs.Rests.{IsAsked, differs_there, same_there}
use Rattle.equivalence.proofs.asking.differs_from.Goals as goal

pub is_unlike-requires-clause-stands : goal.is_unlike-requires-clause-stands
is_unlike-requires-clause-stands c = c.requires.stands.integers A

pub is_unlike-requires-2-clause-stands : goal.is_unlike-requires-2-clause-stands
is_unlike-requires-2-clause-stands c = c.requires.stands.integers B

pub is_unlike-requires-3-clause-stands : goal.is_unlike-requires-3-clause-stands
is_unlike-requires-3-clause-stands c = c.requires.stands.integers C

pub is_unlike-requires-4-clause-stands : goal.is_unlike-requires-4-clause-stands
is_unlike-requires-4-clause-stands c = c.requires.stands.integers D

pub returns-then-branch-clause-yes : goal.returns-then-branch-clause-yes
returns-then-branch-clause-yes c = λ e.
    let n = c.args.qubits in let d = c.args.d.now.store in let q = c.args.q.now in let x = c.args.x.now in let zeros = c.zeros-zeros.result in let p = c.fixed_at-p.result in
    let vars : c.len.result ≡ n + n = c.len.ensures.value ∙ ap length c.order.ensures ∙ ap (λ (s : Diagram). length s.order) c.store.ensures.value ∙ c.requires.variables in
    let asked : IsAsked n d q x c.args.k zeros p = record { variables = c.requires.variables; kept = c.requires.kept; zeros_are = c.zeros-zeros.ensures ∙ ap (λ m. replicate m false) vars; fixed = c.fixed_at-p.ensures } in
    differs_there n d q x c.args.k zeros p A asked (c.in_ok-is_unlike.ensures.yes c.if-branch.true)

pub returns-then-branch-2-clause-yes : goal.returns-then-branch-2-clause-yes
returns-then-branch-2-clause-yes c = λ e.
    let n = c.args.qubits in let d = c.args.d.now.store in let q = c.args.q.now in let x = c.args.x.now in let zeros = c.zeros-zeros.result in let p = c.fixed_at-p.result in
    let vars : c.len.result ≡ n + n = c.len.ensures.value ∙ ap length c.order.ensures ∙ ap (λ (s : Diagram). length s.order) c.store.ensures.value ∙ c.requires.variables in
    let asked : IsAsked n d q x c.args.k zeros p = record { variables = c.requires.variables; kept = c.requires.kept; zeros_are = c.zeros-zeros.ensures ∙ ap (λ m. replicate m false) vars; fixed = c.fixed_at-p.ensures } in
    differs_there n d q x c.args.k zeros p B asked (c.in_ok-is_unlike-2.ensures.yes c.if-branch-2.true)

pub returns-then-branch-3-clause-yes : goal.returns-then-branch-3-clause-yes
returns-then-branch-3-clause-yes c = λ e.
    let n = c.args.qubits in let d = c.args.d.now.store in let q = c.args.q.now in let x = c.args.x.now in let zeros = c.zeros-zeros.result in let p = c.fixed_at-p.result in
    let vars : c.len.result ≡ n + n = c.len.ensures.value ∙ ap length c.order.ensures ∙ ap (λ (s : Diagram). length s.order) c.store.ensures.value ∙ c.requires.variables in
    let asked : IsAsked n d q x c.args.k zeros p = record { variables = c.requires.variables; kept = c.requires.kept; zeros_are = c.zeros-zeros.ensures ∙ ap (λ m. replicate m false) vars; fixed = c.fixed_at-p.ensures } in
    differs_there n d q x c.args.k zeros p C asked (c.in_ok-is_unlike-3.ensures.yes c.if-branch-3.true)

pub returns-clause-yes : goal.returns-clause-yes
returns-clause-yes c =
    let n = c.args.qubits in let d = c.args.d.now.store in let q = c.args.q.now in let x = c.args.x.now in let zeros = c.zeros-zeros.result in let p = c.fixed_at-p.result in
    let vars : c.len.result ≡ n + n = c.len.ensures.value ∙ ap length c.order.ensures ∙ ap (λ (s : Diagram). length s.order) c.store.ensures.value ∙ c.requires.variables in
    let asked : IsAsked n d q x c.args.k zeros p = record { variables = c.requires.variables; kept = c.requires.kept; zeros_are = c.zeros-zeros.ensures ∙ ap (λ m. replicate m false) vars; fixed = c.fixed_at-p.ensures } in
    IfOk-weaker c.is_unlike-4.result (λ (b : Bool). b ≡ true → IsUnlike d q.kept.0 zeros q.four.d p) (λ (b : Bool). b ≡ true → IsNonzeroFrom (n + n) (rest_at n (matrix_in d q)) c.args.k x)
    (λ b h e. differs_there n d q x c.args.k zeros p D asked (h e)) c.is_unlike-4.ensures.yes

pub returns-clause-no : goal.returns-clause-no
returns-clause-no c =
    let n = c.args.qubits in let d = c.args.d.now.store in let q = c.args.q.now in let x = c.args.x.now in let zeros = c.zeros-zeros.result in let p = c.fixed_at-p.result in
    let vars : c.len.result ≡ n + n = c.len.ensures.value ∙ ap length c.order.ensures ∙ ap (λ (s : Diagram). length s.order) c.store.ensures.value ∙ c.requires.variables in
    let asked : IsAsked n d q x c.args.k zeros p = record { variables = c.requires.variables; kept = c.requires.kept; zeros_are = c.zeros-zeros.ensures ∙ ap (λ m. replicate m false) vars; fixed = c.fixed_at-p.ensures } in
    IfOk-weaker c.is_unlike-4.result (λ (b : Bool). b ≡ false → AreAlike d q.kept.0 zeros q.four.d p) (λ (b : Bool). b ≡ false → AreZeroFrom (n + n) (rest_at n (matrix_in d q)) c.args.k x)
    (λ b h e. same_there n d q x c.args.k zeros p asked (c.in_ok-is_unlike.ensures.no c.if-branch.false) (c.in_ok-is_unlike-2.ensures.no c.if-branch-2.false) (c.in_ok-is_unlike-3.ensures.no c.if-branch-3.false) (h e)) c.is_unlike-4.ensures.no
