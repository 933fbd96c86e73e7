use Rattle.std.proofs.Common.{rules, List, lit<, ◌≡◌, ◌≤◌, ◌∙◌, ◌++◌, ◌∷◌, [], sym, ap, subst, get_or, pos, length, true, false}
use Rattle.qasm_lex.specs.declared.symbol.Symbol.{Symbol}
use Rattle.qasm_gates.specs.declared.codes.Code.{Code}
use Rattle.qasm_gates.specs.Private.Codes.{is_end, symbol_by, unpacked}
use Rattle.qasm_gates.proofs.Packing.{one_more, room, at_end, none_left}
use Rattle.qasm_gates.proofs.codes.symbols_in.Goals as goal

pub returns-then-is_end : goal.returns-then-is_end
returns-then-is_end c =
    let r : c.loop-code.rest.now ≡ c.in-Some.code.now ∷ c.in-Some.after.now = search rules in
    let e : is_end c.in-Some.code.now ≡ true = sym c.is_end.ensures ∙ c.if-is_end.true in
    sym (at_end c.loop-code.symbols.items c.in-Some.code.now c.in-Some.after.now c.loop-code.left.now e)
    ∙ ap (λ (codes : List Code). c.loop-code.symbols.items ++ unpacked codes c.loop-code.left.now) (sym r) ∙ c.loop-code.invariant

pub push-requires : goal.push-requires
push-requires c =
    let r : c.loop-code.rest.now ≡ c.in-Some.code.now ∷ c.in-Some.after.now = search rules in
    let e : is_end c.in-Some.code.now ≡ false = sym c.is_end.ensures ∙ c.if-is_end.false in
    let short : length (c.loop-code.symbols.items ++ unpacked (c.in-Some.code.now ∷ c.in-Some.after.now) c.loop-code.left.now) ≤ 64 =
    subst (λ (s : List Symbol). length s ≤ 64) (sym (ap (λ (codes : List Code). c.loop-code.symbols.items ++ unpacked codes c.loop-code.left.now) (sym r) ∙ c.loop-code.invariant)) c.requires in
    (lit< tt, room c.loop-code.symbols.items c.in-Some.code.now c.in-Some.after.now c.loop-code.left.now e short)

pub loop-code-preserved : goal.loop-code-preserved
loop-code-preserved c =
    let r : c.loop-code.rest.now ≡ c.in-Some.code.now ∷ c.in-Some.after.now = search rules in
    let e : is_end c.in-Some.code.now ≡ false = sym c.is_end.ensures ∙ c.if-is_end.false in
    let p : c.push.new.self.items ≡ c.loop-code.symbols.items ++ c.symbol.result ∷ [] = search rules in
    ap (λ (s : List Symbol). s ++ unpacked c.in-Some.after.now c.rest_numbers-left.result.now) p
    ∙ ap (λ (s : Symbol). (c.loop-code.symbols.items ++ s ∷ []) ++ unpacked c.in-Some.after.now c.rest_numbers-left.result.now) c.symbol.ensures
    ∙ ap (λ numbers. (c.loop-code.symbols.items ++ symbol_by c.in-Some.code.now (get_or c.loop-code.left.now 0 (pos 0)) ∷ []) ++ unpacked c.in-Some.after.now numbers) c.rest_numbers-left.ensures
    ∙ sym (one_more c.loop-code.symbols.items c.in-Some.code.now c.in-Some.after.now c.loop-code.left.now e)
    ∙ ap (λ (codes : List Code). c.loop-code.symbols.items ++ unpacked codes c.loop-code.left.now) (sym r) ∙ c.loop-code.invariant

pub returns : goal.returns
returns c =
    let none : length c.loop-code.rest.now ≡ 0 = search rules in
    sym (none_left c.loop-code.symbols.items c.loop-code.rest.now c.loop-code.left.now none) ∙ c.loop-code.invariant
