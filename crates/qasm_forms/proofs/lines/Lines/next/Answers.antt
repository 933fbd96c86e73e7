use Rattle.std.proofs.Common.{◌≡◌, ◌∙◌, [], ◌∷◌, sym, ap, is_some, option_map, Option, Some, None, MatchOption, unwrap_or, subst}
use Rattle.qasm_forms.specs.Statements.{Line}
use Rattle.qasm_forms.specs.declared.lines.Line.{Line as CodeLine}
use Rattle.qasm_forms.specs.Shown.{shown_line}
use Rattle.qasm_forms.specs.Private.Parsing.{line_at, lines_read}
use Rattle.qasm_forms.proofs.Definitions.{NextLine, next_line}
use Rattle.qasm_forms.proofs.lines.Lines.next.Goals as goal

first : (c : goal.After-read_line) → NextLine c.self.inside.rest
first c = next_line c.self.inside.rest (sym c.is_empty.ensures ∙ c.if-is_empty.false) c.self.invariant

pub invariant_of-self : goal.invariant_of-self
invariant_of-self c = ap (λ ls. is_some (lines_read [] ls)) c.cut-front.ensures.rest ∙ ap is_some (first c).rest

match_shown : (r : Option CodeLine) (l : Line) (P : Type 0) (Q : Line → Type 0) → option_map shown_line r ≡ Some l → Q l → MatchOption r P (λ x. Q (shown_line x))
match_shown None l P Q e q = absurd cc
match_shown (Some x) l P Q e q = let p : l ≡ shown_line x = cc e in subst Q p q

pub returns : goal.returns
returns c =
    let n = first c in
    match_shown c.read_line.result n.line _ (λ (l : Line). c.args.self.now ≡ l ∷ unwrap_or (lines_read [] c.cut-front.new.self) []) (c.read_line.ensures ∙ ap line_at c.cut-front.ensures.front ∙ n.is)
    (sym c.self.view_is ∙ ap (λ x. unwrap_or x []) n.all ∙ ap (λ r. n.line ∷ r) (sym (ap (λ ls. unwrap_or (lines_read [] ls) []) c.cut-front.ensures.rest ∙ ap (λ x. unwrap_or x []) n.rest)))
