use Rattle.std.proofs.Common.{◌≡◌, ◌∙◌, sym, ap, subst, List}
use Rattle.qasm_forms.specs.Cutting.{begins_left}
use Rattle.qasm_forms.specs.Statements.{IsStatement, ended, written}
use Rattle.qasm_forms.specs.Shown.{shown}
use Rattle.qasm_forms.specs.Private.Fronts.{seen_end}
use Rattle.qasm_reader.specs.Profile.{leaves}
use Rattle.qasm_gates.specs.Private.Views.{View}
use Rattle.qasm_reader.specs.Acts.{Act}
use Rattle.qasm_reader.specs.Reasons.{Refuses}
use Rattle.qasm_reader.specs.Private.Scope.{leaves_by}
use Rattle.qasm_reader.specs.Private.Drafts.{ended_part, step, Knows}
use Rattle.qasm_reader.proofs.Following.{no_statement, out_of_place, carried_out, none_shown, some_shown, differs, agrees}
use Rattle.std.proofs.lemmas.Result.{IfOk-weaker}
use Rattle.qasm_reader.proofs.reader.follow.Goals.{After-begins_left-left}
use Rattle.qasm_reader.proofs.reader.follow.Goals as goal

-- what is left out, where these gates are known
left : (c : After-begins_left-left) (before : List Act) → Knows before c.args.gates.now → c.begins_left-left.result ≡ begins_left (leaves before) c.args.part.now
left c before k = c.begins_left-left.ensures ∙ ap (λ (v : View). begins_left (leaves_by v.definitions) c.args.part.now) k.shows

pub returns-in_default : goal.returns-in_default
returns-in_default c before f k e =
    subst (Refuses c.args.limit before (ended_part c.args.part.now (seen_end c.args.end))) (sym c.no_form.ensures)
    (no_statement c.args.limit before c.args.part.now (seen_end c.args.end) c.args.first e
    (λ s g w. none_shown c.read_statement.result s c.in_default.is (c.read_statement.ensures.only (leaves before) s (left (goal.at.returns-in_default c).After-begins_left-left before k) g w)))

pub returns-then-is_version-first : goal.returns-then-is_version-first
returns-then-is_version-first c before f k e =
    let s = shown c.in-Some.form in
    let r = some_shown c.read_statement.result c.in-Some.form (λ form. IsStatement (leaves before) (shown form) × (ended c.args.part.now (seen_end c.args.end) ≡ written (shown form))) c.in-Some.is
    (c.read_statement.ensures.found (leaves before) (left (goal.at.returns-then-is_version-first c).After-begins_left-left before k)) in
    let n = differs c.is_version.result c.args.first c.if-is_version-first.true in
    subst (Refuses c.args.limit before (ended_part c.args.part.now (seen_end c.args.end))) (sym c.no_form-then-is_version-first.ensures)
    (out_of_place c.args.limit before c.args.part.now (seen_end c.args.end) s c.args.first e r.0 r.1 (λ q. n (c.is_version.ensures ∙ q)))

pub returns : goal.returns
returns c =
    let s = shown c.in-Some.form in
    let same = agrees c.is_version.result c.args.first c.if-is_version-first.false in
    IfOk-weaker c.carry_out.result _ _
    (λ why h before f k e.
    (let r = some_shown c.read_statement.result c.in-Some.form (λ form. IsStatement (leaves before) (shown form) × (ended c.args.part.now (seen_end c.args.end) ≡ written (shown form))) c.in-Some.is
    (c.read_statement.ensures.found (leaves before) (left (goal.at.returns c).After-begins_left-left before k)) in
    carried_out c.args.limit before c.args.part.now (seen_end c.args.end) c.requires.few c.args.draft.now f c.args.gates.now k s c.args.first e (sym c.is_version.ensures ∙ same) r.0 r.1 why c.carry_out.new.self
    (h ∙ ap (λ (v : View). step c.args.limit c.args.draft.now v.definitions s) k.shows)))
    c.carry_out.ensures
