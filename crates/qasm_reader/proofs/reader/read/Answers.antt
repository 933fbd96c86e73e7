use Rattle.std.proofs.Common.{◌≡◌, ◌∙◌, sym, ap, subst, arith, ◌≤◌, length}
use Rattle.std.proofs.lemmas.List.{length-map}
use Rattle.qasm_lex.proofs.Counts.{tokens_few}
use Rattle.qasm_lex.proofs.LexemeCuts.{are_lexemes, lexemes_same}
use Rattle.qasm_lex.specs.Lexemes.{AreLexemes, lexemes_of}
use Rattle.qasm_reader.specs.Parts.{parts_of}
use Rattle.qasm_reader.specs.Reading.{Reads}
use Rattle.qasm_reader.proofs.OneReading.{found_so, refused_so, says_one}
use Rattle.qasm_reader.proofs.reader.read.Goals as goal

read_lexemes : (c : goal.After-drop-tokens) → AreLexemes c.args.text.now c.new-lexemes.result c.in_ok-tokens.tokens.bad
read_lexemes c =
    let text = c.args.text.now in
    let bad = c.in_ok-tokens.tokens.bad in
    subst (λ l. AreLexemes text l bad) (sym (c.new-lexemes.ensures ∙ ap (lexemes_of text) c.deref.ensures.value)) (are_lexemes text c.in_ok-tokens.tokens.list.items bad c.in_ok-tokens.ensures.tokens)

pub read_statements-requires-clause-short : goal.read_statements-requires-clause-short
read_statements-requires-clause-short c =
    let few : length c.in_ok-tokens.tokens.list.items ≤ length c.args.text.now =
    tokens_few c.args.text.now c.in_ok-tokens.tokens.list.items c.in_ok-tokens.tokens.bad c.in_ok-tokens.ensures.tokens in
    let same : length c.new-lexemes.result ≡ length c.in_ok-tokens.tokens.list.items = ap length c.new-lexemes.ensures ∙ length-map _ _ ∙ ap length c.deref.ensures.value in
    let short = c.requires.short in
    omega arith

pub returns-clause-circuit : goal.returns-clause-circuit
returns-clause-circuit c = found_so c.args.text.now c.args.limit c.new-lexemes.result c.in_ok-tokens.tokens.bad (read_lexemes c) c.read_statements.result c.read_statements.ensures.circuit

pub returns-clause-refused : goal.returns-clause-refused
returns-clause-refused c = refused_so c.args.text.now c.args.limit c.new-lexemes.result c.in_ok-tokens.tokens.bad (read_lexemes c) c.read_statements.result c.read_statements.ensures.refused

pub returns-clause-only : goal.returns-clause-only
returns-clause-only c reading x =
    let lexemes = c.new-lexemes.result in
    let bad = c.in_ok-tokens.tokens.bad in
    let same = lexemes_same c.args.text.now x.lexemes lexemes x.bad bad x.are_lexemes (read_lexemes c) in
    let r : Reads c.args.limit (parts_of lexemes bad) reading =
    subst (λ ls. Reads c.args.limit (parts_of ls bad) reading) same.0 (subst (λ b. Reads c.args.limit (parts_of x.lexemes b) reading) same.1 x.reads) in
    says_one c.args.limit (parts_of lexemes bad) c.read_statements.result c.read_statements.ensures.circuit c.read_statements.ensures.refused reading r
