use Rattle.qasm_lex.proofs.Cuts.{tokens_exist}
use Rattle.qasm_lex.proofs.laws.every_text_has_tokens.Goals as goal

pub returns : goal.returns
returns c text = tokens_exist text
