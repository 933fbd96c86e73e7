use Rattle.std.proofs.Common.{rules}
use Rattle.sliq_words.proofs.syntax.add_word.Goals as goal

pub returns : goal.returns
returns c = rw c.in-Some.is (search rules)
