use Rattle.sliq_words.specs.Forms.{form_of}
use Rattle.sliq_words.proofs.form.named.Goals as goal

pub returns : goal.returns
unfolding form_of
returns c = c.named_in.ensures
