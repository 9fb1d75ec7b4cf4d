use Rattle.record_text.specs.Lines.{hex_word}
use Rattle.record_text.proofs.put_word.Goals as goal

pub returns : goal.returns
unfolding hex_word
returns c = c.put_digits.ensures
