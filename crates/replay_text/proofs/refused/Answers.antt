use Rattle.record_text.specs.Lines.{record_lines, outcome_lines}
use Rattle.replay_text.proofs.refused.Goals as goal

pub returns : goal.returns
unfolding outcome_lines record_lines
returns c = rw c.into.ensures
