use Rattle.r6501q_state.specs.Pins.{levels_of}
use Rattle.r6501q_state.proofs.state.State.levels.Goals as goal

pub returns : goal.returns
unfolding levels_of
returns c = rw (← c.driven_word-driven.ensures)
