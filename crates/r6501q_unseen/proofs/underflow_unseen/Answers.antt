use Rattle.r6501q_unseen.specs.Ticks.{underflow_unseen}
use Rattle.r6501q_unseen.proofs.underflow_unseen.Goals as goal

pub returns : goal.returns
unfolding underflow_unseen
returns c = rw (← c.bit8.ensures, ← c.mode_a.ensures)
