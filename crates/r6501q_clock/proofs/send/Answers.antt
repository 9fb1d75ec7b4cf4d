use Rattle.r6501q_clock.specs.Clock.{sent_by}
use Rattle.r6501q_clock.proofs.send.Goals as goal

pub returns : goal.returns
unfolding sent_by
returns c = rw (← c.clock-sending.ensures)
