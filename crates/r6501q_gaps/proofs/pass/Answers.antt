use Rattle.r6501q_events.specs.Gaps.{pass_of}
use Rattle.r6501q_gaps.proofs.pass.Goals as goal

pub returns : goal.returns
unfolding pass_of
returns c = rw (c.pass_counters-peripherals.ensures, c.wait_after-wait.ensures)
