use Rattle.std.proofs.Math.Bool.{and_assoc}
use Rattle.r6501q_events.specs.Events.{transmitter_idle}
use Rattle.r6501q_gaps.proofs.events.transmitter_idle.Goals as goal

pub returns : goal.returns
unfolding transmitter_idle
returns c = simp and_assoc (rw c.idle_transmitter.ensures at c.eq.ensures)
