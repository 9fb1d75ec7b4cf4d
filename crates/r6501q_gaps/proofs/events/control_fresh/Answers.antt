use Rattle.std.proofs.Math.Bool.{and_assoc}
use Rattle.r6501q_events.specs.Events.{control_fresh}
use Rattle.r6501q_gaps.proofs.events.control_fresh.Goals as goal

pub returns : goal.returns
unfolding control_fresh
returns c = simp and_assoc (rw c.fresh_control.ensures at c.eq.ensures)
