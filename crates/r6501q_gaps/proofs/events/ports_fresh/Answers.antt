use Rattle.std.proofs.Math.Bool.{and_assoc}
use Rattle.r6501q_events.specs.Events.{ports_fresh}
use Rattle.r6501q_gaps.proofs.events.ports_fresh.Goals as goal

pub returns : goal.returns
unfolding ports_fresh
returns c = simp and_assoc (rw c.fresh_ports.ensures at c.eq.ensures)
