use Rattle.std.proofs.Math.Bool.{and_assoc}
use Rattle.r6501q_events.specs.Events.{same_levels}
use Rattle.r6501q_gaps.proofs.events.same_levels.Goals as goal

pub returns : goal.returns
unfolding same_levels
returns c = simp and_assoc c.eq.ensures
