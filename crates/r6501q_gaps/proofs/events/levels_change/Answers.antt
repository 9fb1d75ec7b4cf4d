use Rattle.r6501q_events.specs.Events.{levels_change}
use Rattle.r6501q_gaps.proofs.events.levels_change.Goals as goal

pub returns : goal.returns
unfolding levels_change
returns c = rw (c.same_levels.ensures, c.levels-now.ensures)
