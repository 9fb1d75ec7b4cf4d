use Rattle.r6501q_events.specs.Gaps.{to_change}
use Rattle.r6501q_gaps.proofs.distances.to_change.Goals as goal

pub returns : goal.returns
unfolding to_change
returns c = rw (c.where_seen.ensures, c.levels_change.ensures)
