use Rattle.r6501q_events.specs.Gaps.{to_reset}
use Rattle.r6501q_gaps.proofs.distances.to_reset.Goals as goal

pub returns : goal.returns
unfolding to_reset
returns c = rw (c.where_seen.ensures, c.reset_changes.ensures)
