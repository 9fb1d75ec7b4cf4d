use Rattle.r6501q_events.specs.Gaps.{to_underflow_a}
use Rattle.r6501q_gaps.proofs.distances.to_underflow_a.Goals as goal

pub returns : goal.returns
unfolding to_underflow_a
returns c = rw (c.where_seen.ensures, c.counting_a-counting.ensures)
