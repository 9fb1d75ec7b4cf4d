use Rattle.r6501q_events.specs.Gaps.{to_underflow_b}
use Rattle.r6501q_gaps.proofs.distances.to_underflow_b.Goals as goal

pub returns : goal.returns
unfolding to_underflow_b
returns c = rw (c.where_seen.ensures, c.counting_b-counting.ensures)
