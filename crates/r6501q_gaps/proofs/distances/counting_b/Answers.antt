use Rattle.r6501q_events.specs.Gaps.{counting_b}
use Rattle.r6501q_gaps.proofs.distances.counting_b.Goals as goal

pub returns : goal.returns
unfolding counting_b
returns c = rw (c.counts_through.ensures, c.mode_b.ensures)
