use Rattle.r6501q_events.specs.Gaps.{counting_a}
use Rattle.r6501q_gaps.proofs.distances.counting_a.Goals as goal

pub returns : goal.returns
unfolding counting_a
returns c = rw (c.counts_through.ensures, c.bit32.ensures, c.mode_a.ensures)
