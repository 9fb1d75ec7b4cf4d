use Rattle.counters.specs.Counters.{counts_through_a}
use Rattle.counters.proofs.a.counts_through.Goals as goal

pub returns : goal.returns
unfolding counts_through_a
returns c = rw (← c.counts.ensures)
