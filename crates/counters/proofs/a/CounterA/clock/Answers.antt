use Rattle.counters.specs.Counters.{clock_a}
use Rattle.counters.proofs.a.CounterA.clock.Goals as goal

pub returns-then-counts : goal.returns-then-counts
unfolding clock_a
returns-then-counts c = rw (← c.counts.ensures, ← c.down.ensures, c.if-counts.true)

pub returns : goal.returns
unfolding clock_a
returns c = rw (← c.counts.ensures, c.if-counts.false)
