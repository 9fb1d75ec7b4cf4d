use Rattle.counters.specs.Counters.{upper_b}
use Rattle.counters.proofs.b.CounterB.with_upper.Goals as goal

pub returns : goal.returns
unfolding upper_b
returns c = rw (← c.low_byte.ensures, ← c.word16.ensures)
