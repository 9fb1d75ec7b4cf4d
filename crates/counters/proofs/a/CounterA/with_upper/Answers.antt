use Rattle.counters.specs.Counters.{upper_a}
use Rattle.counters.proofs.a.CounterA.with_upper.Goals as goal

pub returns : goal.returns
unfolding upper_a
returns c = rw (← c.low_byte.ensures, ← c.word16.ensures)
