use Rattle.counters.specs.Counters.{lower_b}
use Rattle.counters.proofs.b.CounterB.with_lower.Goals as goal

pub returns : goal.returns
unfolding lower_b
returns c = rw (← c.high_byte.ensures, ← c.word16.ensures)
