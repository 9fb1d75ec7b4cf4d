use Rattle.counters.specs.Counters.{lower_a}
use Rattle.counters.proofs.a.CounterA.with_lower.Goals as goal

pub returns : goal.returns
unfolding lower_a
returns c = rw (← c.high_byte.ensures, ← c.word16.ensures)
