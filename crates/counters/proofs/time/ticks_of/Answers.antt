use Rattle.counters.specs.Counters.{ticks_of}
use Rattle.counters.proofs.time.ticks_of.Goals as goal

pub returns-then-underflow : goal.returns-then-underflow
unfolding ticks_of
returns-then-underflow c = rw c.if-underflow.true

pub returns-else-underflow : goal.returns-else-underflow
unfolding ticks_of
returns-else-underflow c = rw c.if-underflow.false
