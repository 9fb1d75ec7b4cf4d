use Rattle.counters.specs.Counters.{down_b}
use borrow.Author.Tests.{eq-eqb, ne_eqb}
use Rattle.counters.proofs.b.CounterB.down.Goals as goal

pub returns-then-self-eq0 : goal.returns-then-self-eq0
unfolding down_b
returns-then-self-eq0 c = rw (← c.reload-counter.ensures, eq-eqb _ _ c.if-self-eq0.true)

pub returns : goal.returns
unfolding down_b
returns c = rw (ne_eqb _ _ c.if-self-eq0.false)
