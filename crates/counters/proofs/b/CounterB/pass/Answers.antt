use mathlib.Core.Path.{refl}
use Rattle.counters.specs.Counters.{pass_b}
use Rattle.counters.proofs.b.CounterB.pass.Goals as goal

pub returns-then-counting : goal.returns-then-counting
unfolding pass_b
returns-then-counting c = rw (c.count_after_gap.ensures, c.if-counting.true) refl

pub returns : goal.returns
unfolding pass_b
returns c = rw c.if-counting.false refl
