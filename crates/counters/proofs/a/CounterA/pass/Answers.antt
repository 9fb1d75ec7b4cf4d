use mathlib.Core.Path.{refl}
use Rattle.counters.specs.Counters.{pass_a}
use Rattle.counters.proofs.a.CounterA.pass.Goals as goal

pub returns-then-counting : goal.returns-then-counting
unfolding pass_a
returns-then-counting c = rw (c.count_after_gap.ensures, c.if-counting.true) refl

pub returns : goal.returns
unfolding pass_a
returns c = rw c.if-counting.false refl
