use mathlib.Core.Path.{refl}
use Rattle.counters.specs.Counters.{down_a}
use borrow.Author.Tests.{eq-eqb, ne_eqb}
use Rattle.counters.proofs.a.CounterA.down.Goals as goal

pub returns-then-self-eq0 : goal.returns-then-self-eq0
unfolding down_a
returns-then-self-eq0 c = rw (eq-eqb _ _ c.if-self-eq0.true) refl

pub returns : goal.returns
unfolding down_a
returns c = rw (ne_eqb _ _ c.if-self-eq0.false) refl
