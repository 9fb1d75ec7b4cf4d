use mathlib.Core.Path.{refl}
use Rattle.counters.specs.Counters.{reload_b}
use borrow.Author.Tests.{eq-eqb, ne_eqb}
use Rattle.counters.proofs.b.CounterB.reload.Goals as goal

pub returns-then-self : goal.returns-then-self
unfolding reload_b
returns-then-self c = rw (c.if-self.true, eq-eqb _ _ c.if-mode-eq1.true) refl

pub returns-then-mode-eq1 : goal.returns-then-mode-eq1
unfolding reload_b
returns-then-mode-eq1 c = rw (c.if-self.false, eq-eqb _ _ c.if-mode-eq1.true) refl

pub returns : goal.returns
unfolding reload_b
returns c = rw (ne_eqb _ _ c.if-mode-eq1.false) refl
