use mathlib.Core.Path.{refl}
use Rattle.counters.specs.Counters.{counts_a}
use borrow.Author.Tests.{lt-ltb, le-ltb, eq-eqb, ne_eqb}
use Rattle.counters.proofs.a.counts.Goals as goal

pub returns-then-mode-lt2 : goal.returns-then-mode-lt2
unfolding counts_a
returns-then-mode-lt2 c = rw (lt-ltb _ _ c.if-mode-lt2.true) refl

pub returns-then-mode-eq2 : goal.returns-then-mode-eq2
unfolding counts_a
returns-then-mode-eq2 c = rw (eq-eqb _ _ c.if-mode-eq2.true, le-ltb _ _ c.if-mode-lt2.false) refl

pub returns : goal.returns
unfolding counts_a
returns c = rw (ne_eqb _ _ c.if-mode-eq2.false, le-ltb _ _ c.if-mode-lt2.false) refl
