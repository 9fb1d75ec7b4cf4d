use mathlib.Core.Path.{refl}
use Rattle.counters.specs.Counters.{clock_b}
use borrow.Author.Tests.{lt-ltb, le-ltb, eq-eqb, ne_eqb}
use Rattle.counters.proofs.b.CounterB.clock.Goals as goal

pub returns-then-mode-lt2 : goal.returns-then-mode-lt2
unfolding clock_b
returns-then-mode-lt2 c = rw (c.down.ensures, lt-ltb _ _ c.if-mode-lt2.true) refl

pub returns-then-rise : goal.returns-then-rise
unfolding clock_b
returns-then-rise c = rw (
  c.down-then-rise.ensures,
  c.if-rise.true,
  eq-eqb _ _ c.if-mode-eq2.true,
  le-ltb _ _ c.if-mode-lt2.false,
) refl

pub returns-then-mode-eq2 : goal.returns-then-mode-eq2
unfolding clock_b
returns-then-mode-eq2 c = rw (c.if-rise.false, eq-eqb _ _ c.if-mode-eq2.true, le-ltb _ _ c.if-mode-lt2.false) refl

pub returns-then-rise-2 : goal.returns-then-rise-2
unfolding clock_b
returns-then-rise-2 c = rw (
  c.reload-counter.ensures,
  c.if-rise-2.true,
  ne_eqb _ _ c.if-mode-eq2.false,
  le-ltb _ _ c.if-mode-lt2.false,
) refl

pub returns : goal.returns
unfolding clock_b
returns c = rw (
  c.down-2.ensures,
  c.if-rise-2.false,
  ne_eqb _ _ c.if-mode-eq2.false,
  le-ltb _ _ c.if-mode-lt2.false,
) refl
