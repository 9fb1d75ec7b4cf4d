use native.Mathlib.Omega.{arith}
use Rattle.r6501q_unseen.specs.Ticks.{unseen_sends}
use borrow.Author.Tests.{eq-eqb, ne_eqb}
use borrow.Author.Rules.{rules}
use Rattle.r6501q_unseen.proofs.transmitter.unseen_sends.Goals as goal

pub returns-then-not-transmitter_on : goal.returns-then-not-transmitter_on
unfolding unseen_sends
returns-then-not-transmitter_on c = (
  rw (← c.transmitter_on.ensures, c.if-not-transmitter_on.true),
  search rules,
)

pub returns-then-bit8 : goal.returns-then-bit8
unfolding unseen_sends
returns-then-bit8 c = (
  rw (
    ← c.transmitter_on.ensures,
    ← c.bit8.ensures,
    c.if-bit8.true,
    eq-eqb _ _ c.if-t-eq0.true,
    c.if-not-transmitter_on.false,
  ),
  search rules,
)

pub returns-then-t-eq0 : goal.returns-then-t-eq0
unfolding unseen_sends
returns-then-t-eq0 c = (
  rw (
    ← c.transmitter_on.ensures,
    ← c.bit8.ensures,
    c.if-bit8.false,
    eq-eqb _ _ c.if-t-eq0.true,
    c.if-not-transmitter_on.false,
  ),
  search rules,
)

pub returns-then-transmitter_shifts : goal.returns-then-transmitter_shifts
unfolding unseen_sends
returns-then-transmitter_shifts c = (
  rw (
    ← c.transmitter_on.ensures,
    ← c.transmitter_shifts.ensures,
    c.if-transmitter_shifts.true,
    ne_eqb _ _ c.if-t-eq0.false,
    c.if-not-transmitter_on.false,
  ),
  search rules,
)

pub returns-then-t-lt15 : goal.returns-then-t-lt15
unfolding unseen_sends
returns-then-t-lt15 c = (
  rw (
    ← c.transmitter_on.ensures,
    ← c.transmitter_shifts.ensures,
    c.if-transmitter_shifts.false,
    ne_eqb _ _ c.if-t-eq0.false,
    c.if-not-transmitter_on.false,
  ),
  search rules,
)

pub returns : goal.returns
unfolding unseen_sends
returns c = (
  rw (
    ← c.transmitter_on.ensures,
    ← c.transmitter_shifts.ensures,
    c.if-transmitter_shifts.false,
    ne_eqb _ _ c.if-t-eq0.false,
    c.if-not-transmitter_on.false,
  ) (omega arith),
  search rules,
)
