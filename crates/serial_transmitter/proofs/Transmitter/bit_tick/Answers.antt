use Rattle.serial_transmitter.specs.Transmitter.{bit_tick}
use mathlib.Core.Path.{refl}
use borrow.Author.Tests.{eq-eqb, ne_eqb}
use Rattle.serial_transmitter.proofs.Transmitter.bit_tick.Goals as goal

pub returns-then-next-eq0 : goal.returns-then-next-eq0
unfolding bit_tick
returns-then-next-eq0 c = rw (
  c.frame_end.ensures,
  ← c.advance_phase-next.ensures,
  eq-eqb _ _ c.if-next-eq0.true,
) refl

pub returns : goal.returns
unfolding bit_tick
returns c = rw (← c.advance_phase-next.ensures, ne_eqb _ _ c.if-next-eq0.false)
