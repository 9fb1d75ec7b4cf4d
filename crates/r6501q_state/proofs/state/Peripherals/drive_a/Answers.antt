use mathlib.Core.Path.{refl}
use Rattle.r6501q_state.specs.Pins.{drive_a}
use Rattle.r6501q_state.proofs.state.Peripherals.drive_a.Goals as goal

pub returns-then-transmitter_shifts : goal.returns-then-transmitter_shifts
unfolding drive_a
returns-then-transmitter_shifts c = rw (
  c.with_bit.ensures,
  c.shift_clock.ensures,
  c.with_bit-driven.ensures,
  c.line_level.ensures,
  ← c.transmitter_shifts.ensures,
  ← c.transmitter_on.ensures,
  c.if-transmitter_shifts.true,
  c.if-transmitter_on.true,
) refl

pub returns-then-transmitter_on : goal.returns-then-transmitter_on
unfolding drive_a
returns-then-transmitter_on c = rw (
  c.with_bit-driven.ensures,
  c.line_level.ensures,
  ← c.transmitter_shifts.ensures,
  ← c.transmitter_on.ensures,
  c.if-transmitter_shifts.false,
  c.if-transmitter_on.true,
) refl

pub returns : goal.returns
unfolding drive_a
returns c = rw (← c.transmitter_on.ensures, c.if-transmitter_on.false)
