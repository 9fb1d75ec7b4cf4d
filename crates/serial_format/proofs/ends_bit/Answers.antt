use mathlib.Core.Path.{refl}
use Rattle.serial_format.specs.Format.{pace}
use Rattle.serial_format.proofs.ends_bit.Goals as goal

pub returns-then-transmitter_shifts : goal.returns-then-transmitter_shifts
unfolding pace
returns-then-transmitter_shifts c = rw (← c.transmitter_shifts.ensures, c.if-transmitter_shifts.true) refl

pub returns : goal.returns
unfolding pace
returns c = rw (← c.transmitter_shifts.ensures, c.if-transmitter_shifts.false) refl
