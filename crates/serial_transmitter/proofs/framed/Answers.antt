use Rattle.serial_format.proofs.Frames.{number_byte}
use Rattle.serial_transmitter.specs.Transmitter.{sent_bits}
use mathlib.Core.Path.{refl}
use Rattle.serial_transmitter.specs.Transmitter.{framed}
use borrow.Author.Rules.{rules}
use Rattle.serial_transmitter.proofs.framed.Goals as goal

pub returns-then-transmitter_shifts : goal.returns-then-transmitter_shifts
unfolding framed sent_bits
returns-then-transmitter_shifts c = rw (
  ← c.transmitter_shifts.ensures,
  c.if-transmitter_shifts.true,
  number_byte c.args.byte (search rules),
) refl

pub returns : goal.returns
unfolding framed sent_bits
returns c = rw (
  c.frame.ensures,
  c.frame_length.ensures,
  ← c.transmitter_shifts.ensures,
  c.if-transmitter_shifts.false,
) refl
