use Rattle.serial_transmitter.specs.Transmitter.{frame_end}
use Rattle.serial_transmitter.proofs.Transmitter.frame_end.Goals as goal

pub returns-then-bit8 : goal.returns-then-bit8
unfolding frame_end
returns-then-bit8 c = rw (← c.with_bit-status.ensures, ← c.bit8.ensures, c.if-bit8.true)

pub returns : goal.returns
unfolding frame_end
returns c = rw (← c.take.ensures, ← c.bit8.ensures, c.if-bit8.false)
