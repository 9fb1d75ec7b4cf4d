use Rattle.serial_transmitter.specs.Transmitter.{taken}
use mathlib.Core.Path.{refl}
use Rattle.serial_transmitter.proofs.take.Goals as goal

pub returns : goal.returns
unfolding taken
returns c = rw (c.framed.ensures, c.with_bit-status.ensures, c.with_bit.ensures) refl
