use mathlib.Core.Path.{refl}
use Rattle.serial_format.specs.Format.{keeps_transmitter, transmitter_asynchronous}
use Rattle.serial_format.proofs.keeps_transmitter.Goals as goal

pub returns : goal.returns
unfolding keeps_transmitter transmitter_asynchronous
returns c = rw (
  c.transmitter_shifts-2.ensures,
  c.transmitter_shifts.ensures,
  c.transmitter_on.ensures,
) refl
