use Rattle.serial_transmitter.specs.Transmitter.{shift_clock}
use mathlib.Core.Path.{refl}
use Rattle.serial_transmitter.proofs.Transmitter.shift_clock.Goals as goal

pub returns : goal.returns
unfolding shift_clock
returns c = refl
