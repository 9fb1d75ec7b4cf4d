use Rattle.serial_transmitter.specs.Transmitter.{line}
use mathlib.Core.Path.{refl}
use Rattle.serial_transmitter.proofs.Transmitter.line_level.Goals as goal

pub returns : goal.returns
unfolding line
returns c = refl
