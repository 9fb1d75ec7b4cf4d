use mathlib.Core.Path.{refl}
use Rattle.serial_format.specs.Format.{receiver_shifting}
use Rattle.serial_format.proofs.receiver_shifting.Goals as goal

pub returns : goal.returns
unfolding receiver_shifting
returns c = rw (c.receiver_shifts.ensures, c.bit8.ensures) refl
