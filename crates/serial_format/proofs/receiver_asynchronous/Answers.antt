use mathlib.Core.Path.{refl}
use Rattle.serial_format.specs.Format.{receiver_asynchronous}
use Rattle.serial_format.proofs.receiver_asynchronous.Goals as goal

pub returns : goal.returns
unfolding receiver_asynchronous
returns c = rw (c.receiver_shifts.ensures, c.bit8.ensures) refl
