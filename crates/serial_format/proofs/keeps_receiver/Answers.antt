use mathlib.Core.Path.{refl}
use Rattle.serial_format.specs.Format.{keeps_receiver}
use Rattle.serial_format.proofs.keeps_receiver.Goals as goal

pub returns : goal.returns
unfolding keeps_receiver
returns c = rw (c.receiver_asynchronous.ensures, c.receiver_shifts.ensures) refl
