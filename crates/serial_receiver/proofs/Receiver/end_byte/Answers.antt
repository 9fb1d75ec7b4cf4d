use mathlib.Core.Path.{refl}
use Rattle.serial_receiver.specs.Receiver.{byte_ended}
use Rattle.serial_receiver.proofs.Receiver.end_byte.Goals as goal

pub returns : goal.returns
unfolding byte_ended
returns c = rw (c.keep.ensures, c.scsr_after-status.ensures) refl
