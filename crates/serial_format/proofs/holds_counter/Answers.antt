use mathlib.Core.Path.{refl}
use Rattle.serial_format.specs.Format.{holds_a}
use Rattle.serial_format.proofs.holds_counter.Goals as goal

pub returns : goal.returns
unfolding holds_a
returns c = rw (c.receiver_asynchronous.ensures, c.transmitter_on.ensures) refl
