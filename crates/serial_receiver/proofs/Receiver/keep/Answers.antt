use Rattle.serial_receiver.specs.Receiver.{kept_with}
use mathlib.Core.Path.{refl}
use Rattle.serial_receiver.proofs.Receiver.keep.Goals as goal

pub returns-then-bit8 : goal.returns-then-bit8
unfolding kept_with
returns-then-bit8 c = rw (← c.bit8.ensures, c.if-bit8.true) refl

pub returns : goal.returns
unfolding kept_with
returns c = rw (← c.bit8.ensures, c.if-bit8.false)
