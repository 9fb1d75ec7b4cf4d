use Rattle.serial_format.specs.Format.{parity_bit}
use mathlib.Core.Path.{refl}
use Rattle.serial_format.proofs.parity_bit.Goals as goal

pub returns-then-bit8 : goal.returns-then-bit8
unfolding parity_bit
returns-then-bit8 c = rw (← c.bit8.ensures, c.odd_ones-odd.ensures, c.if-bit8.true) refl

pub returns-else-bit8 : goal.returns-else-bit8
unfolding parity_bit
returns-else-bit8 c = rw (← c.bit8.ensures, c.odd_ones-odd.ensures, c.if-bit8.false) refl
