use mathlib.Core.Path.{refl}
use Rattle.serial_format.proofs.frame_ending.Goals as goal

pub returns-then-has_parity : goal.returns-then-has_parity
returns-then-has_parity c = rw (
  c.one_where.ensures,
  c.parity_bit.ensures,
  ← c.has_parity.ensures,
  c.if-has_parity.true,
) refl

pub returns : goal.returns
returns c = rw (← c.has_parity.ensures, c.if-has_parity.false)
