use mathlib.Core.Path.{refl}
use Rattle.r6501q_registers.proofs.read.received_read.Goals as goal

pub returns : goal.returns
returns c = rw (
  c.with_bit-3.ensures,
  c.with_bit-2.ensures,
  c.with_bit-lower.ensures,
  c.with_bit.ensures,
) refl
