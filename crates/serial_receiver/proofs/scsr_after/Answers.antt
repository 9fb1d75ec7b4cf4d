use Rattle.serial_receiver.specs.Receiver.{scsr_after}
use mathlib.Core.Path.{refl}
use Rattle.serial_receiver.proofs.scsr_after.Goals as goal

pub returns-then-bit8 : goal.returns-then-bit8
unfolding scsr_after
returns-then-bit8 c = rw (
  c.set_where-then-bit8.ensures,
  c.set_where.ensures,
  c.set_where-overrun.ensures,
  ← c.bit8.ensures,
  c.if-bit8.true,
) refl

pub returns : goal.returns
unfolding scsr_after
returns c = rw (
  c.set_where-3.ensures,
  c.set_where-2.ensures,
  c.set_where-full.ensures,
  ← c.bit8.ensures,
  c.if-bit8.false,
) refl
