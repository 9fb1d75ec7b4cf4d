use Rattle.r6501q_registers.specs.Write.{start_a}
use mathlib.Core.Path.{refl}
use Rattle.r6501q_registers.proofs.write.start_a.Goals as goal

pub returns : goal.returns
unfolding start_a
returns c = rw (
  c.flip_where-latch.ensures,
  c.with_bit-flags.ensures,
  c.mode_a-mode.ensures,
  c.load-counter.ensures,
  c.with_upper.ensures,
) refl
