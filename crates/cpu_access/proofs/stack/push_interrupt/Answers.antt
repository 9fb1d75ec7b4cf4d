use Rattle.cpu_access.specs.Stack.{push_interrupt}
use Rattle.cpu_access.proofs.stack.push_interrupt.Goals as goal

pub returns : goal.returns
unfolding push_interrupt
returns c = rw (
  ← c.push_high-upper.ensures,
  ← c.push_low-lower.ensures,
  ← c.down.ensures,
  ← c.down-2.ensures,
  ← c.push-flags.ensures,
)
