use Rattle.cpu_modes.specs.Modes.{displacement}
use Rattle.std.proofs.Common.{le-ltb, lt-ltb}
use Rattle.cpu_modes.proofs.displacement.Goals as goal

pub returns-then-offset-lt128 : goal.returns-then-offset-lt128
unfolding displacement
returns-then-offset-lt128 c = rw (lt-ltb _ _ c.if-offset-lt128.true)

pub returns-else-offset-lt128 : goal.returns-else-offset-lt128
unfolding displacement
returns-else-offset-lt128 c = rw (le-ltb _ _ c.if-offset-lt128.false)
