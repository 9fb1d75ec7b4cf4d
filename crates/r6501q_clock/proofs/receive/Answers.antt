use mathlib.Core.Path.{refl}
use Rattle.r6501q_clock.specs.Clock.{heard_by}
use Rattle.r6501q_clock.proofs.receive.Goals as goal

pub returns : goal.returns
unfolding heard_by
returns c = rw (
  c.clock-receiving.ensures,
  c.bit32-high.ensures,
  c.pin_rose-rise.ensures,
) refl
