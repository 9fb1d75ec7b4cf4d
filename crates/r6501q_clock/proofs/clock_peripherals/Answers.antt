use Rattle.r6501q_clock.specs.Clock.{peripherals_clock}
use Rattle.r6501q_clock.proofs.clock_peripherals.Goals as goal

pub returns : goal.returns
unfolding peripherals_clock
returns c = rw (
  ← c.count_a-counted.ensures,
  ← c.count_b-both.ensures,
  ← c.send.ensures,
  ← c.receive.ensures,
)
