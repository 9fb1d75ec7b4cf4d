use Rattle.r6501q_clock.specs.Clock.{before_cpu}
use Rattle.r6501q_clock.proofs.before_cpu.Goals as goal

pub returns : goal.returns
unfolding before_cpu
returns c = rw (
  ← c.apply_inputs-external.ensures,
  ← c.sense-sensed.ensures,
  ← c.clock_peripherals-peripherals.ensures,
)
