use Rattle.r6501q_state.specs.State.{fresh}
use Rattle.r6501q_state.proofs.state.fresh_state.Goals as goal

pub returns : goal.returns
unfolding fresh
returns c = rw (
  c.fresh_levels-2.ensures,
  c.fresh_levels.ensures,
  c.fresh_peripherals.ensures,
  c.fresh_cpu.ensures,
)
