use Rattle.r6501q_state.specs.Pins.{sensed, sensed_at}
use Rattle.r6501q_state.proofs.state.State.sense.Goals as goal

pub returns-then-now : goal.returns-then-now
unfolding sensed sensed_at
returns-then-now c = rw (← c.levels-now.ensures, ← c.record_edges-seen.ensures, c.if-now.true)

pub returns : goal.returns
unfolding sensed sensed_at
returns c = rw (
  ← c.levels-now.ensures,
  ← c.record_edges-seen.ensures,
  ← c.reset_low.ensures,
  c.if-now.false,
)
