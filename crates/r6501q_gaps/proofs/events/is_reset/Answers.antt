use Rattle.r6501q_events.specs.Events.{is_reset}
use Rattle.r6501q_gaps.proofs.events.is_reset.Goals as goal

pub returns : goal.returns
unfolding is_reset
returns c = rw (
  ← c.ports_fresh-ports.ensures,
  ← c.control_fresh-control.ensures,
  ← c.transmitter_idle-transmitter.ensures,
  ← c.receiver_idle-receiver.ensures,
  ← c.is_some-waits.ensures,
)
