use Rattle.r6501q_state.proofs.state.fresh_peripherals.Goals as goal

pub returns : goal.returns
returns c = rw (
  ← c.fresh_ports.ensures,
  ← c.fresh_control.ensures,
  ← c.idle_transmitter.ensures,
  ← c.idle_receiver.ensures,
)
