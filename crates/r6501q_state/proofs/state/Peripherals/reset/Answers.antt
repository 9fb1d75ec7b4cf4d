use Rattle.r6501q_state.proofs.state.Peripherals.reset.Goals as goal

pub returns : goal.returns
returns c = rw (
  ← c.fresh_ports-ports.ensures,
  ← c.fresh_control-control.ensures,
  ← c.idle_transmitter-transmitter.ensures,
  ← c.idle_receiver-receiver.ensures,
)
