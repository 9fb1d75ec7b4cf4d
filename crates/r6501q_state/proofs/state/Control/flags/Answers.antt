use Rattle.r6501q_state.specs.Control.{flags_of}
use Rattle.r6501q_state.proofs.state.Control.flags.Goals as goal

pub returns : goal.returns
unfolding flags_of
returns c = rw (
  ← c.receiver_flag-receiver.ensures,
  ← c.transmitter_flag-transmitter.ensures,
  ← c.with_bit.ensures,
  ← c.with_bit-2.ensures,
)
