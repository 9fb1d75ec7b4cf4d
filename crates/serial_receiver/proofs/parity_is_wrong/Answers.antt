use Rattle.serial_receiver.proofs.ReceivedParity.{parity_byte}
use Rattle.serial_receiver.specs.Receiver.{wrong_parity}
use Rattle.serial_receiver.proofs.parity_is_wrong.Goals as goal

pub returns : goal.returns
unfolding wrong_parity
returns c = rw (
  ← parity_byte,
  ← c.byte_of.ensures,
  ← c.parity_bit-right.ensures,
  ← c.has_parity.ensures,
)
