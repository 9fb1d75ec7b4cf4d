use Rattle.serial_receiver.specs.Receiver.{frame_ended}
use Rattle.serial_receiver.proofs.Receiver.end_frame.Goals as goal

pub returns : goal.returns
unfolding frame_ended
returns c = rw (
  ← c.parity_is_wrong-wrong.ensures,
  ← c.scsr_after-status.ensures,
  ← c.byte_of-byte.ensures,
  ← c.keep.ensures,
)
