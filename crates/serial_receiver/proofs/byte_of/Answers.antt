use Rattle.serial_format.proofs.Frames.{values_pos, data_lt}
use Rattle.serial_receiver.specs.Receiver.{received_byte}
use Rattle.serial_receiver.proofs.byte_of.Goals as goal

pub nonzero_rem-result : goal.nonzero_rem-result
nonzero_rem-result c = rw c.data_values-values.ensures (values_pos _)

pub overflow_cast-result : goal.overflow_cast-result
overflow_cast-result c = rw c.data_values-values.ensures (record { fits = data_lt _ _ })

pub returns : goal.returns
unfolding received_byte
returns c = rw (← c.data_place-place.ensures, ← c.data_values-values.ensures)
