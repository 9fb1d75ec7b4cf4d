use Rattle.serial_format.specs.Format.{has_parity}
use Rattle.bits.proofs.Cond.{one_where_le}
use native.Mathlib.Omega.{arith}
use Rattle.serial_receiver.proofs.bits_after_start.Goals as goal

pub overflow_add-result : goal.overflow_add-result
overflow_add-result c = rw c.parity_size.ensures (omega (arith, one_where_le (has_parity c.args.sccr)))

pub overflow_add-result-2 : goal.overflow_add-result-2
overflow_add-result-2 c = rw c.parity_size.ensures (omega (arith, one_where_le (has_parity c.args.sccr)))
