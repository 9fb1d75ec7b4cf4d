use Rattle.serial_format.specs.Format.{has_parity}
use Rattle.bits.proofs.Cond.{one_where_le}
use native.Mathlib.Omega.{arith}
use Rattle.serial_receiver.proofs.data_place.Goals as goal

pub overflow_sub-result : goal.overflow_sub-result
overflow_sub-result c = rw c.parity_size.ensures (omega (arith, one_where_le (has_parity c.args.sccr)))

pub overflow_sub-result-2 : goal.overflow_sub-result-2
overflow_sub-result-2 c = rw (c.data_width.ensures, c.parity_size.ensures)
    (omega (arith, one_where_le (has_parity c.args.sccr)))
