use Rattle.std.proofs.Common.{arith}
use Rattle.bits.proofs.Bits.{weight}
use Rattle.serial_format.specs.Format.{width}
use Rattle.serial_format.proofs.data_values.Goals as goal

pub returns : goal.returns
returns c = rw c.data_width.ensures (weight 16 (width c.args.sccr) (omega arith))
