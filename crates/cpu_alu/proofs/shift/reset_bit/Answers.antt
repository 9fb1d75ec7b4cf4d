use Rattle.cpu_alu.specs.Shift.{reset_bit_of}
use Rattle.cpu_alu.proofs.shift.reset_bit.Goals as goal

pub returns : goal.returns
unfolding reset_bit_of
returns c = rw c.with_bit.ensures
