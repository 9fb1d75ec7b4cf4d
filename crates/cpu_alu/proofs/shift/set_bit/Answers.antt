use Rattle.cpu_alu.specs.Shift.{set_bit_of}
use Rattle.cpu_alu.proofs.shift.set_bit.Goals as goal

pub returns : goal.returns
unfolding set_bit_of
returns c = rw c.with_bit.ensures
