use Rattle.cpu_alu.specs.Arithmetic.{overflow}
use Rattle.cpu_alu.proofs.arithmetic.overflow.Goals as goal

pub returns : goal.returns
unfolding overflow
returns c = rw (← c.bit8-x.ensures, ← c.bit8-y.ensures, ← c.bit8-z.ensures)
