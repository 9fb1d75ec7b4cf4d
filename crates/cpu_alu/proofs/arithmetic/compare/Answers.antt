use Rattle.cpu_alu.specs.Arithmetic.{compare_of}
use Rattle.cpu_alu.proofs.arithmetic.compare.Goals as goal

pub returns : goal.returns
unfolding compare_of
returns c = rw (← c.bit8.ensures)
