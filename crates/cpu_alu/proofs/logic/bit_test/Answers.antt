use Rattle.cpu_alu.specs.Logic.{bit_of}
use Rattle.cpu_alu.proofs.logic.bit_test.Goals as goal

pub returns : goal.returns
unfolding bit_of
returns c = rw (← c.bit8.ensures, ← c.bit8-2.ensures)
