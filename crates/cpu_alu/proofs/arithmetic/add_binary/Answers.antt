use Rattle.cpu_alu.specs.Arithmetic.{add_binary}
use Rattle.cpu_alu.proofs.arithmetic.add_binary.Goals as goal

pub returns : goal.returns
unfolding add_binary
returns c = rw (← c.one_where.ensures, ← c.overflow-v.ensures, ← c.bit8.ensures)
