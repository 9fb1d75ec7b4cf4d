use Rattle.cpu_alu.specs.Shift.{lsr_of}
use Rattle.cpu_alu.proofs.shift.lsr.Goals as goal

pub returns : goal.returns
unfolding lsr_of
returns c = rw (c.resulting.ensures, c.with_c.ensures, c.bit8.ensures)
