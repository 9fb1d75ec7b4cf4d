use Rattle.cpu_alu.specs.Shift.{asl_of}
use Rattle.cpu_alu.proofs.shift.asl.Goals as goal

pub returns : goal.returns
unfolding asl_of
returns c = rw (c.resulting.ensures, c.with_c.ensures, c.bit8.ensures)
