use Rattle.cpu_alu.specs.Shift.{increment_of}
use Rattle.cpu_alu.proofs.shift.increment.Goals as goal

pub returns : goal.returns
unfolding increment_of
returns c = rw c.resulting.ensures
