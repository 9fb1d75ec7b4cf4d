use Rattle.cpu_alu.specs.Logic.{eor_of}
use Rattle.cpu_alu.proofs.logic.eor.Goals as goal

pub returns : goal.returns
unfolding eor_of
returns c = rw c.resulting.ensures
