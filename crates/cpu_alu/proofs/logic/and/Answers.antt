use Rattle.cpu_alu.specs.Logic.{and_of}
use Rattle.cpu_alu.proofs.logic.and.Goals as goal

pub returns : goal.returns
unfolding and_of
returns c = rw c.resulting.ensures
