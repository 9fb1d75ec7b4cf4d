use Rattle.cpu_alu.specs.Logic.{ora_of}
use Rattle.cpu_alu.proofs.logic.ora.Goals as goal

pub returns : goal.returns
unfolding ora_of
returns c = rw c.resulting.ensures
