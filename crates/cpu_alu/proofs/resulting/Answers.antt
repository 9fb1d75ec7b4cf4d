use Rattle.cpu_alu.proofs.resulting.Goals as goal

pub returns : goal.returns
returns c = rw c.with_nz.ensures
