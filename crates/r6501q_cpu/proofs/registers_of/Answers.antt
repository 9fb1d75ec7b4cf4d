use Rattle.r6501q_cpu.proofs.registers_of.Goals as goal

pub returns : goal.returns
returns c = rw (← c.from.ensures)
