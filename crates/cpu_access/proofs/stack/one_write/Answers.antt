use Rattle.cpu_access.proofs.stack.one_write.Goals as goal

pub returns : goal.returns
returns c = rw (← c.no_write-none.ensures)
