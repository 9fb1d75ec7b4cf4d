use Rattle.cpu_access.proofs.stack.no_writes.Goals as goal

pub returns : goal.returns
returns c = rw (← c.no_write-none.ensures)
