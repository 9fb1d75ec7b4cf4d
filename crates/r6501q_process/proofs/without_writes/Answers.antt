use Rattle.r6501q_process.proofs.without_writes.Goals as goal

pub returns : goal.returns
returns c = rw (← c.no_writes-writes.ensures)
