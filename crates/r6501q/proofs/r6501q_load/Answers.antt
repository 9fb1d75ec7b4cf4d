use Rattle.r6501q.proofs.r6501q_load.Goals as goal

pub returns : goal.returns
returns c = rw (← c.load.ensures, ← c.into.ensures)
