use Rattle.r6501q.proofs.r6501q_total.Goals as goal

pub returns : goal.returns
returns c = rw (c.into.ensures, c.total.ensures)
