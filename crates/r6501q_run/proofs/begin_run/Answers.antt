use Rattle.r6501q_run.proofs.begin_run.Goals as goal

pub returns : goal.returns
returns c = rw c.begin.ensures
