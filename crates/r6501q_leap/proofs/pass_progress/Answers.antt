use Rattle.r6501q_leap.proofs.pass_progress.Goals as goal

pub returns : goal.returns
returns c = rw c.pass-state.ensures
