use Rattle.r6501q_unseen.proofs.receiver.taken_for.Goals as goal

pub returns : goal.returns
returns c = rw c.with_levels-register.ensures
