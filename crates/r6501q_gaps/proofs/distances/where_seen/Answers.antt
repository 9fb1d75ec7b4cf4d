use Rattle.r6501q_gaps.proofs.distances.where_seen.Goals as goal

pub returns-then-seen : goal.returns-then-seen
returns-then-seen c = rw c.if-seen.true

pub returns : goal.returns
returns c = rw c.if-seen.false
