use Rattle.r6501q_unseen.specs.Unseen.{ticking_of}
use Rattle.r6501q_unseen.proofs.ticking_of.Goals as goal

pub returns-then-counting_a : goal.returns-then-counting_a
unfolding ticking_of
returns-then-counting_a c = rw (← c.counting_a.ensures, c.if-counting_a.true)

pub returns : goal.returns
unfolding ticking_of
returns c = rw (← c.counting_a.ensures, c.if-counting_a.false)
