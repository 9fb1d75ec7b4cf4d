use Rattle.r6501q_unseen.specs.Unseen.{on_tick}
use borrow.Author.Tests.{le-leb, lt-leb}
use Rattle.r6501q_unseen.proofs.on_tick.Goals as goal

pub returns-then-clock-t : goal.returns-then-clock-t
unfolding on_tick
returns-then-clock-t c = rw (lt-leb _ _ c.if-clock-t.true)

pub returns : goal.returns
unfolding on_tick
returns c = rw (le-leb _ _ c.if-clock-t.false)
