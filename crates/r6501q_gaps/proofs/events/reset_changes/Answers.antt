use Rattle.r6501q_events.specs.Events.{reset_changes}
use Rattle.r6501q_gaps.proofs.events.reset_changes.Goals as goal

pub returns-then-s : goal.returns-then-s
unfolding reset_changes
returns-then-s c = rw c.if-s.true

pub returns : goal.returns
unfolding reset_changes
returns c = rw (← c.is_reset.ensures, c.if-s.false)
