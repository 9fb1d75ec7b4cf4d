use borrow.Author.Tests.{lt-ltb, le-ltb}
use Rattle.r6501q_step.proofs.leaps_from.Goals as goal

pub returns-then-before-after : goal.returns-then-before-after
returns-then-before-after c = rw (lt-ltb _ _ c.if-before-after.true)

pub returns-else-before-after : goal.returns-else-before-after
returns-else-before-after c = rw (le-ltb _ _ c.if-before-after.false)
