use native.Mathlib.Omega.{arith}
use Rattle.r6501q_events.specs.Gaps.{wait_after}
use Rattle.r6501q_gaps.proofs.wait_after.Goals as goal

pub returns-then-not-high : goal.returns-then-not-high
unfolding wait_after
returns-then-not-high c = rw (c.if-not-high.true)

pub returns-then-gap-wait : goal.returns-then-gap-wait
unfolding wait_after
returns-then-gap-wait c = rw (c.if-not-high.false)

pub returns : goal.returns
unfolding wait_after
returns c = rw (c.if-not-high.false) (omega (arith, c.if-gap-wait.false))
