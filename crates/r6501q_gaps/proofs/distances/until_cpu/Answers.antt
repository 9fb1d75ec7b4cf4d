use Rattle.r6501q_events.specs.Gaps.{until_cpu}
use mathlib.Core.Path.{sym}
use native.Mathlib.Nat.{sub-zero}
use Rattle.r6501q_gaps.proofs.distances.until_cpu.Goals as goal

pub returns-then-is_some : goal.returns-then-is_some
unfolding until_cpu
returns-then-is_some c = rw (← c.is_some.ensures, c.if-is_some.true) c.saturating_sub.ensures

pub returns : goal.returns
unfolding until_cpu
returns c = rw (← c.is_some.ensures, c.if-is_some.false) (sym (sub-zero _))
