use mathlib.Core.Path.{refl}
use Rattle.r6501q_events.specs.Gaps.{to_cpu}
use Rattle.r6501q_gaps.proofs.distances.to_cpu.Goals as goal

pub returns : goal.returns
unfolding to_cpu
returns c = rw (c.where_seen.ensures, c.until_cpu-until.ensures) refl
