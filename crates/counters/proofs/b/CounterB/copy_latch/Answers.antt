use Rattle.counters.specs.Counters.{copy_b}
use mathlib.Core.Path.{refl}
use Rattle.counters.proofs.b.CounterB.copy_latch.Goals as goal

pub returns : goal.returns
unfolding copy_b
returns c = refl
