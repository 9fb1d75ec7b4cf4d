use Rattle.counters.specs.Counters.{load_counter_b}
use mathlib.Core.Path.{refl}
use Rattle.counters.proofs.b.CounterB.load.Goals as goal

pub returns : goal.returns
unfolding load_counter_b
returns c = refl
