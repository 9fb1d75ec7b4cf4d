use Rattle.counters.specs.Counters.{load_counter_a}
use mathlib.Core.Path.{refl}
use Rattle.counters.proofs.a.CounterA.load.Goals as goal

pub returns : goal.returns
unfolding load_counter_a
returns c = refl
