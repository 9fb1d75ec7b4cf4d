use Rattle.counters.specs.Counters.{turn_to_c}
use mathlib.Core.Path.{refl}
use Rattle.counters.proofs.b.CounterB.turn_to_c.Goals as goal

pub returns : goal.returns
unfolding turn_to_c
returns c = refl
