use Rattle.counters.specs.Counters.{counts_through_b}
use mathlib.Core.Path.{refl}
use Rattle.counters.proofs.b.counts_through.Goals as goal

pub returns : goal.returns
unfolding counts_through_b
returns c = refl
