use mathlib.Core.Path.{refl}
use Rattle.cpu_effects.specs.Effects.{stored}
use Rattle.cpu_effects.proofs.effects.stored.Goals as goal

pub returns : goal.returns
unfolding stored
returns c = rw c.executed_with.ensures refl
