use mathlib.Core.Path.{refl}
use Rattle.cpu_effects.specs.Effects.{jumped}
use Rattle.cpu_effects.proofs.effects.jumped.Goals as goal

pub returns : goal.returns
unfolding jumped
returns c = rw (c.read_only.ensures, c.with_pc.ensures) refl
