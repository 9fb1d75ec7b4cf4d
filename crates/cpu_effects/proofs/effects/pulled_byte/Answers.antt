use mathlib.Core.Path.{refl}
use Rattle.cpu_effects.specs.Effects.{pulled_byte}
use Rattle.cpu_effects.proofs.effects.pulled_byte.Goals as goal

pub returns : goal.returns
unfolding pulled_byte
returns c = rw (
  c.read_only.ensures,
  c.with_pulled.ensures,
  c.with_sp-stacked.ensures,
  c.pull-pulled.ensures,
) refl
