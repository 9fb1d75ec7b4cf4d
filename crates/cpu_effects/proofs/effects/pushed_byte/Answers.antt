use mathlib.Core.Path.{refl}
use Rattle.cpu_effects.specs.Effects.{pushed_byte}
use Rattle.cpu_effects.proofs.effects.pushed_byte.Goals as goal

pub returns : goal.returns
unfolding pushed_byte
returns c = rw (
  c.executed_with.ensures,
  c.with_sp.ensures,
  c.down.ensures,
  c.one_write-pushes.ensures,
  c.stack_address.ensures,
) refl
