use mathlib.Core.Path.{refl}
use Rattle.cpu_effects.specs.Effects.{interrupted}
use Rattle.cpu_effects.proofs.effects.interrupted.Goals as goal

pub returns : goal.returns
unfolding interrupted
returns c = rw (
  c.with_pc-entered.ensures,
  c.vector.ensures,
  c.with_sp-stacked.ensures,
  c.down-3.ensures,
  c.down-2.ensures,
  c.down.ensures,
  c.with_status-masked.ensures,
  c.with_i.ensures,
  c.push_interrupt-pushes.ensures,
) refl
