use mathlib.Core.Path.{refl}
use Rattle.cpu_effects.specs.Effects.{returned_from_interrupt}
use Rattle.cpu_effects.proofs.effects.returned_from_interrupt.Goals as goal

pub returns : goal.returns
unfolding returned_from_interrupt
returns c = rw (
  c.read_only.ensures,
  c.with_pc.ensures,
  c.with_status-back.ensures,
  c.with_sp.ensures,
  c.pull_address-pulled.ensures,
  c.from-status.ensures,
  c.pull-p.ensures,
) refl
